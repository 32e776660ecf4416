-- Inner words of ports in memory: a script under way, and a pass over its steps.
use Rattle.std.specs.Prelude.{◌≡◌, ℕ, Bool, true, false, List, ◌∷◌, Option, Some, None, cond}
use Rattle.reactor_ports.specs.declared.port_steps.PortStep.{PortStep}
use Rattle.reactor_ports.specs.Held.{PeerHeld, PortsHeld}
use Rattle.reactor_ports.specs.Playing.{is_live, is_passable, Passes, moved}
use Rattle.reactor_ports.specs.Scripts.{is_await, is_valid}

-- a script: the steps that are left, how often the Await that stands first has answered Woken, and
-- whether it was seen who is to hear Writable before the first step
pub record ScriptHeld : Type 0 where
  pub steps : List PortStep
  pub used : ℕ
  pub ready : Bool

-- a step on a connection that may be alive: it is passed over where it is not
abbrev pub GoneIf : Bool → Option Bool → Type 0
GoneIf alive None = alive ≡ true
GoneIf alive (Some reaches) = (alive ≡ false) × (reaches ≡ false)

-- whether a step is passed over: none where it is played, else whether it is an Await
abbrev pub Passings : List PeerHeld → PortStep → Option Bool → Type 0
Passings peers s None = is_live peers s ≡ true
Passings peers s (Some reaches) = (is_await s ≡ reaches) × (is_passable peers s ≡ true)

-- a script with these steps left
abbrev pub left : List PortStep → Bool → ScriptHeld → ScriptHeld
left steps true s = record { steps = steps; used = 0; ready = false }
left steps false s = record s { steps = steps }

-- a script's steps were passed over
pub record PassesScript (peers : List PeerHeld) (old new : ScriptHeld) : Type 0 where
  pub steps : List PortStep
  pub reached : Bool
  pub passes : Passes peers old.steps steps reached
  pub is : new ≡ left steps reached old

-- steps were passed over
pub record Moves (old new : PortsHeld) : Type 0 where
  pub steps : List PortStep
  pub reached : Bool
  pub passes : Passes old.peers old.steps steps reached
  pub is : new ≡ moved steps reached old

-- whether a step is in order where these connections are alive, and which are alive after it
abbrev pub Follows : List Bool → PortStep → List Bool → Bool → Type 0
Follows before s after valid =
    (rest : List PortStep) → is_valid before (s ∷ rest) ≡ cond valid (is_valid after rest) false
