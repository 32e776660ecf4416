-- What the next event of ports in memory is.
use Rattle.std.specs.Prelude.{◌≡◌, ◌+◌, ◌^◌, ◌⊎◌, ◌&&◌, ◌||◌, not, nat_lt, cond, ℕ, Bool, true, false, List, [], ◌∷◌, ◌++◌, length, map, Option, Some, None, position}
use Rattle.std.specs.List.{list_all, list_any, slice_get}
use Rattle.reactor_ports.specs.declared.events.PortEvent.{PortEvent}
use Rattle.reactor_ports.specs.declared.events.PortEvent.TheVariants as event
use Rattle.reactor_ports.specs.declared.events.PortItem.TheVariants as item
use Rattle.reactor_ports.specs.declared.port_steps.PortStep.{PortStep}
use Rattle.reactor_ports.specs.declared.port_steps.PortStep.TheVariants as step
use Rattle.reactor_ports.specs.Held.{PeerHeld, PortsHeld, change, closed, with_end, logged}
use Rattle.reactor_ports.specs.Scripts.{is_await}

-- a connection as its Opened leaves it
abbrev pub fresh : PeerHeld
fresh = record { taken = []; up = true; ended = false; short = false; due = false }

-- the connection is open, and its peer may still send
abbrev pub is_alive : PeerHeld → Bool
is_alive p = p.up && not p.ended

abbrev pub alive_of : Option PeerHeld → Bool
alive_of None = false
alive_of (Some p) = is_alive p

abbrev pub is_alive_at : List PeerHeld → ℕ → Bool
is_alive_at peers c = alive_of (slice_get peers c)

-- A connection is to hear Writable before a step where it is alive and its last send was short.
abbrev pub marked : PeerHeld → PeerHeld
marked p = record p { due = is_alive p && p.short }

-- it was marked and is still alive
abbrev pub is_due : PeerHeld → Bool
is_due p = p.due && is_alive p

-- it has heard Writable
abbrev pub writable_told : PeerHeld → PeerHeld
writable_told p = record p { due = false }

-- Is the step played? One on a connection that is not alive is passed over.
abbrev pub is_live : List PeerHeld → PortStep → Bool
is_live peers (step.Bytes c piece) = is_alive_at peers c
is_live peers (step.End c) = is_alive_at peers c
is_live peers (step.Lose c) = is_alive_at peers c
is_live peers step.Open = true
is_live peers (step.Await front n) = true
is_live peers step.Break = true

-- A step that may be passed over without an event: an Await, which was then reached, or one on a
-- connection that is not alive.
abbrev pub is_passable : List PeerHeld → PortStep → Bool
is_passable peers s = cond (is_await s) true (not (is_live peers s))

-- these steps are left of those, and the steps before them were passed over; was an Await among
-- them?
pub record Passed (peers : List PeerHeld) (old new : List PortStep) (reached : Bool) : Type 0 where
  pub skipped : List PortStep
  pub split : old ≡ skipped ++ new
  pub passable : list_all (is_passable peers) skipped ≡ true
  pub reached_is : reached ≡ list_any is_await skipped

-- the first of the steps, if there is one, is played
abbrev pub BeginsLive : List PeerHeld → List PortStep → Type 0
BeginsLive peers [] = Unit {0}
BeginsLive peers (s ∷ rest) = is_live peers s ≡ true

-- so many steps were passed over that the first of those that are left is played
pub record Passes (peers : List PeerHeld) (old new : List PortStep) (reached : Bool) : Type 0 where
  pub passed : Passed peers old new reached
  pub begins : BeginsLive peers new

-- ports with these steps left; past an Await all begins anew: no Woken of the next one, and nobody
-- marked
abbrev pub moved : List PortStep → Bool → PortsHeld → PortsHeld
moved steps true h = record h { steps = steps; used = 0; ready = false }
moved steps false h = record h { steps = steps }

-- no step is left
abbrev pub is_through : List PortStep → Bool
is_through [] = true
is_through (s ∷ rest) = false

-- it was seen who is to hear Writable before the first step, or there is no step
abbrev pub is_marked : PortsHeld → Bool
is_marked h = h.ready || is_through h.steps

-- once before each step it is seen who is to hear Writable; past the last step nobody is
abbrev pub readied : PortsHeld → PortsHeld
readied h = cond (is_marked h) h (record h { peers = map marked h.peers; ready = true })

-- ports that are ready for the next event
pub record Readies (old ready : PortsHeld) : Type 0 where
  pub steps : List PortStep
  pub reached : Bool
  pub passes : Passes old.peers old.steps steps reached
  pub is : ready ≡ readied (moved steps reached old)

-- an event, its piece, and the ports after it
pub record Play : Type 0 where
  pub event : PortEvent
  pub piece : List ℕ
  pub after : PortsHeld

-- the next step is to come
abbrev pub stepped : List PortStep → PortsHeld → PortsHeld
stepped rest h = record h { steps = rest; used = 0; ready = false }

-- an event without a piece, with its line of the record
abbrev pub plain : PortEvent → PortsHeld → Play
plain e h = record { event = e; piece = []; after = logged (item.Heard e []) h }

-- The event of a first step that is played. Past the last step it is Finished. An Await answers
-- Woken until it has used its turns, and then Finished. An Open past `2^32` connections is want of
-- memory.
abbrev pub play_step : List PortStep → PortsHeld → Play
play_step [] h = plain event.Finished h
play_step (step.Open ∷ rest) h = cond (nat_lt (length h.peers) (2 ^ 32))
    (plain (event.Opened (length h.peers))
    (record (stepped rest h) { peers = h.peers ++ fresh ∷ [] }))
    (record { event = event.NoMemory; piece = []; after = h })
play_step (step.Bytes c piece ∷ rest) h = record {
  event = event.Bytes c;
  piece = piece;
  after = stepped rest (logged (item.Heard (event.Bytes c) piece) h);
}
play_step (step.End c ∷ rest) h =
    plain (event.Ended c) (record (stepped rest h) { peers = change with_end c h.peers })
play_step (step.Lose c ∷ rest) h =
    plain (event.Lost c) (record (stepped rest h) { peers = change closed c h.peers })
play_step (step.Await front n ∷ rest) h = cond (nat_lt h.used h.turns)
    (plain event.Woken (record h { used = h.used + 1 }))
    (plain event.Finished h)
play_step (step.Break ∷ rest) h = plain event.Broken (stepped rest h)

-- Writable of the first connection that is marked, if there is one; else the event of the first
-- step
abbrev pub play_due : Option ℕ → PortsHeld → Play
play_due (Some c) h = plain (event.Writable c) (record h { peers = change writable_told c h.peers })
play_due None h = play_step h.steps h

-- the next event of ports that are ready for it
abbrev pub play : PortsHeld → Play
play h = play_due (position is_due h.peers) h

-- the event came, with its piece and its change; or memory was wanting, and nothing changed
abbrev pub PlayedBy : Play → PortsHeld → PortEvent → PortsHeld → List ℕ → Type 0
PlayedBy p old e new room =
    ((e ≡ event.NoMemory) × (new ≡ old)) ⊎ ((e ≡ p.event) × (new ≡ p.after) × (room ≡ p.piece))

-- A next, exactly: the ports are made ready, and then the event that is next comes.
pub record Plays (old new : PortsHeld) (e : PortEvent) (room : List ℕ) : Type 0 where
  pub ready : PortsHeld
  pub readies : Readies old ready
  pub plays : PlayedBy (play ready) ready e new room

-- the script is through, or the Await that stands first has used its turns
abbrev pub IsOver : List PortStep → ℕ → ℕ → Type 0
IsOver [] used turns = Unit {0}
IsOver (step.Await front n ∷ rest) used turns = nat_lt used turns ≡ false
IsOver (step.Open ∷ rest) used turns = ⊥
IsOver (step.Bytes c piece ∷ rest) used turns = ⊥
IsOver (step.End c ∷ rest) used turns = ⊥
IsOver (step.Lose c ∷ rest) used turns = ⊥
IsOver (step.Break ∷ rest) used turns = ⊥

-- Where nobody is to hear Writable, and the script is through or the Await that stands first has
-- used its turns, the next event is Finished.
abbrev pub FinishedWhereOver : Type 0
FinishedWhereOver = (h : PortsHeld) → position is_due h.peers ≡ None → IsOver h.steps h.used h.turns
    → (play h).event ≡ event.Finished
