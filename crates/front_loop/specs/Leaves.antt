-- What a front of a farm leaves, by its rules.
use Rattle.std.specs.Prelude.{◌≡◌, ℕ, Bool, true, List}
use Rattle.farm_base.specs.Outside.{Outside, Counted}
use Rattle.farm_history.specs.declared.queues.Reply.{Reply}
use Rattle.farm_history.specs.Entries.{Entry}
use Rattle.farm_history.specs.Lists.{Each}
use Rattle.reactor_ports.specs.declared.ends.FrontDone.{FrontDone}
use Rattle.reactor_ports.specs.declared.ends.FrontEnd.{FrontEnd}
use Rattle.reactor_ports.specs.Told.{PortsTold}
use Rattle.front_loop.specs.Rules.{Rules, Move, Gets}
use Rattle.front_loop.specs.Serving.{FrontRun}
use Rattle.front_loop.specs.Kinds.{IsOfFront}

-- What a front with these rules leaves: its own entries, what its ports tell and what it hands back
-- are those of its rounds; and it ends Broken only where its ports' count of faults rose
pub record FrontLeaves {A W : Type 0} (R : Rules A W) (shown after : Outside PortsTold)
    (es : List Entry) (done : FrontDone) (worn : Bool) : Type 0 where
  pub served : FrontRun R shown.told after.told es done.end done.rests.items done.starved worn
  pub broken : done.end ≡ FrontEnd.Broken → Counted shown.faults after.faults

-- the rules are those of front n of a farm: they have its number, and what is done for a request or
-- a reply is a front's
pub record IsFront (n : ℕ) {A W : Type 0} (R : Rules A W) : Type 0 where
  pub number : R.number ≡ n
  pub acts : (c : ℕ) (a : A) → Each (IsOfFront n) (R.entries c a)
  pub behinds : (ms : List (Move A)) (r : Reply) (behind : List Entry)
      → R.fits ms (Gets r behind) ≡ true
      → Each (IsOfFront n) behind
