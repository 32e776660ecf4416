-- What a front of a farm may leave, whichever it is.
use Rattle.std.specs.Prelude.{◌⊎◌, ℕ, ◌≡◌, ◌≢◌, Bool, true, List, [], ◌∷◌, ◌++◌}
use Rattle.farm_base.specs.Outside.{Outside}
use Rattle.farm_history.specs.Entries.{Entry, Claim, Finish, Stop}
use Rattle.farm_history.specs.Lists.{Each}
use Rattle.reactor_ports.specs.declared.ends.FrontDone.{FrontDone}
use Rattle.reactor_ports.specs.declared.ends.FrontEnd.{FrontEnd}
use Rattle.reactor_ports.specs.Told.{PortsTold}

-- What a front leaves: a relation of what its ports showed before and after, its own entries in
-- order, what it answers, and whether its seat has the mark of a worn cell
abbrev pub Leaving : Type 1
Leaving = Outside PortsTold → Outside PortsTold → List Entry → FrontDone → Bool → Type 0

-- the entry may be one of front n before its end: no front claims or finishes, and a Stop is the
-- control front's alone
abbrev pub IsOfFront : ℕ → Entry → Type 0
IsOfFront n (Claim worker answer) = ⊥
IsOfFront n (Finish ticket drawn answer) = ⊥
IsOfFront n Stop = n ≡ 2
IsOfFront n _ = Unit {0}

-- the entries of front n with that end: such entries, and then at most a Stop, which a front that
-- finished does not put
pub record AreOfFront (n : ℕ) (es : List Entry) (end : FrontEnd) : Type 0 where
  pub served : List Entry
  pub stop : List Entry
  pub are : es ≡ served ++ stop
  pub kinds : Each (IsOfFront n) served
  pub may_stop : (stop ≡ []) ⊎ ((stop ≡ Stop ∷ []) × (end ≢ FrontEnd.Finished))

-- A front that was not begun, since no thread was to be had for it, or for another actor: it has
-- put its Stop and ends for want of memory, or not even that, since all turns were drawn
pub record IsUnbegun (es : List Entry) (done : FrontDone) (worn : Bool) : Type 0 where
  pub no_rests : done.rests.items ≡ []
  pub none_starved : done.starved ≡ 0
  pub ended : ((es ≡ Stop ∷ []) × (done.end ≡ FrontEnd.NoMemory))
      ⊎ ((es ≡ []) × (done.end ≡ FrontEnd.Worn) × (worn ≡ true))
