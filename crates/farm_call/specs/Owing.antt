-- That a farm which was served owes nothing at its end.
use Rattle.std.specs.Prelude.{◌≡◌, ℕ, Bool, List, [], ◌∷◌, ◌++◌, Option}
use Rattle.reactor_ports.specs.declared.ends.FrontEnd.{FrontEnd}
use Rattle.reactor_ports.specs.declared.ends.Rest.{Rest}
use Rattle.reactor_ports.specs.Told.{PortsTold}
use Rattle.farm_history.specs.Entries.{Entry}
use Rattle.front_loop.specs.Rules.{EachSoFar, Rules}
use Rattle.front_loop.specs.Rounds.{FrontRound}
use Rattle.front_loop.specs.RoundRules.{LeaveFits, EndsWhole}
use Rattle.front_loop.specs.Serving.{FrontRun, rests_of}

-- the last round, which is the first of the list, is whole
abbrev pub LastIsWhole : {A W : Type 0} → Rules A W → List (FrontRound A) → Type 0
LastIsWhole R [] = ⊥
LastIsWhole R (r ∷ rs) = EndsWhole R rs r

-- A front owes nothing after these rounds.
pub record OwesNothing {A W : Type 0} (R : Rules A W) (rounds : List (FrontRound A))
    (rests : List Rest) : Type 0 where
  -- The last Collect gave no reply, and on each connection that is there every whole request was
  -- done and has all its entries, and all that was answered was offered
  pub whole : LastIsWhole R rounds
  -- So it is of each that is there no more; it was left for a cause, and the requests of one whose
  -- rest was full, or for which memory was wanting, may lack entries
  pub gone : (later before : List (FrontRound A)) (r : FrontRound A) → rounds ≡ later ++ r ∷ before
      → EachSoFar (LeaveFits R before r) r.left
  -- What was answered on a connection that is there, and not taken by the ports, is in the rests
  pub answers : rests ≡ rests_of R rounds

-- so it is of what the front did
abbrev pub IsPaidUp : {A W : Type 0} {R : Rules A W} {start told : Option PortsTold}
    {mine : List Entry} {end : FrontEnd} {rests : List Rest} {starved : ℕ} {worn : Bool}
    → FrontRun R start told mine end rests starved worn → Type 0
IsPaidUp {A} {W} {R} {start} {told} {mine} {end} {rests} run = OwesNothing R run.rounds rests
