-- What is promised of a whole run of a farm: of the history that its actors made, of what each of
-- them did in it, and of the farm that is left.
use Rattle.std.specs.Prelude.{◌⊎◌, ℕ, ◌+◌, ◌≤◌, ◌≡◌, ◌≢◌, ◌==◌, Bool, true, false, if◌then◌else◌, List, [], ◌∷◌, ◌++◌, length, slice_get, Option, Some, None}
use Rattle.std.specs.List.{list_any}
use Rattle.farm_base.specs.Limits.{most_turns}
use Rattle.farm_base.specs.Outside.{Outside}
use Rattle.tile_store.specs.Stores.{StoreTold}
use Rattle.farm_history.specs.declared.answers.Tally.{Tally as Totals}
use Rattle.farm_history.specs.Entries.{Entry, EachMoment, Stop, Tally}
use Rattle.farm_history.specs.Laws.{has_plain_update}
use Rattle.farm_history.specs.Past.{flights}
use Rattle.farm_refinement.specs.Seen.{FarmSeen}
use Rattle.farm_core.specs.Begins.{Tells}
use Rattle.reactor_ports.specs.declared.ends.FrontDone.{FrontDone}
use Rattle.reactor_ports.specs.declared.ends.FrontEnd.{FrontEnd}
use Rattle.reactor_ports.specs.Told.{PortsTold}
use Rattle.turn_cell.specs.Turns.{by, NoneAbove}
use Rattle.farm_shared.specs.Seats.{plain}
use Rattle.farm_shared.specs.Shared.{lasting_of, past, IsAfter}
use Rattle.render_workers.specs.declared.worker.WorkEnd.{WorkEnd}
use Rattle.farm_laws.specs.Locality.{IsSentNow}
use Rattle.farm_laws.specs.Promise.{Promise}
use Rattle.farm_runs.specs.declared.each_front.EachFront.{EachFront}
use Rattle.front_loop.specs.Kinds.{Leaving}
use Rattle.farm_runs.specs.Actors.{WorkBy}

-- A history H of a run is a list of pairs, a seat's number and an entry, in the order of the turns.
-- Seat 0 is the run's own, seats 1 to 3 are those of the fronts, and seat w + 4 is that of worker
-- w.

-- what a run tells beside its fronts: whether a worker ended since all turns were drawn; whether
-- the run's own Stop was entered; and its Tally, if that was
pub record Ends : Type 0 where
  pub worn : Bool
  pub stopped : Bool
  pub tally : Option Totals

-- the entries of the run's own seat
abbrev pub own_entries : Bool → Option Totals → List Entry
own_entries true (Some a) = Stop ∷ Tally a ∷ []
own_entries true None = Stop ∷ []
own_entries false (Some a) = Tally a ∷ []
own_entries false None = []

-- whether a worker ended since all turns were drawn
abbrev pub is_worker_worn : Option WorkEnd → Bool
is_worker_worn (Some WorkEnd.Worn) = true
is_worker_worn (Some WorkEnd.Stopped) = false
is_worker_worn None = false

-- the end of front n, which is 1, 2 or 3
abbrev pub end_of_front : EachFront FrontDone → ℕ → FrontEnd
end_of_front done n =
    if n == 1 then done.renderd.end else if n == 2 then done.tiles.end else done.control.end

-- Whose the entries are: the run's own seat has a Stop and then a Tally, each of which is missing
-- only where all turns were drawn; and there are no entries but its own, the fronts' and the
-- workers'
pub record AreSeated (workers : ℕ) (ends : Ends) (H : List (ℕ × Entry)) : Type 0 where
  pub own : plain (by 0 H) ≡ own_entries ends.stopped ends.tally
  pub none_above : NoneAbove (3 + workers) H
  pub unstopped : ends.stopped ≡ false → most_turns ≤ length H
  pub untallied : ends.tally ≡ None → most_turns ≤ length H
  -- the Tally is the last entry
  pub last : (a : Totals) → ends.tally ≡ Some a → (before : List (ℕ × Entry))
      × (H ≡ before ++ (0, Tally a) ∷ [])

-- What a front did: its own entries are those of what it leaves; it ended worn only where all turns
-- were drawn
pub record IsServed (leaves : Leaving) (told told' : Outside PortsTold) (done : FrontDone)
    (es : List Entry) (length_is : ℕ) : Type 0 where
  pub worn : Bool
  pub left : leaves told told' es done worn
  pub worn_out : worn ≡ true → most_turns ≤ length_is

-- What the workers did: the entries of each are its Claims, each Job with its Finish; one ended
-- worn only where all turns were drawn; and no drawing is under way at the end, unless one did. `h`
-- is the farm's history
pub record AreWorked (workers : ℕ) (worn : Bool) (H : List (ℕ × Entry))
    (h : List Entry) : Type 0 where
  -- how each worker ended, if it was begun
  pub ended : List (Option WorkEnd)
  pub as_many : length ended ≡ workers
  pub each : (w : ℕ) (end : Option WorkEnd) → slice_get ended w ≡ Some end
      → WorkBy w end (plain (by (w + 4) H))
  pub worn_is : worn ≡ list_any is_worker_worn ended
  pub worn_out : worn ≡ true → most_turns ≤ length H
  pub landed : worn ≡ false → flights h ≡ []

-- A Stop of seat n, before those entries of H: it is the control front's, of whose lines or end it
-- then is by that front's own entries; or it is the last entry of another front, which ended
-- otherwise than Finished; or it is the run's own, after all entries of the fronts
abbrev pub IsStop : EachFront FrontDone → ℕ → List (ℕ × Entry) → Type 0
IsStop done n after =
    (n ≡ 3) ⊎ (((1 ≤ n) × (n ≤ 3) × (by n after ≡ []) × (end_of_front done n ≢ FrontEnd.Finished))
    ⊎ ((n ≡ 0) × (by 1 after ≡ []) × (by 2 after ≡ []) × (by 3 after ≡ [])))

-- The whole promise. `first` is the farm that the run began with, `farm` the one that is left, and
-- H what happened between them
pub record RunsWell {D : Type 0} (state : D → Outside StoreTold) (first farm : FarmSeen D)
    (H : List (ℕ × Entry)) (leaves leaves' leaves'' : Leaving)
    (told told' : EachFront (Outside PortsTold)) (done : EachFront FrontDone)
    (ends : Ends) : Type 0 where
  -- the promise holds of all that happened, after what the farm began with
  pub headline : Promise first.plan (Tells (state first.first) first.plan first.saved)
      (past (lasting_of state first) H)
  -- and where every update that succeeded was made as a renew, over a store that tells what it
  -- holds, each tile sent as clean is the plain drawing over the data of that very moment
  pub sent_now : Tells (state first.first) first.plan first.saved
      → has_plain_update (past (lasting_of state first) H) ≡ false
      → EachMoment (IsSentNow first.plan) (past (lasting_of state first) H)
  -- the farm that is left stands for it, and kept what no event changes
  pub after : IsAfter state farm H
  pub kept : lasting_of state farm ≡ lasting_of state first
  -- whose the entries are, and what the fronts and the workers did
  pub seated : AreSeated first.plan.workers ends H
  pub renderd : IsServed leaves told.renderd told'.renderd done.renderd (plain (by 1 H)) (length H)
  pub tiles : IsServed leaves' told.tiles told'.tiles done.tiles (plain (by 2 H)) (length H)
  pub control : IsServed leaves'' told.control told'.control done.control (plain (by 3 H))
      (length H)
  pub worked : AreWorked first.plan.workers ends.worn H (past (lasting_of state first) H)
  -- who stopped the farm
  pub stops : (before after : List (ℕ × Entry)) (n : ℕ) → H ≡ before ++ (n, Stop) ∷ after
      → IsStop done n after
