-- What happened to the first seat of a run, step by step.
use Rattle.std.specs.Prelude.{ℕ, ◌+◌, ◌≡◌, Bool, true, List, [], ◌∷◌, ◌++◌, length, map, All, Option, Some, None}
use Rattle.farm_base.specs.Outside.{Outside}
use Rattle.tile_store.specs.Stores.{StoreTold}
use Rattle.farm_refinement.specs.Seen.{FarmSeen}
use Rattle.farm_history.specs.declared.answers.Tally.{Tally as Totals}
use Rattle.farm_history.specs.Entries.{Entry, Tally}
use Rattle.farm_history.specs.Lists.{Each}
use Rattle.reactor_ports.specs.declared.ends.FrontDone.{FrontDone}
use Rattle.reactor_ports.specs.Told.{PortsTold}
use Rattle.turn_cell.specs.Turns.{StartsWith}
use Rattle.turn_cell.specs.SeatStates.{Made, SeatState, IsSeatOf, SameSeat, Knows, joining, worn_out}
use Rattle.farm_shared.specs.Seats.{plain}
use Rattle.farm_shared.specs.declared.turned.Turned.{Turned}
use Rattle.farm_shared.specs.Shared.{Adds, IsClosed}
use Rattle.render_workers.specs.declared.worker.WorkEnd.{WorkEnd}
use Rattle.farm_runs.specs.declared.each_front.EachFront.{EachFront}
use Rattle.farm_runs.specs.declared.pool.Actor.{Actor}
use Rattle.farm_runs.specs.declared.together.RunSeats.{RunSeats}
use Rattle.front_loop.specs.Kinds.{Leaving}
use Rattle.farm_runs.specs.Actors.{WorkBy, IsReady, HasEnded, AreStanding}

module _ {T : Type 0} where
  -- the first seat after the workers' seats were joined into it, from the last one on
  abbrev pub first_seat_after : SeatState T Entry → List (Actor (SeatState T Entry))
      → SeatState T Entry
  first_seat_after v [] = v
  first_seat_after v (a ∷ rest) = joining (first_seat_after v rest) a.seat

  -- what it notes of them
  abbrev pub notes : List (Actor (SeatState T Entry)) → List (ℕ × List (ℕ × Entry))
  notes [] = []
  notes (a ∷ rest) = notes rest ++ (a.seat.number, a.seat.mine) ∷ []

  -- the workers are numbered from k on, and so are their seats
  abbrev pub Numbered : ℕ → List (Actor (SeatState T Entry)) → Type 0
  Numbered k [] = Unit {0}
  Numbered k (a ∷ rest) = (a.worker ≡ k) × (a.seat.number ≡ k + 4) × Numbered (k + 1) rest

  -- how each worker ended
  abbrev pub ends_in : List (Actor (SeatState T Entry)) → List (Option WorkEnd)
  ends_in pool = map (λ a. a.end) pool

  -- the turn of the Tally: entered, or worn
  abbrev pub IsTally : Option Totals → SeatState T Entry → SeatState T Entry → Type 0
  IsTally (Some a) u h = Adds (Tally a) u h
  IsTally None u h = h ≡ worn_out u

  -- the first seat of a run before its threads
  pub record IsStart (made : Made T) (workers : ℕ) (v : SeatState T Entry) : Type 0 where
    pub seat : IsSeatOf made v
    pub number : v.number ≡ 0
    pub is_first : v.first ≡ true
    pub unused : v.mine ≡ []
    pub unjoined : v.joined ≡ []
    pub splits : v.splits ≡ 3 + workers

  -- the seats of a run: the first, those of the fronts, and so many workers with theirs
  pub record IsSet (made : Made T) (workers : ℕ)
      (run_seats : RunSeats (SeatState T Entry)) : Type 0 where
    pub own : IsStart made workers run_seats.front_seats.own
    pub standing : AreStanding made 0 1 2 run_seats.front_seats
    pub long : length run_seats.pool.items ≡ workers
    pub ready : All (IsReady made) run_seats.pool.items
    pub numbered : Numbered 0 run_seats.pool.items

  -- a front's seat when it has ended
  pub record HasLeft (made : Made T) (n : ℕ) (leaves : Leaving) (told told' : Outside PortsTold)
      (done : FrontDone) (v : SeatState T Entry) : Type 0 where
    pub seat : IsSeatOf made v
    pub number : v.number ≡ n
    pub left : leaves told told' (plain v.mine) done v.worn

  -- a worker when it has ended
  pub record IsSpent (made : Made T) (a : Actor (SeatState T Entry)) : Type 0 where
    pub seat : IsSeatOf made a.seat
    pub work : WorkBy a.worker a.end (plain a.seat.mine)
    pub worn : a.end ≡ Some WorkEnd.Worn → a.seat.worn ≡ true

  -- what the threads left: `own` is the first seat then
  pub record Ran (made : Made T) (leaves leaves' leaves'' : Leaving) (start own : SeatState T Entry)
      (pool : List (Actor (SeatState T Entry))) (told told' : EachFront (Outside PortsTold))
      (done : EachFront FrontDone) (stopped : Bool) : Type 0 where
    pub start_is : IsStart made (length pool) start
    pub seats : EachFront (SeatState T Entry)
    pub renderd : HasLeft made 1 leaves told.renderd told'.renderd done.renderd seats.renderd
    pub tiles : HasLeft made 2 leaves' told.tiles told'.tiles done.tiles seats.tiles
    pub control : HasLeft made 3 leaves'' told.control told'.control done.control seats.control
    pub ended : HasEnded made start own seats stopped
    pub spent : Each (IsSpent made) pool
    pub numbered : Numbered 0 pool

-- The end of a run: `own` is the first seat after the threads, `h` the same at the closing, which
-- leaves the farm and the history
pub record IsEnd {D : Type 0} (state : D → Outside StoreTold) (made : Made (Turned D))
    (own : SeatState (Turned D) Entry) (pool : List (Actor (SeatState (Turned D) Entry)))
    (tally : Option Totals) (closed : FarmSeen D × List (ℕ × Entry)) : Type 0 where
  pub h : SeatState (Turned D) Entry
  pub longer : StartsWith (first_seat_after own pool).seen own.seen
  pub tallies : IsTally tally (first_seat_after own pool) h
  pub same : SameSeat (first_seat_after own pool) h
  pub known : Knows h
  pub is_closed : IsClosed state made.about.limit made.about.first.value.farm h closed.0
  pub history : closed.1 ≡ h.seen
