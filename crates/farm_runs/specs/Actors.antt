-- The actors of a running farm: three fronts and some workers, each with a seat of its own.
use Rattle.std.specs.Prelude.{ℕ, ◌+◌, ◌≡◌, Bool, true, List, [], Option, Some, None, MatchBool}
use Rattle.farm_base.specs.Outside.{Outside}
use Rattle.farm_history.specs.Entries.{Entry, Stop}
use Rattle.reactor_ports.specs.declared.ends.FrontDone.{FrontDone}
use Rattle.reactor_ports.specs.declared.ports.ThreePorts.{ThreePorts}
use Rattle.reactor_ports.specs.Told.{PortsTold}
use Rattle.front_loop.specs.Rules.{Rules}
use Rattle.front_loop.specs.Kinds.{Leaving}
use Rattle.front_loop.specs.Leaves.{FrontLeaves}
use Rattle.turn_cell.specs.SeatStates.{Made, SeatState, IsSeatOf, SameSeat, Knows, joining, worn_out}
use Rattle.farm_shared.specs.Seats.{plain}
use Rattle.farm_shared.specs.Shared.{Adds}
use Rattle.render_workers.specs.declared.worker.WorkEnd.{WorkEnd}
use Rattle.render_workers.specs.Rounds.{WorkOf}
use Rattle.farm_runs.specs.declared.each_front.EachFront.{EachFront}
use Rattle.farm_runs.specs.declared.pool.Actor.{Actor}
use Rattle.farm_runs.specs.declared.together.FrontSeats.{FrontSeats}

-- Workers.

-- the entries of worker w, which has ended so; none where it was not begun
abbrev pub WorkBy : ℕ → Option WorkEnd → List Entry → Type 0
WorkBy w None es = es ≡ []
WorkBy w (Some end) es = WorkOf w end es

-- Seats.

-- the first seat after the seats of the three fronts were joined into it
abbrev pub with_front_seats : {T : Type 0} → SeatState T Entry → EachFront (SeatState T Entry)
    → SeatState T Entry
with_front_seats v seats = joining (joining (joining v seats.renderd) seats.tiles) seats.control

module _ {T : Type 0} (made : Made T) where
  -- the seat of front n before the front begins
  pub record IsFrontSeat (n : ℕ) (v : SeatState T Entry) : Type 0 where
    pub seat : IsSeatOf made v
    pub known : Knows v
    pub number : v.number ≡ n + 1
    pub unused : v.mine ≡ []

  -- the front has served through the seat: it is a seat as before, and what the front leaves is as
  -- it should be
  pub record HasServed (leaves : Leaving) (v w : SeatState T Entry) (told told' : Outside PortsTold)
      (done : FrontDone) : Type 0 where
    pub seat : IsSeatOf made w
    pub same : SameSeat v w
    pub left : leaves told told' (plain w.mine) done w.worn

  -- a worker before it begins
  pub record IsReady (a : Actor (SeatState T Entry)) : Type 0 where
    pub seat : IsSeatOf made a.seat
    pub unused : a.seat.mine ≡ []
    pub not_ended : a.end ≡ None

  -- the worker has worked: it has its number and its seat, its own entries are those of its rounds,
  -- and where it ended worn its seat has the mark
  pub record HasWorked (a b : Actor (SeatState T Entry)) : Type 0 where
    pub worker : b.worker ≡ a.worker
    pub seat : IsSeatOf made b.seat
    pub same : SameSeat a.seat b.seat
    pub work : WorkBy b.worker b.end (plain b.seat.mine)
    pub worn : b.end ≡ Some WorkEnd.Worn → b.seat.worn ≡ true

  -- The end of the fronts.

  -- The first seat has joined the seats of the fronts, and has then stopped the farm. True where
  -- the Stop was entered, false where all turns were drawn
  pub record HasEnded (v w : SeatState T Entry) (seats : EachFront (SeatState T Entry))
      (entered : Bool) : Type 0 where
    pub seat : IsSeatOf made w
    pub same : SameSeat (with_front_seats v seats) w
    pub known : Knows w
    pub known_before : Knows (with_front_seats v seats)
    pub stops : MatchBool entered (Adds Stop (with_front_seats v seats) w)
        (w ≡ worn_out (with_front_seats v seats))

  -- A run.

  -- the first seat and those of the fronts before a run; the fronts have these numbers
  pub record AreStanding (n m k : ℕ) (front_seats : FrontSeats (SeatState T Entry)) : Type 0 where
    pub own : IsSeatOf made front_seats.own
    pub is_first : front_seats.own.first ≡ true
    pub seats : EachFront (SeatState T Entry)
    pub are : front_seats.seats ≡ Some seats
    pub renderd : IsFrontSeat n seats.renderd
    pub tiles : IsFrontSeat m seats.tiles
    pub control : IsFrontSeat k seats.control

  -- The fronts have served through their seats, and left what they leave; then these were joined
  -- into the first seat, which stopped the farm
  pub record HaveServed (leaves leaves' leaves'' : Leaving)
      (old new : FrontSeats (SeatState T Entry)) (told told' : EachFront (Outside PortsTold))
      (done : EachFront FrontDone) (entered : Bool) : Type 0 where
    pub began : EachFront (SeatState T Entry)
    pub are : old.seats ≡ Some began
    pub ended : EachFront (SeatState T Entry)
    pub renderd : HasServed leaves began.renderd ended.renderd told.renderd told'.renderd
        done.renderd
    pub tiles : HasServed leaves' began.tiles ended.tiles told.tiles told'.tiles done.tiles
    pub control : HasServed leaves'' began.control ended.control told.control told'.control
        done.control
    pub own : HasEnded old.own new.own ended entered

-- the number of a front, by its rules at a farm that has the maps of these names
abbrev pub number_in : {F A W : Type 0} → (F → (List ℕ → Option ℕ) → Rules A W) → F
    → (List ℕ → Option ℕ) → ℕ
number_in rules front maps = (rules front maps).number

-- what a front leaves, by its rules at a farm that has the maps of these names
abbrev pub leaving : {F A W : Type 0} → (F → (List ℕ → Option ℕ) → Rules A W) → F
    → (List ℕ → Option ℕ) → Leaving
leaving rules front maps = FrontLeaves (rules front maps)

-- what three ports show
abbrev pub three : Outside PortsTold → Outside PortsTold → Outside PortsTold
    → EachFront (Outside PortsTold)
three p q r = record { renderd = p; tiles = q; control = r }

-- what the ports of the three fronts show
abbrev pub each_port : {P B : Type 0} → (P → Outside PortsTold) → ThreePorts P B
    → EachFront (Outside PortsTold)
each_port state ports = three (state ports.renderd) (state ports.tiles) (state ports.control)
