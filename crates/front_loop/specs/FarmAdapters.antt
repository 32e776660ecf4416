-- What fronts know of the seats of a shared farm, and of its maps.
use Rattle.std.specs.Prelude.{ℕ, List, Option}
use Rattle.farm_history.specs.Entries.{Entry}
use Rattle.turn_cell.specs.SeatStates.{Made, SeatState, IsSeatOf, Knows}
use Rattle.farm_shared.specs.Seats.{plain}
use Rattle.farm_shared.specs.declared.turned.Turned.{Turned}
use Rattle.farm_shared.specs.Shared.{maps_of}
use Rattle.front_loop.specs.Calls.{Seats}
use Rattle.front_loop.specs.Rules.{Rules}
use Rattle.front_loop.specs.declared.context.Context.{Context}
use Rattle.front_loop.specs.declared.adapter.FarmAdapter.{FarmAdapter}
use Rattle.front_loop.specs.declared.adapter.Place.{Place}

-- A seat of this farm has seen a history in which its own entries stand and no others of its number. What stays of it over its turns
-- is all that its joining and the closing want. Its own entries are told without their number.
abbrev pub seats_of : {D : Type 0} → Made (Turned D) → Seats (SeatState (Turned D) Entry) Place
seats_of made = record {
  is_seat = λ s. IsSeatOf made s × Knows s;
  number = λ s. s.number;
  place = λ s. record { first = s.first; splits = s.splits; joined = s.joined };
  mine = λ s. plain s.mine;
  worn = λ s. s.worn;
}

-- the rules of a front at a shared farm, of what it is served with
abbrev pub shared_rules : {R D B F A W : Type 0} → (F → (List ℕ → Option ℕ) → Rules A W)
    → Context R (FarmAdapter D B) F → Rules A W
shared_rules rules work = rules work.front.now (maps_of work.farm.now.farm.now)
