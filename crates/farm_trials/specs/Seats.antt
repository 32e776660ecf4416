-- The seat of a front.
use Rattle.std.specs.Prelude.{◌≡◌}
use Rattle.farm_history.specs.Entries.{Entry}
use Rattle.turn_cell.specs.SeatStates.{Made, SeatState, IsSeatOf}

-- a seat of front 0
abbrev pub IsFront : {T : Type 0} → Made T → SeatState T Entry → Type 0
IsFront made v = IsSeatOf made v × (v.number ≡ 1)
