-- What one round of a worker adds.
use Rattle.std.specs.Prelude.{ℕ, ◌≡◌, true, List}
use Rattle.farm_history.specs.Entries.{Entry}
use Rattle.std.specs.List.{flat_map}
use Rattle.turn_cell.specs.SeatStates.{Made, SeatState, IsSeatOf, SameSeat}
use Rattle.render_workers.specs.declared.worker.WorkEnd.{WorkEnd}
use Rattle.render_workers.specs.declared.worker.Next.{Next}
use Rattle.render_workers.specs.Rounds.{Round, round_entries, LastEntries, Gains}

-- the round gained the entries of a round, or those of an end
abbrev pub AddsRound : {T : Type 0} → ℕ → Next → SeatState T Entry → SeatState T Entry → Type 0
AddsRound w (Next.End end) v u = (last : List Entry) × Gains last v u × LastEntries w end last
AddsRound w _ v u = (r : Round) × Gains (round_entries w r) v u

-- where it ends Worn, the seat has the mark
abbrev pub IsWornOut : {T : Type 0} → Next → SeatState T Entry → Type 0
IsWornOut (Next.End WorkEnd.Worn) u = u.worn ≡ true
IsWornOut _ u = Unit {0}

-- a worker that has worked so far: its seat is one of the farm, with its number, splits and joins, and has gained whole rounds
pub record IsWorking {T : Type 0} (made : Made T) (w : ℕ) (old now : SeatState T Entry)
    : Type 0 where
  pub seat : IsSeatOf made now
  pub same : SameSeat old now
  pub rounds : List Round
  pub gains : Gains (flat_map (round_entries w) rounds) old now
