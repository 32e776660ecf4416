-- The words of the contracts inside the crate, which see a seat with its ticket and with the value that is out.
use Rattle.std.specs.Prelude.{◌≡◌, ℕ, ◌<◌, ◌≤◌, true, false, List, [], ◌∷◌, length, None}
use Rattle.farm_base.specs.Limits.{most_turns}
use Rattle.turn_cell.specs.Turns.{Follows}
use Rattle.turn_cell.specs.inner.Cell.{Sat}
use Rattle.turn_cell.specs.inner.Plays.{KnowsOwn, KnowsJoined, KnowsStrangers, holding}
use Rattle.turn_cell.specs.declared.view.Terms.{Terms}
use Rattle.turn_cell.specs.declared.view.View.{View}

module _ {T E : Type 0} where
  -- the seat is between two turns
  abbrev pub IsIdle : Sat T E → Type 0
  IsIdle m = (length m.1 ≡ 0) × (length m.0.tickets ≡ 0) × (m.0.holds ≡ false) × (m.0.counted ≡ 0)

  -- the seat knows whose entries stand in all that it has seen
  abbrev pub KnowsAll : View T E → Type 0
  KnowsAll v = KnowsOwn v × KnowsJoined v v.seen × KnowsStrangers v v.seen

  -- the seat is between two turns, and knows whose entries stand in all that it has seen
  abbrev pub IsSettled : Sat T E → Type 0
  IsSettled m = IsIdle m × KnowsAll m.0

  -- the seat after it drew this ticket
  abbrev pub with_ticket : Sat T E → ℕ → Sat T E
  with_ticket m ticket = (record m.0 { tickets = ticket ∷ [] }, m.1)

  -- the seat with the mark that the limit of turns was drawn
  abbrev pub with_mark : Sat T E → Sat T E
  with_mark m = (record m.0 { worn = true }, m.1)

module _ {T E L : Type 0} (stands : T → List (ℕ × E) → Type 0) (lasting : T → L) where
  -- the value is in the caller's hands, and the slot is empty and out with the seat
  abbrev pub Entered : Terms T → Sat T E → T → Sat T E → Type 0
  Entered about m x n =
      (log : List (ℕ × E))
      × (n ≡ (holding m.0 log, (0, None) ∷ []))
      × stands x log
      × (lasting x ≡ lasting about.first.value)
      × (length log < about.limit)
      × (about.limit ≤ most_turns)
      × Follows m.0.number m.0.seen log
      × KnowsJoined m.0 log
      × KnowsStrangers m.0 log
