-- What a caller sees of a cell and of a seat, and the words of the public contracts.
use Rattle.std.specs.Prelude.{◌≡◌, ℕ, ◌+◌, ◌<◌, ◌≤◌, Bool, true, false, ◌||◌, List, [], ◌∷◌, ◌++◌, length, Option, Some}
use Rattle.atomic_table.specs.Seated.{TableId}
use Rattle.turn_cell.specs.Turns.{by, longer, Follows, HasJoined, NoneAbove}
use Rattle.turn_cell.specs.declared.view.Terms.{Terms}
use Rattle.turn_cell.specs.declared.view.View.{View}

-- a cell: which one it is, and what it was made with
pub record Made (T : Type 0) : Type 0 where
  pub cell : TableId
  pub about : Terms T

-- a seat
pub record SeatState (T E : Type 0) : Type 0 where
  -- the cell that it is a seat of, and what that was made with
  pub cell : TableId
  pub about : Option (Terms T)
  pub number : ℕ
  -- the beginning of the cell's history that it has seen, and its own entries
  pub seen : List (ℕ × E)
  pub mine : List (ℕ × E)
  -- it was found that the limit of turns was drawn
  pub worn : Bool
  -- it is the first seat; how often that was split, and the numbers that were joined into it, each with all its entries
  pub first : Bool
  pub splits : ℕ
  pub joined : List (ℕ × List (ℕ × E))

module _ {T E : Type 0} where
  -- a seat by what the table's rule knows of it
  abbrev pub seat_state : TableId → View T E → SeatState T E
  seat_state cell v = record {
    cell = cell;
    about = v.about;
    number = v.number;
    seen = v.seen;
    mine = v.mine;
    worn = v.worn;
    first = v.first;
    splits = v.splits;
    joined = v.joined;
  }

  -- the seat is one of that cell
  abbrev pub IsSeatOf : Made T → SeatState T E → Type 0
  IsSeatOf made v = (v.cell ≡ made.cell) × (v.about ≡ Some made.about)

  -- the first seat as it is made: number 0, which has seen nothing
  abbrev pub first_of : Made T → SeatState T E
  first_of made = record {
    cell = made.cell;
    about = Some made.about;
    number = 0;
    seen = [];
    mine = [];
    worn = false;
    first = true;
    splits = 0;
    joined = [];
  }

  -- the seat has the number, the splits and the joins that it had, as after a turn
  abbrev pub SameSeat : SeatState T E → SeatState T E → Type 0
  SameSeat v w =
      (w.number ≡ v.number) × (w.first ≡ v.first) × (w.splits ≡ v.splits) × (w.joined ≡ v.joined)

  -- the seat with the mark of a worn cell
  abbrev pub worn_out : SeatState T E → SeatState T E
  worn_out v = record v { worn = true }

  -- the first seat after a split
  abbrev pub split_left : SeatState T E → SeatState T E
  split_left v = record v { splits = v.splits + 1 }

  -- the seat that a split gives: its number is the number of splits, it has seen as much and has no entries of its own
  abbrev pub split_right : SeatState T E → SeatState T E
  split_right v = record v {
    number = v.splits + 1;
    mine = [];
    first = false;
    splits = 0;
    joined = [];
  }

  -- the first seat after a join: it has seen what either had seen, and has the mark where either had it
  abbrev pub joining : SeatState T E → SeatState T E → SeatState T E
  joining v w = record v {
    seen = longer v.seen w.seen;
    worn = v.worn || w.worn;
    joined = v.joined ++ (w.number, w.mine) ∷ [];
  }

  -- In what a seat has seen stand just its own entries, and in what the first seat has seen just those entries of each joined number
  -- that are noted with it, and none of a number above its splits.
  abbrev pub Knows : SeatState T E → Type 0
  Knows v =
      (by v.number v.seen ≡ v.mine)
      × (v.first ≡ true → HasJoined v.joined v.seen)
      × (v.first ≡ true → NoneAbove v.splits v.seen)

  -- every seat that was split from the first was joined into it
  abbrev pub IsWhole : SeatState T E → Type 0
  IsWhole v = (v.first ≡ true) × (length v.joined ≡ v.splits)

module _ {T E L : Type 0} (stands : T → List (ℕ × E) → Type 0) (lasting : T → L) where
  -- What a turn did. There is a history that begins with all that the seat had seen and has no other entry of it; the seat has now
  -- seen that history and its own entry at the end. It was shorter than the limit. The value that the call was run on stood for that
  -- history, and what it left stands for it with the entry.
  pub record Took (about : Terms T) (entry : E) (promise : List (ℕ × E) → L → Type 0)
      (v w : SeatState T E) : Type 0 where
    pub log : List (ℕ × E)
    pub before : T
    pub after : T
    pub follows : Follows v.number v.seen log
    pub room : length log < about.limit
    pub seen : w.seen ≡ log ++ (v.number, entry) ∷ []
    pub mine : w.mine ≡ v.mine ++ (v.number, entry) ∷ []
    pub stood : stands before log
    pub stands_now : stands after (log ++ (v.number, entry) ∷ [])
    pub lasts_before : lasting before ≡ lasting about.first.value
    pub lasts_after : lasting after ≡ lasting about.first.value
    pub promised : promise log (lasting about.first.value)
    pub worn : w.worn ≡ v.worn

  -- What a closing gives: a value that stands for all that the seat has seen, which is the whole history. Where the seat has the mark,
  -- that is no shorter than the limit.
  pub record Closes (about : Terms T) (v : SeatState T E) (x : T) : Type 0 where
    pub stands_now : stands x v.seen
    pub lasts : lasting x ≡ lasting about.first.value
    pub worn : v.worn ≡ true → about.limit ≤ length v.seen
