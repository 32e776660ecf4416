-- The words of a front's calls on the farm: what contracts know of a seat, and what a turn leaves of it.
use Rattle.std.specs.Prelude.{◌≡◌, ℕ, Bool, true, List, [], ◌∷◌, ◌++◌, Result, Ok, Err}
use Rattle.farm_history.specs.Entries.{Entry}
use Rattle.farm_base.specs.declared.turns.Worn.{Worn}

-- what contracts know of a farm's seats: S is a seat, P what stays of it over its turns
pub record Seats (S P : Type 0) : Type 1 where
  -- it is a seat of this farm
  pub is_seat : S → Type 0
  -- its number, and whatever else stays of it
  pub number : S → ℕ
  pub place : S → P
  -- the entries of its own turns, in order
  pub mine : S → List Entry
  -- it was found that the limit of turns was drawn
  pub worn : S → Bool

-- an answer has put its entry behind the seat's own; a worn turn has put none, and has left its mark
abbrev pub Takes : {T : Type 0} → (T → Entry) → List Entry → List Entry → Bool → Result T Worn
    → Type 0
Takes entry old new worn (Ok answer) = new ≡ old ++ entry answer ∷ []
Takes entry old new worn (Err w) = (new ≡ old) × (worn ≡ true)

module _ {S P : Type 0} (F : Seats S P) where
  -- it is the farm's seat that it was
  pub record SameSeat (old new : S) : Type 0 where
    pub seat : F.is_seat new
    pub number : F.number new ≡ F.number old
    pub place : F.place new ≡ F.place old

  -- one turn on a seat
  pub record Turns {T : Type 0} (entry : T → Entry) (old new : S) (result : Result T Worn)
      : Type 0 where
    pub same : SameSeat old new
    pub takes : Takes entry (F.mine old) (F.mine new) (F.worn new) result
