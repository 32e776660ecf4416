-- What a turn is, over plain lists. A history is a list of pairs, a seat's number and an entry, in the order in which the turns were counted.
use Rattle.std.specs.Prelude.{◌≡◌, ℕ, ◌<◌, ◌==◌, nat_le, cond, List, [], ◌∷◌, ◌++◌, length, filter}
use Rattle.farm_base.specs.Limits.{most_turns}
use mathlib.Core.Option.{some}
use lib.ListN.{get_elem?}

-- the longer of two lists
abbrev pub longer : {A : Type 0} → List A → List A → List A
longer xs ys = cond (nat_le (length xs) (length ys)) ys xs

module _ {E : Type 0} where
  -- the entries of one number, in order
  abbrev pub by : ℕ → List (ℕ × E) → List (ℕ × E)
  by n log = filter (λ x. x.0 == n) log

  -- the history begins with what was seen
  abbrev pub StartsWith : List (ℕ × E) → List (ℕ × E) → Type 0
  StartsWith log seen = (rest : List (ℕ × E)) × (log ≡ seen ++ rest)

  -- the history begins with what was seen, and has no entry of that number after it
  abbrev pub Follows : ℕ → List (ℕ × E) → List (ℕ × E) → Type 0
  Follows n seen log = StartsWith log seen × (by n log ≡ by n seen)

  -- each number of a list of joined ones has just those entries in the history that are noted beside it
  abbrev pub HasJoined : List (ℕ × List (ℕ × E)) → List (ℕ × E) → Type 0
  HasJoined joined log =
      (k : ℕ) (p : ℕ × List (ℕ × E)) → get_elem? joined k ≡ some p → by p.0 log ≡ p.1

  -- no number above this one has an entry
  abbrev pub NoneAbove : ℕ → List (ℕ × E) → Type 0
  NoneAbove last log = (n : ℕ) → last < n → by n log ≡ []

module _ {T E L : Type 0} (stands : T → List (ℕ × E) → Type 0) (lasting : T → L) where
  -- a call may run on the value: it stands for a history that begins with all that seat n has seen and has no other entry of it, the
  -- history is not full, and the call's need holds
  abbrev pub IsDue : (ℕ → List (ℕ × E) → L → Type 0) → T → ℕ → List (ℕ × E) → List (ℕ × E) → Type 0
  IsDue need x n seen log =
      stands x log × Follows n seen log × (length log < most_turns) × need n seen (lasting x)

  -- some seat with some history may run the call on the value
  abbrev pub Ready : (ℕ → List (ℕ × E) → L → Type 0) → T → Type 0
  Ready need x = (n : ℕ) × (seen : List (ℕ × E)) × (log : List (ℕ × E)) × IsDue need x n seen log

  -- the value keeps its lasting part. For every seat and history at which the call was due, what is left stands for that history with
  -- the seat's entry at its end, and the promise holds of the history before it
  abbrev pub Ran : {A : Type 0} → (ℕ → List (ℕ × E) → L → Type 0) → (A → E)
      → (A → List (ℕ × E) → L → Type 0) → T → T → A → Type 0
  Ran need entry promise x y answer = (lasting y ≡ lasting x)
      × ((n : ℕ) (seen log : List (ℕ × E)) → IsDue need x n seen log
      → stands y (log ++ (n, entry answer) ∷ []) × promise answer log (lasting x))
