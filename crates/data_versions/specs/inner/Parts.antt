-- Parts that stand one after another, and what is looked for in them.
use Rattle.std.specs.Prelude.{◌≡◌, ℕ, ◌<◌, ◌≤◌, ◌+◌, Bool, false, List, ◌++◌, length, take, drop, get_or, position, Option, option_map}
use Rattle.std.specs.List.{flat_map}

-- the elements of the parts, one part after another
abbrev pub laid : {A : Type 0} → List (List A) → List A
laid parts = flat_map (λ p. p) parts

-- the place of each part's first element, and how many elements there are
pub record IsLaid {B A : Type 0} (inside : B → List A) (starts : List ℕ) (count : ℕ)
    (parts : List B) : Type 0 where
  pub long : length starts ≡ length parts
  pub each : (k : ℕ) → k < length parts
      → get_or starts k 0 ≡ length (flat_map inside (take k parts))
  pub counted : count ≡ length (flat_map inside parts)

-- none from the place `from` on passes before the place `at`, from which on the part stands
pub record IsPart {A : Type 0} (p : A → Bool) (from at : ℕ) (part all : List A) : Type 0 where
  pub since : from ≤ at
  pub none : (k : ℕ) (d : A) → from ≤ k → k < at → k < length all → p (get_or all k d) ≡ false
  pub side : drop at all ≡ part ++ drop (at + length part) all
  pub on : from < length all → from < at + length part
  pub within : from ≤ length all → at + length part ≤ length all

-- the first place from `from` on of one that passes
abbrev pub next_answer : {A : Type 0} → (A → Bool) → List A → ℕ → Option ℕ
next_answer p all from = option_map (λ k. from + k) (position p (drop from all))
