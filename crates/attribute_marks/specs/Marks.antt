-- Marks of attributes: a number below 64 for a name with a value. Equal ones have the same mark, and
-- most others another one.
use Rattle.std.specs.Prelude.{◌≡◌, ℕ, ◌+◌, ◌*◌, ◌%◌, ◌^◌, List, fold, All, unsigned_abs}
use Rattle.std.specs.Int.{bit_at}
use Rattle.farm_base.specs.declared.Value.{Value}
use Rattle.farm_base.specs.declared.Value.TheVariants.{Null, Truth, Whole, Text}
use Rattle.farm_base.specs.declared.Attr.{Attr}

-- bytes as one number
abbrev pub mixed : List ℕ → ℕ
mixed bytes = fold (λ mixture byte. (mixture * 31 % 2 ^ 32 + byte) % 2 ^ 32) 0 bytes

-- the mark of a name with a value
abbrev pub mark_of : List ℕ → Value → ℕ
mark_of name Null = mixed name % 64
mark_of name (Truth truth) = mixed name % 64
mark_of name (Whole whole) = (mixed name + unsigned_abs whole % 64) % 2 ^ 32 % 64
mark_of name (Text text) = (mixed name + mixed text) % 2 ^ 32 % 64

-- the bit of each attribute's mark is set
abbrev pub HasMarks : ℕ → List Attr → Type 0
HasMarks marks attrs = All (λ a. bit_at marks (mark_of a.name a.value) ≡ 1) attrs

-- a mark that is there and is asked for
pub record Shares (marks asked : ℕ) : Type 0 where
  pub mark : ℕ
  pub there : bit_at marks mark ≡ 1
  pub is_asked : bit_at asked mark ≡ 1

-- no attribute has one of these marks: the attributes have marks of which none is among them
pub record Lacks (asked : ℕ) (attrs : List Attr) : Type 0 where
  pub marks : ℕ
  pub has : HasMarks marks attrs
  pub none : Shares marks asked → ⊥
