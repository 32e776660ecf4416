-- The lines of a text, one after another: what each says, or the first that is refused. Lines are
-- counted from 1.
use Rattle.std.specs.Prelude.{ℕ, ◌+◌, nat_le, List, [], ◌∷◌, ◌++◌, Option, option_to_list, Result, Ok}
use Rattle.std.specs.Str.{is_utf8}
use Rattle.farm_base.specs.Limits.{most_lines}
use Rattle.reading.specs.Steps.{◌>>=◌, check}

-- a line is UTF-8
unfoldable pub line_text : {E : Type 0} → E → List ℕ → Result (List ℕ) E
line_text fault line = check (is_utf8 line) fault >>= λ u. Ok line

-- The lines from this number on, after the items that were read before; no more than a text may
-- have. A line may say nothing, and else an item.
unfoldable pub items_after : {T E : Type 0} → (E → List ℕ → Result (Option T) E) → (ℕ → E) → ℕ
    → List T → List (List ℕ) → Result (List T) E
items_after read fault number before [] = Ok before
items_after read fault number before (line ∷ rest) =
    check (nat_le number most_lines) (fault number) >>= λ u. read (fault number)
    line >>= λ item. items_after read fault (number + 1) (before ++ option_to_list item) rest
