-- The styles that maps were given.
use Rattle.std.specs.Prelude.{ℕ, List, count_by, Option, is_some}

-- how many styles maps were given
abbrev pub styles_given : List (Option ℕ) → ℕ
styles_given styles = count_by (λ s. is_some s) styles
