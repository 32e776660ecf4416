-- Scales, and the symbolizers that a style draws on an item at a scale (Mapnik's Rule and Style
-- reference).
use Rattle.std.specs.Prelude.{ℕ, ◌*◌, ◌/◌, ◌^◌, Bool, true, not, ◌&&◌, nat_le, nat_lt, if◌then◌else◌, List, take, filter, flat_map, Option, Some, None}
use Rattle.std.specs.List.{list_any}
use Rattle.farm_base.specs.declared.Attr.{Attr}
use Rattle.plain_drawing.specs.declared.style.FilterMode.{FilterMode}
use Rattle.plain_drawing.specs.declared.style.FilterMode.TheVariants.{All, First}
use Rattle.plain_drawing.specs.declared.style.Symbolizer.{Symbolizer}
use Rattle.plain_filters.specs.Filters.{FilterTree, tree_holds}
use Rattle.plain_drawing.specs.Styles.{Rule, Style}

-- the scale denominator at zoom z with tiles of so many pixels, rounded down (Mapnik's and OGC's
-- 559082264 for zoom 0 at 256 pixels)
abbrev pub denominator_of : ℕ → ℕ → ℕ
denominator_of z size = 559082264 * 256 / (size * 2 ^ z)

-- the denominator is below the greatest bound, which is in hundredths, if there is one
abbrev pub is_below : Option ℕ → ℕ → Bool
is_below None denominator = true
is_below (Some greatest) denominator = nat_lt (100 * denominator) greatest

-- a scale is active from its least bound on and below its greatest one; both are in hundredths
abbrev pub is_active : ℕ → Option ℕ → ℕ → Bool
is_active least greatest denominator =
    nat_le least (100 * denominator) && is_below greatest denominator

-- the rule is active at the denominator
abbrev pub at_scale : ℕ → Rule → Bool
at_scale denominator r = is_active r.min_scale_denominator r.max_scale_denominator denominator

-- a filter holds by its value; none always holds
abbrev pub filter_holds : List Attr → Option FilterTree → Bool
filter_holds attrs None = true
filter_holds attrs (Some tree) = tree_holds attrs tree

-- an active Filter rule whose filter holds; a rule with neither Filter nor ElseFilter is a Filter
-- rule that always holds
abbrev pub matches : List Attr → ℕ → Rule → Bool
matches attrs denominator r =
    at_scale denominator r && not r.else_filter && filter_holds attrs r.filter

-- an active ElseFilter rule
abbrev pub is_fallback : ℕ → Rule → Bool
is_fallback denominator r = at_scale denominator r && r.else_filter

-- of the Filter rules that match, all are taken, or the first
abbrev pub first_or_all : FilterMode → List Rule → List Rule
first_or_all All rules = rules
first_or_all First rules = take 1 rules

-- the rules that draw: those taken of the Filter rules that match; where none matches, every
-- ElseFilter rule
abbrev pub drawing_rules : List Attr → ℕ → Style → List Rule
drawing_rules attrs denominator s =
    if list_any (matches attrs denominator) s.rules
    then first_or_all s.filter_mode (filter (matches attrs denominator) s.rules)
    else filter (is_fallback denominator) s.rules

-- the symbolizers that an item with these attributes meets in a style, in order
abbrev pub item_symbolizers : List Attr → ℕ → Style → List Symbolizer
item_symbolizers attrs denominator s =
    flat_map (λ r. r.symbolizers) (drawing_rules attrs denominator s)
