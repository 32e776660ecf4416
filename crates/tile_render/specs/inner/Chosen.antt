-- The rules of a style that are chosen for an item, one after another.
use Rattle.std.specs.Prelude.{◌≡◌, ℕ, Bool, true, false, not, ◌&&◌, if◌then◌else◌, List, [], fold, map, filter, Option}
use Rattle.std.specs.List.{list_all}
use Rattle.farm_base.specs.declared.Attr.{Attr}
use Rattle.plain_world.specs.declared.world.Window.{Window}
use Rattle.plain_drawing.specs.Styles.{Rule, Style}
use Rattle.plain_shapes.specs.Images.{Pixels}
use Rattle.plain_filters.specs.Filters.{FilterTree}
use Rattle.attribute_marks.specs.Marks.{HasMarks, Shares, Lacks}
use Rattle.plain_drawing.specs.Rules.{at_scale, filter_holds, drawing_rules}
use Rattle.plain_shapes.specs.Features.{Feature}
use Rattle.plain_drawing.specs.Drawing.{Item, feature}
use Rattle.plain_drawing.specs.inner.Pictures.{with_symbolizer, with_item}
use Rattle.tile_render.specs.inner.Covers.{is_fill}
use Rattle.tile_render.specs.declared.rules.Choice.{Choice}
use Rattle.tile_render.specs.declared.rules.Choice.TheVariants.{Matching, Fallback}

-- a style at a scale denominator
pub record Scaled : Type 0 where
  pub style : Style
  pub denominator : ℕ

-- the filters of the rules that are at scale, in order
abbrev pub filters_at : Scaled → List (Option FilterTree)
filters_at s = map (λ r. r.filter) (filter (at_scale s.denominator) s.style.rules)

-- a Filter rule whose filter holds
abbrev pub takes : List Attr → Rule → Bool
takes attrs r = not r.else_filter && filter_holds attrs r.filter

-- the Filter rules whose filter holds, or the ElseFilter rules
abbrev pub is_chosen : Choice → List Attr → Rule → Bool
is_chosen Matching attrs r = takes attrs r
is_chosen Fallback attrs r = r.else_filter

-- the picture after a rule's symbolizers on an item
unfoldable pub with_rule : Window → Item → Pixels → Rule → Pixels
with_rule w item image r = fold (with_symbolizer w item) image r.symbolizers

-- the picture after a rule's symbolizers on an item if the rule is chosen, and else as it was
unfoldable pub with_chosen : Window → Item → (Rule → Bool) → Pixels → Rule → Pixels
with_chosen w item chosen image r = if chosen r then with_rule w item image r else image

-- whether each of the rule's symbolizers fills polygons
abbrev pub only_fills : Rule → Bool
only_fills r = list_all is_fill r.symbolizers

-- the style leaves each picture of the window as it is where it draws the item
abbrev pub LeavesAll : Window → Scaled → Item → Type 0
LeavesAll w s item = (image : Pixels) → with_item w s.denominator s.style image item ≡ image

-- from each picture, the style draws the same with these features as with those
abbrev pub DrawsAs : Window → Scaled → List Feature → List Feature → Type 0
DrawsAs w s these those = (image : Pixels) → fold (with_item w s.denominator s.style) image (map feature these)
    ≡ fold (with_item w s.denominator s.style) image (map feature those)

-- a Filter rule that, where its filter holds, has one of these marks among those of the attributes
pub record RuleAsks (asked : ℕ) (r : Rule) : Type 0 where
  pub is_filter : r.else_filter ≡ false
  pub asks : (attrs : List Attr) (marks : ℕ) → HasMarks marks attrs
      → filter_holds attrs r.filter ≡ true → Shares marks asked

-- attributes that lack the marks meet no rule
abbrev pub PassesOver : ℕ → ℕ → Style → Type 0
PassesOver asked denominator s = (attrs : List Attr) → Lacks asked attrs
    → drawing_rules attrs denominator s ≡ []
