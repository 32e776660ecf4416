-- Features that a style does not draw are passed over: those whose attributes lack the marks that it asks for, and those of
-- which it could only fill a box without a centre.
use Rattle.std.proofs.Common.{◌≡◌, ℕ, ◌+◌, ◌<◌, true, false, cond, ◌||◌, List, [], ◌∷◌, length, get_or, take, map, filter, flat_map, fold, refl, ap, sym, ◌∙◌, subst}
use Rattle.std.specs.Prelude.{All, if◌then◌else◌, not}
use Rattle.std.specs.Int.RustNames.{bit_or}
use Rattle.std.specs.List.{AllByRecursion, list_all, list_any}
use Rattle.std.proofs.lemmas.Bool.{and_parts, false_from_ne_true, true≢false}
use Rattle.std.proofs.lemmas.Grind.{fold-append}
use Rattle.std.proofs.lemmas.List.Elements.{All-nil, All-cons, All-head, All-tail, All-more, All-weaker}
use Rattle.farm_base.specs.declared.Attr.{Attr}
use Rattle.attribute_marks.specs.Marks.{Lacks}
use Rattle.attribute_marks.proofs.Bits.{kept, added}
use Rattle.plain_world.specs.declared.world.Window.{Window}
use Rattle.plain_shapes.specs.Features.{Feature}
use Rattle.plain_shapes.specs.Images.{Pixels}
use Rattle.plain_drawing.specs.Styles.{Rule, Style}
use Rattle.plain_drawing.specs.Rules.{at_scale, filter_holds, first_or_all, drawing_rules}
use Rattle.plain_drawing.specs.declared.style.Symbolizer.{Symbolizer}
use Rattle.plain_drawing.specs.declared.style.Symbolizer.TheVariants as paint
use Rattle.plain_drawing.specs.Drawing.{covers, feature}
use Rattle.plain_drawing.specs.inner.Pictures.{with_symbolizer, with_item}
use Rattle.geo_model.specs.Shapes.{parts_of}
use Rattle.data_versions.specs.Near.{box_of}
use Rattle.drawing_reach.proofs.Boxes.{box_holds}
use Rattle.drawing_reach.proofs.Unreached.{Misses, all_centres, missed, filtered, taken_all, choose}
use Rattle.tile_render.specs.inner.Chosen.{Scaled, takes, only_fills, RuleAsks, PassesOver, LeavesAll}
use Rattle.tile_render.specs.inner.Covers.{is_fill}
use Rattle.tile_render.specs.inner.Regions.{HasNoCentre}
use Rattle.tile_render.proofs.Choices.{active_item, drawing_active, taken_of}
use Rattle.tile_render.proofs.Covering.{none_covered}

-- symbolizers that leave each picture as it is where they are painted on a feature
abbrev Quiet : Window → Feature → List Symbolizer → Type 0
Quiet w f ss = (image : Pixels) → fold (with_symbolizer w (feature f)) image ss ≡ image

-- more marks are asked for
rule_more : (asked more : ℕ) (r : Rule) → RuleAsks asked r → RuleAsks (bit_or asked more) r
rule_more asked more r a = record {
  is_filter = a.is_filter;
  asks = λ attrs marks has holds. (let s = a.asks attrs marks has holds in record { mark = s.mark; there = s.there; is_asked = kept asked more s.mark s.is_asked });
}

rule_added : (asked more : ℕ) (r : Rule) → RuleAsks more r → RuleAsks (bit_or asked more) r
rule_added asked more r a = record {
  is_filter = a.is_filter;
  asks = λ attrs marks has holds. (let s = a.asks attrs marks has holds in record { mark = s.mark; there = s.there; is_asked = added asked more s.mark s.is_asked });
}

-- one rule more
pub rules_more : {X : Type 0} (f : X → Rule) (asked more : ℕ) (rules : List X) (i : ℕ) (r : X) → i < length rules → r ≡ get_or rules i r
    → All (λ r. RuleAsks asked (f r)) (take i rules) → RuleAsks more (f r) → All (λ r. RuleAsks (bit_or asked more) (f r)) (take (i + 1) rules)
rules_more {X = X} f asked more rules i r within here before a =
    All-more (λ (r : X). RuleAsks (bit_or asked more) (f r)) rules i r within
    (All-weaker (λ (r : X). RuleAsks asked (f r)) (λ (r : X). RuleAsks (bit_or asked more) (f r)) (λ r h. rule_more asked more (f r) h) (take i rules) before)
    (subst (λ (r : X). RuleAsks (bit_or asked more) (f r)) here (rule_added asked more (f r) a))

-- a rule that asks for marks takes no attributes that lack them
not_taken : (asked : ℕ) (r : Rule) (attrs : List Attr) → RuleAsks asked r → Lacks asked attrs → takes attrs r ≡ false
not_taken asked r attrs a lacks =
    false_from_ne_true (takes attrs r) (λ e. lacks.none (a.asks attrs lacks.marks lacks.has (and_parts (not r.else_filter) (filter_holds attrs r.filter) e).1))

none_taken : (asked : ℕ) (rules : List Rule) (attrs : List Attr) → All (RuleAsks asked) rules → Lacks asked attrs → list_any (takes attrs) rules ≡ false
none_taken asked [] attrs all lacks = refl
none_taken asked (r ∷ rules) attrs all lacks =
    ap (λ b. b || list_any (takes attrs) rules) (not_taken asked r attrs (All-head (RuleAsks asked) r rules all) lacks) ∙ none_taken asked rules attrs (All-tail (RuleAsks asked) r rules all) lacks

no_fallback : (asked : ℕ) (rules : List Rule) → All (RuleAsks asked) rules → filter (λ r. r.else_filter) rules ≡ []
no_fallback asked [] all = refl
no_fallback asked (r ∷ rules) all =
    ap (λ b. cond b (r ∷ filter (λ r. r.else_filter) rules) (filter (λ r. r.else_filter) rules)) (All-head (RuleAsks asked) r rules all).is_filter ∙ no_fallback asked rules (All-tail (RuleAsks asked) r rules all)

-- rules that all ask for marks draw nothing on attributes that lack them
pub passes_over : (asked d : ℕ) (s : Style) (rules : List Rule) → rules ≡ filter (at_scale d) s.rules → All (RuleAsks asked) rules → PassesOver asked d s
passes_over asked d s rules active all attrs lacks =
    sym (drawing_active attrs d s rules active)
    ∙ ap (λ b. if b then first_or_all s.filter_mode (filter (takes attrs) rules) else filter (λ r. r.else_filter) rules) (none_taken asked rules attrs all lacks)
    ∙ no_fallback asked rules all

-- where no rule draws, the picture stays
pub passed_item : (w : Window) (s : Scaled) (f : Feature) → drawing_rules f.attrs s.denominator s.style ≡ [] → LeavesAll w s (feature f)
unfolding with_item
passed_item w s f none image = ap (λ rs. fold (with_symbolizer w (feature f)) image (flat_map (λ r. r.symbolizers) rs)) none

-- ---- what only fills

-- of a box without a centre nothing is filled
fill_misses : (w : Window) (f : Feature) (s : Symbolizer) → is_fill s ≡ true → HasNoCentre w (box_of f) → Misses w f s
fill_misses w f (paint.Polygon fill opacity) fills none =
    all_centres (λ c. covers w.pixel f.geometry c (paint.Polygon fill opacity) ≡ false) w
    (none_covered w f (paint.Polygon fill opacity) (box_of f) 0 0 (box_holds (parts_of f.geometry)) refl refl none)
fill_misses w f (paint.Line stroke width opacity cap) fills none = absurd (true≢false (sym fills))
fill_misses w f (paint.Markers fill width height opacity) fills none = absurd (true≢false (sym fills))
fill_misses w f (paint.Raster opacity) fills none = absurd (true≢false (sym fills))

fills_quiet : (w : Window) (f : Feature) (ss : List Symbolizer) → list_all is_fill ss ≡ true → HasNoCentre w (box_of f) → Quiet w f ss
fills_quiet w f [] all none image = refl
fills_quiet w f (s ∷ ss) all none image =
    let both = and_parts (is_fill s) (list_all is_fill ss) all in
    ap (λ m. fold (with_symbolizer w (feature f)) m ss) (missed w f image s (fill_misses w f s both.0 none)) ∙ fills_quiet w f ss both.1 none image

rules_fill : {X : Type 0} (g : X → Rule) (w : Window) (f : Feature) (xs : List X) → list_all (λ x. only_fills (g x)) xs ≡ true → HasNoCentre w (box_of f)
    → AllByRecursion (λ r. Quiet w f r.symbolizers) (map g xs)
rules_fill g w f [] all none = tt
rules_fill g w f (x ∷ xs) all none =
    let both = and_parts (only_fills (g x)) (list_all (λ x. only_fills (g x)) xs) all in
    (fills_quiet w f (g x).symbolizers both.0 none, rules_fill g w f xs both.1 none)

rules_quiet : (w : Window) (f : Feature) (rules : List Rule) → AllByRecursion (λ r. Quiet w f r.symbolizers) rules → Quiet w f (flat_map (λ r. r.symbolizers) rules)
rules_quiet w f [] all image = refl
rules_quiet w f (r ∷ rules) all image =
    fold-append (with_symbolizer w (feature f)) image r.symbolizers (flat_map (λ r. r.symbolizers) rules)
    ∙ ap (λ m. fold (with_symbolizer w (feature f)) m (flat_map (λ r. r.symbolizers) rules)) (all.0 image) ∙ rules_quiet w f rules all.1 image

-- rules at scale that only fill leave each picture as it is, where no centre lies in the feature's box
pub fills_leave : {X : Type 0} (g : X → Rule) (w : Window) (s : Scaled) (f : Feature) (xs : List X) → map g xs ≡ filter (at_scale s.denominator) s.style.rules
    → list_all (λ x. only_fills (g x)) xs ≡ true → HasNoCentre w (box_of f) → LeavesAll w s (feature f)
fills_leave g w s f xs active all none image =
    let rules = map g xs in
    let quiet = rules_fill g w f xs all none in
    sym (active_item w s.denominator s.style rules (feature f) image active)
    ∙ rules_quiet w f (taken_of f.attrs s.style rules)
    (choose (list_any (takes f.attrs) rules) (λ r. Quiet w f r.symbolizers) (first_or_all s.style.filter_mode (filter (takes f.attrs) rules)) (filter (λ r. r.else_filter) rules)
    (taken_all (λ r. Quiet w f r.symbolizers) s.style.filter_mode (filter (takes f.attrs) rules) (filtered (λ r. Quiet w f r.symbolizers) (takes f.attrs) rules quiet))
    (filtered (λ r. Quiet w f r.symbolizers) (λ r. r.else_filter) rules quiet)) image

pub All-named : {X Y : Type 0} (f : X → Y) (P : Y → Type 0) (xs : List X) → All (λ x. P (f x)) xs → All P (map f xs)
All-named {X = X} f P [] all = All-nil P
All-named {X = X} f P (x ∷ xs) all = All-cons P (f x) (map f xs) (All-head (λ (x : X). P (f x)) x xs all) (All-named f P xs (All-tail (λ (x : X). P (f x)) x xs all))
