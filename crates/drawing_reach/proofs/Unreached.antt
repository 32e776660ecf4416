-- What no symbolizer covers stays as it is.
use Rattle.std.proofs.Common.{◌≡◌, ℕ, zero, suc, ◌+◌, ◌*◌, ◌/◌, ◌<◌, ◌≤◌, Bool, true, false, List, [], ◌∷◌, ◌++◌, map, fold, filter, take, flat_map, cond, refl, ap, ◌∙◌, arith}
use Rattle.std.specs.Prelude.{if◌then◌else◌, IsTrue}
use Rattle.std.specs.List.{AllByRecursion, list_all, list_any, range_with_len}
use Rattle.std.proofs.Math.Nat.{mul-le-mul_right, mul-div-le}
use Rattle.std.proofs.lemmas.Bool.{and_parts, false_from_ne_true}
use Rattle.std.proofs.lemmas.List.Elements.{recursion_from_All}
use Rattle.farm_base.specs.declared.Attr.{Attr}
use Rattle.plain_world.specs.declared.world.Point.{Point}
use Rattle.plain_world.specs.declared.world.Window.{Window}
use Rattle.plain_world.specs.declared.world.Tile.{Tile}
use Rattle.plain_shapes.specs.declared.colour.Colour.{Colour}
use Rattle.plain_drawing.specs.declared.style.FilterMode.{FilterMode}
use Rattle.plain_drawing.specs.declared.style.FilterMode.TheVariants.{All as AllRules, First}
use Rattle.plain_drawing.specs.declared.style.Symbolizer.{Symbolizer}
use Rattle.plain_world.specs.World.{side_at, centre, row_centres, centres, window_of, tile_square, InSquare, IsTile, IsTileSize, IsWindow}
use Rattle.plain_shapes.specs.Features.{Feature}
use Rattle.plain_drawing.specs.Styles.{Rule, Style, is_paint}
use Rattle.plain_drawing.specs.Rules.{matches, is_fallback, first_or_all, drawing_rules, item_symbolizers}
use Rattle.plain_shapes.specs.Images.{Pixels}
use Rattle.plain_shapes.specs.inner.Canvas.{at_centres}
use Rattle.plain_drawing.specs.Drawing.{covers, painted_over, feature, pixel_of}
use Rattle.plain_drawing.specs.inner.Pictures.{with_symbolizer, with_item}
use Rattle.plain_shapes.specs.Reach.{Reaches, feature_reaches}
use Rattle.plain_world.proofs.Windows.{window_is}
use Rattle.plain_drawing.specs.Styles.{KeepsRanges}
use Rattle.drawing_reach.proofs.Members.{all_map}
use Rattle.drawing_reach.proofs.Reaching.{covered_reached}
use Rattle.drawing_reach.proofs.Edges.{by_edges}

-- ---- facts of all elements

all_append : {X : Type 0} (P : X → Type 0) (xs ys : List X) → AllByRecursion P xs → AllByRecursion P ys → AllByRecursion P (xs ++ ys)
all_append P [] ys h k = k
all_append P (x ∷ xs) ys h k = (h.0, all_append P xs ys h.1 k)

all_range : (P : ℕ → Type 0) (a n : ℕ) → ((k : ℕ) → a ≤ k → k < a + n → P k) → AllByRecursion P (range_with_len a n)
all_range P a zero h = tt
all_range P a (suc n) h = (h a (omega arith) (omega arith), all_range P (a + 1) n (λ k low high. h k (omega arith) (omega arith)))

all_mapped : {X Y : Type 0} (P : Y → Type 0) (f : X → Y) (xs : List X) → AllByRecursion (λ x. P (f x)) xs → AllByRecursion P (map f xs)
all_mapped P f [] h = tt
all_mapped P f (x ∷ xs) h = (h.0, all_mapped P f xs h.1)

all_flat : {X Y : Type 0} (P : Y → Type 0) (f : X → List Y) (xs : List X) → AllByRecursion (λ x. AllByRecursion P (f x)) xs → AllByRecursion P (flat_map f xs)
all_flat P f [] h = tt
all_flat P f (x ∷ xs) h = all_append P (f x) (flat_map f xs) h.0 (all_flat P f xs h.1)

-- what holds at every column and row holds of all centres
pub all_centres : (P : Point → Type 0) (w : Window) → ((j i : ℕ) → i < w.cols → j < w.rows → P (centre w i j)) → AllByRecursion P (centres w)
all_centres P w h =
    all_flat P (λ j. row_centres w j) (range_with_len 0 w.rows)
    (all_range (λ j. AllByRecursion P (row_centres w j)) 0 w.rows (λ j low high.
    all_mapped P (λ i. centre w i j) (range_with_len 0 w.cols)
    (all_range (λ i. P (centre w i j)) 0 w.cols (λ i low_i high_i. h j i (omega arith) (omega arith)))))

-- ---- pictures

-- a step that changes no colour at any of the centres
quiet : (f : Point → Colour → Colour) (cs : List Point) → AllByRecursion (λ c. (d : Colour) → f c d ≡ d) cs → (ds : List Colour) → at_centres f cs ds ≡ ds
quiet f [] h ds = refl
quiet f (c ∷ cs) h [] = refl
quiet f (c ∷ cs) h (d ∷ ds) = ap (λ e. e ∷ at_centres f cs ds) (h.0 d) ∙ ap (λ es. d ∷ es) (quiet f cs h.1 ds)

-- the symbolizer covers no centre of the window
abbrev pub Misses : Window → Feature → Symbolizer → Type 0
Misses w f s = AllByRecursion (λ c. covers w.pixel f.geometry c s ≡ false) (centres w)

pub missed : (w : Window) (f : Feature) (image : Pixels) (s : Symbolizer) → Misses w f s → with_symbolizer w (feature f) image s ≡ image
unfolding with_symbolizer
missed w f image s h =
    ap (λ ds. record image { pixels = ds })
    (quiet (λ c d. if covers w.pixel f.geometry c s then painted_over d s else d) (centres w)
    (all_map (λ c. covers w.pixel f.geometry c s ≡ false) (λ c. (d : Colour) → (if covers w.pixel f.geometry c s then painted_over d s else d) ≡ d)
    (λ c e d. ap (λ b. if b then painted_over d s else d) e) (centres w) h) image.pixels)

all_missed : (w : Window) (f : Feature) → ((s : Symbolizer) → IsTrue (is_paint s) → Misses w f s)
    → (symbolizers : List Symbolizer) → AllByRecursion (λ s. IsTrue (is_paint s)) symbolizers → (image : Pixels) → fold (with_symbolizer w (feature f)) image symbolizers ≡ image
all_missed w f each [] h image = refl
all_missed w f each (s ∷ ss) h image =
    ap (λ m. fold (with_symbolizer w (feature f)) m ss) (missed w f image s (each s h.0)) ∙ all_missed w f each ss h.1 image

-- ---- the symbolizers that an item meets are those of rules of the style

pub filtered : {X : Type 0} (P : X → Type 0) (p : X → Bool) (xs : List X) → AllByRecursion P xs → AllByRecursion P (filter p xs)
filtered P p [] h = tt
filtered P p (x ∷ xs) h = by (p x) (filtered P p xs h.1)
  where
    by : (b : Bool) → AllByRecursion P (filter p xs) → AllByRecursion P (cond b (x ∷ filter p xs) (filter p xs))
    by true k = (h.0, k)
    by false k = k

took : {X : Type 0} (P : X → Type 0) (n : ℕ) (xs : List X) → AllByRecursion P xs → AllByRecursion P (take n xs)
took P zero [] h = tt
took P zero (x ∷ xs) h = tt
took P (suc n) [] h = tt
took P (suc n) (x ∷ xs) h = (h.0, took P n xs h.1)

pub taken_all : (P : Rule → Type 0) (m : FilterMode) (rules : List Rule) → AllByRecursion P rules → AllByRecursion P (first_or_all m rules)
taken_all P AllRules rules h = h
taken_all P First rules h = took P 1 rules h

pub choose : (b : Bool) (P : Rule → Type 0) (xs ys : List Rule) → AllByRecursion P xs → AllByRecursion P ys → AllByRecursion P (if b then xs else ys)
choose true P xs ys h k = h
choose false P xs ys h k = k

drawing_all : (P : Rule → Type 0) (attrs : List Attr) (d : ℕ) (s : Style) → AllByRecursion P s.rules → AllByRecursion P (drawing_rules attrs d s)
drawing_all P attrs d s h =
    choose (list_any (matches attrs d) s.rules) P (first_or_all s.filter_mode (filter (matches attrs d) s.rules)) (filter (is_fallback d) s.rules)
    (taken_all P s.filter_mode (filter (matches attrs d) s.rules) (filtered P (matches attrs d) s.rules h))
    (filtered P (is_fallback d) s.rules h)

paints_all : (symbolizers : List Symbolizer) → IsTrue (list_all is_paint symbolizers) → AllByRecursion (λ s. IsTrue (is_paint s)) symbolizers
paints_all [] h = tt
paints_all (s ∷ ss) h = (let both = and_parts (is_paint s) (list_all is_paint ss) h in (both.0, paints_all ss both.1))

pub drawn_paints : (attrs : List Attr) (d : ℕ) (s : Style) → KeepsRanges s → AllByRecursion (λ s. IsTrue (is_paint s)) (item_symbolizers attrs d s)
drawn_paints attrs d s h =
    all_flat (λ t. IsTrue (is_paint t)) (λ r. r.symbolizers) (drawing_rules attrs d s)
    (all_map (λ r. IsTrue (list_all is_paint r.symbolizers)) (λ r. AllByRecursion (λ t. IsTrue (is_paint t)) r.symbolizers) (λ r k. paints_all r.symbolizers k) (drawing_rules attrs d s)
    (drawing_all (λ r. IsTrue (list_all is_paint r.symbolizers)) attrs d s (recursion_from_All (λ r. IsTrue (list_all is_paint r.symbolizers)) s.rules h)))

-- a feature of which every symbolizer within its ranges misses the window leaves the picture
pub item_missed : (w : Window) (d : ℕ) (s : Style) (image : Pixels) (f : Feature) → KeepsRanges s → ((t : Symbolizer) → IsTrue (is_paint t) → Misses w f t)
    → with_item w d s image (feature f) ≡ image
unfolding with_item
item_missed w d s image f keeps each = all_missed w f each (item_symbolizers f.attrs d s) (drawn_paints f.attrs d s keeps) image

-- ---- a tile's square that the feature does not reach

centre_in_square : (t : Tile) (size i j : ℕ) → IsTile t → IsTileSize size → i < size → j < size → InSquare (tile_square t) (centre (window_of t size) i j)
centre_in_square t size i j tile sizes hi hj =
    let pixel : ℕ = side_at t.z / size in
    let w : IsWindow (window_of t size) = window_is t size tile sizes in
    let some : 1 ≤ pixel = w.some_pixel in
    let all : size * pixel ≤ side_at t.z = mul-div-le (side_at t.z) size in
    let a : (i + 1) * pixel ≤ size * pixel = mul-le-mul_right pixel (omega arith) in
    let b : (j + 1) * pixel ≤ size * pixel = mul-le-mul_right pixel (omega arith) in
    record { from_west = omega arith; before_east = omega arith; from_north = omega arith; before_south = omega arith }

pub unreached : (f : Feature) (size d : ℕ) (t : Tile) (s : Style) (image : Pixels) → IsTile t → IsTileSize size → KeepsRanges s
    → feature_reaches f size t.z (tile_square t) ≡ false → with_item (window_of t size) d s image (feature f) ≡ image
unreached f size d t s image tile sizes keeps off =
    item_missed (window_of t size) d s image f keeps (λ p valid.
    all_centres (λ c. covers (pixel_of t.z size) f.geometry c p ≡ false) (window_of t size) (λ j i hi hj.
    false_from_ne_true (covers (pixel_of t.z size) f.geometry (centre (window_of t size) i j) p) (λ e.
    (let r : Reaches f size t.z (tile_square t) =
    (centre (window_of t size) i j, covered_reached f.geometry size t.z p (centre (window_of t size) i j) valid e, centre_in_square t size i j tile sizes hi hj) in
    let on : feature_reaches f size t.z (tile_square t) ≡ true = (by_edges f size t.z (tile_square t)).1 r in
    cc))))
