-- The tiles of an image are its parts.
use Rattle.std.proofs.Common.{◌≡◌, ℕ, zero, suc, ◌+◌, ◌-◌, ◌*◌, ◌<◌, ◌≤◌, List, [], ◌∷◌, ◌++◌, length, map, take, drop, get_or, flat_map, replicate, refl, ap, sym, ◌∙◌, arith}
use Rattle.std.specs.List.{range_with_len}
use Rattle.std.proofs.Math.Nat.{mul-le-mul_right}
use Rattle.std.proofs.lemmas.List.{same_lists, get_or-take, get_or-drop, get_or-map, get_or-replicate, get_or_default, length-take, length-drop, length-map, length-replicate, map-append, take_all, drop-drop}
use Rattle.std.proofs.lemmas.List.FromFn.{fill_by_all}
use Rattle.plain_drawing.proofs.Cuts.{map_range, flat_range}
use Rattle.plain_shapes.specs.declared.colour.Colour.{Colour}
use Rattle.plain_shapes.specs.Images.{Pixels}
use Rattle.plain_drawing.specs.Drawing.{pixels_text}
use Rattle.plain_shapes.specs.inner.Canvas.{cut_rows}
use Rattle.plain_drawing.specs.inner.PartTexts.{part_text, column_texts, part_texts}
use Rattle.tiled_image.specs.inner.Tiles.{Texts, IsTiled, joined}
use Rattle.tiled_image.proofs.Joined.{Spot, tile_of, inner_of, place_of, black, length_joined, tile_in, inner_in, place_in, joined_at, same_joined}
use Rattle.tiled_image.proofs.JoinedPaint.{AreTiles, are_tiles}

-- the image of tiles of one colour
pub joined_blank : (s a : ℕ) (c : Colour) → 1 ≤ s → 1 ≤ a → joined s a (replicate (a * a) (replicate (s * s) c)) ≡ replicate (s * a * (s * a)) c
joined_blank s a c some across =
    let tiles : List (List Colour) = replicate (a * a) (replicate (s * s) c) in
    same_joined s a (joined s a tiles) (replicate (s * a * (s * a)) c) some across (length_joined s a tiles) (length-replicate (s * a * (s * a)) c)
    (λ v d. joined_at v tiles d
    ∙ ap (λ t. get_or t (inner_of v) black) (get_or-replicate (a * a) (tile_of v) (replicate (s * s) c) [] (tile_in v))
    ∙ get_or-replicate (s * s) (inner_of v) c black (inner_in v)
    ∙ sym (get_or-replicate (s * a * (s * a)) (place_of v) c d (place_in v)))

-- parts of two lists that have the same elements
same_parts : {X : Type 0} (n a b : ℕ) (xs ys : List X) → a + n ≤ length xs → b + n ≤ length ys → ((k : ℕ) (d : X) → k < n → get_or xs (a + k) d ≡ get_or ys (b + k) d)
    → take n (drop a xs) ≡ take n (drop b ys)
same_parts n a b xs ys fits as_fits each =
    let long : length (take n (drop a xs)) ≡ n = omega (arith, length-take n (drop a xs), length-drop a xs) in
    let as_long : length (take n (drop b ys)) ≡ n = omega (arith, length-take n (drop b ys), length-drop b ys) in
    same_lists (take n (drop a xs)) (take n (drop b ys)) (long ∙ sym as_long)
    (λ k d lt.
    let h : k < n = omega (arith, lt, long) in
    get_or-take n (drop a xs) k d h ∙ get_or-drop a xs k d ∙ each k d h ∙ sym (get_or-drop b ys k d) ∙ sym (get_or-take n (drop b ys) k d h))

-- a run of pixels that lies in one tile
pub run_cut : {s a : ℕ} (v : Spot s a) (n : ℕ) (tiles : List (List Colour)) → AreTiles s a tiles → v.p + n ≤ s
    → take n (drop (place_of v) (joined s a tiles)) ≡ take n (drop (inner_of v) (get_or tiles (tile_of v) []))
run_cut {s} {a} v n tiles are fits =
    let tile : List Colour = get_or tiles (tile_of v) [] in
    let last : Spot s a = record { x = v.x; y = v.y; p = v.p + (n - 1); q = v.q; x_in = v.x_in; y_in = v.y_in; p_in = omega (arith, fits, v.p_in); q_in = v.q_in } in
    let whole : length tile ≡ s * s = are.whole (tile_of v) (tile_in v) in
    same_parts n (place_of v) (inner_of v) (joined s a tiles) tile (omega (arith, place_in last, place_in v, length_joined s a tiles)) (omega (arith, inner_in last, inner_in v, whole))
    (λ k d h.
    let w : Spot s a = record { x = v.x; y = v.y; p = v.p + k; q = v.q; x_in = v.x_in; y_in = v.y_in; p_in = omega (arith, fits, h); q_in = v.q_in } in
    ap (λ i. get_or (joined s a tiles) i d) (let e : place_of v + k ≡ place_of w = omega arith in e)
    ∙ joined_at w tiles d
    ∙ get_or_default tile (inner_of w) black d (omega (arith, inner_in w, whole))
    ∙ ap (λ i. get_or tile i d) (let e : inner_of w ≡ inner_of v + k = omega arith in e))

-- a row of a tile
row_cut : (s a x y q : ℕ) (tiles : List (List Colour)) → AreTiles s a tiles → x < a → y < a → q < s
    → take s (drop ((y * s + q) * (s * a) + x * s) (joined s a tiles)) ≡ take s (drop (q * s) (get_or tiles (x * a + y) []))
row_cut s a x y q tiles are x_in y_in q_in =
    let tile : List Colour = get_or tiles (x * a + y) [] in
    let last : Spot s a = record { x = x; y = y; p = s - 1; q = q; x_in = x_in; y_in = y_in; p_in = omega (arith, are.some); q_in = q_in } in
    let whole : length tile ≡ s * s = are.whole (x * a + y) (tile_in last) in
    let rows : (q + 1) * s ≤ s * s = mul-le-mul_right s (omega (arith, q_in)) in
    same_parts s ((y * s + q) * (s * a) + x * s) (q * s) (joined s a tiles) tile (omega (arith, place_in last, are.some, length_joined s a tiles)) (omega (arith, whole, rows))
    (λ k d h.
    let w : Spot s a = record { x = x; y = y; p = k; q = q; x_in = x_in; y_in = y_in; p_in = h; q_in = q_in } in
    ap (λ i. get_or (joined s a tiles) i d) (let e : (y * s + q) * (s * a) + x * s + k ≡ place_of w = omega arith in e)
    ∙ joined_at w tiles d
    ∙ get_or_default tile (q * s + k) black d (omega (arith, inner_in w, whole)))

pub take_both : {X : Type 0} (m n : ℕ) (xs : List X) → take m xs ++ take n (drop m xs) ≡ take (m + n) xs
take_both zero n xs = ap (λ k. take k xs) (let e : n ≡ 0 + n = omega arith in e)
take_both (suc m) zero [] = ap (λ k. take k []) (let e : suc m ≡ suc m + 0 = omega arith in e)
take_both (suc m) (suc n) [] = ap (λ k. take k []) (let e : suc (m + suc n) ≡ suc m + suc n = omega arith in e)
take_both (suc m) n (x ∷ xs) = ap (λ ys. x ∷ ys) (take_both m n xs) ∙ ap (λ k. take k (x ∷ xs)) (let e : suc (m + n) ≡ suc m + n = omega arith in e)

-- so many rows of a tile, from the row q on
rows_cut : (s a x y q r : ℕ) (tiles : List (List Colour)) → AreTiles s a tiles → x < a → y < a → q + r ≤ s
    → flat_map (λ j. take s (drop (j * (s * a) + x * s) (joined s a tiles))) (range_with_len (y * s + q) r) ≡ take (r * s) (drop (q * s) (get_or tiles (x * a + y) []))
rows_cut s a x y q zero tiles are x_in y_in fits = ap (λ k. take k (drop (q * s) (get_or tiles (x * a + y) []))) (let e : 0 ≡ 0 * s = omega arith in e)
rows_cut s a x y q (suc r) tiles are x_in y_in fits =
    let f = λ (j : ℕ). take s (drop (j * (s * a) + x * s) (joined s a tiles)) in
    let tile : List Colour = get_or tiles (x * a + y) [] in
    let e : y * s + q + 1 ≡ y * s + (q + 1) = omega arith in
    let d : (q + 1) * s ≡ q * s + s = omega arith in
    let t : s + r * s ≡ suc r * s = omega arith in
    ap (λ k. f (y * s + q) ++ flat_map f (range_with_len k r)) e
    ∙ ap (λ ys. f (y * s + q) ++ ys) (rows_cut s a x y (q + 1) r tiles are x_in y_in (omega (arith, fits)))
    ∙ ap (λ ys. ys ++ take (r * s) (drop ((q + 1) * s) tile)) (row_cut s a x y q tiles are x_in y_in (omega (arith, fits)))
    ∙ ap (λ k. take s (drop (q * s) tile) ++ take (r * s) (drop k tile)) d
    ∙ ap (λ ys. take s (drop (q * s) tile) ++ take (r * s) ys) (sym (drop-drop s (q * s) tile))
    ∙ take_both s (r * s) (drop (q * s) tile)
    ∙ ap (λ k. take k (drop (q * s) tile)) t

-- the part of the image where a tile stands is the tile
tile_cut : (s a x y : ℕ) (tiles : List (List Colour)) → AreTiles s a tiles → x < a → y < a
    → cut_rows (s * a) (x * s) (y * s) s s (joined s a tiles) ≡ get_or tiles (x * a + y) []
tile_cut s a x y tiles are x_in y_in =
    let tile : List Colour = get_or tiles (x * a + y) [] in
    let v : Spot s a = record { x = x; y = y; p = 0; q = 0; x_in = x_in; y_in = y_in; p_in = are.some; q_in = are.some } in
    let e : y * s ≡ y * s + 0 = omega arith in
    let z : 0 * s ≡ 0 = omega arith in
    ap (λ k. flat_map (λ j. take s (drop (j * (s * a) + x * s) (joined s a tiles))) (range_with_len k s)) e
    ∙ rows_cut s a x y 0 s tiles are x_in y_in (omega arith)
    ∙ ap (λ k. take (s * s) (drop k tile)) z
    ∙ take_all (s * s) tile (omega (arith, are.whole (x * a + y) (tile_in v)))

-- what is made of numbers, so many to a group
map_groups : {Y : Type 0} (g : ℕ → Y) (a x y n : ℕ) → map (λ k. g (x * a + k)) (range_with_len y n) ≡ map g (range_with_len (x * a + y) n)
map_groups g a x y zero = refl
map_groups g a x y (suc n) =
    let e : x * a + (y + 1) ≡ x * a + y + 1 = omega arith in
    ap (λ ys. g (x * a + y) ∷ ys) (map_groups g a x (y + 1) n ∙ ap (λ k. map g (range_with_len k n)) e)

range_both : (b m n : ℕ) → range_with_len b m ++ range_with_len (b + m) n ≡ range_with_len b (m + n)
range_both b zero n = ap (λ k. range_with_len k n) (let e : b + 0 ≡ b = omega arith in e) ∙ ap (λ k. range_with_len b k) (let e : n ≡ 0 + n = omega arith in e)
range_both b (suc m) n =
    let e : b + suc m ≡ b + 1 + m = omega arith in
    let t : suc (m + n) ≡ suc m + n = omega arith in
    ap (λ k. b ∷ (range_with_len (b + 1) m ++ range_with_len k n)) e
    ∙ ap (λ ks. b ∷ ks) (range_both (b + 1) m n)
    ∙ ap (λ k. range_with_len b k) t

groups : {Y : Type 0} (g : ℕ → Y) (a x m : ℕ) → flat_map (λ j. map (λ k. g (j * a + k)) (range_with_len 0 a)) (range_with_len x m) ≡ map g (range_with_len (x * a) (m * a))
groups g a x zero = ap (λ k. map g (range_with_len (x * a) k)) (let e : 0 ≡ 0 * a = omega arith in e)
groups g a x (suc m) =
    let z : x * a + 0 ≡ x * a = omega arith in
    let d : (x + 1) * a ≡ x * a + a = omega arith in
    let t : a + m * a ≡ suc m * a = omega arith in
    ap (λ ys. ys ++ flat_map (λ j. map (λ k. g (j * a + k)) (range_with_len 0 a)) (range_with_len (x + 1) m)) (map_groups g a x 0 a ∙ ap (λ k. map g (range_with_len k a)) z)
    ∙ ap (λ ys. map g (range_with_len (x * a) a) ++ ys) (groups g a (x + 1) m ∙ ap (λ k. map g (range_with_len k (m * a))) d)
    ∙ sym (map-append g (range_with_len (x * a) a) (range_with_len (x * a + a) (m * a)))
    ∙ ap (map g) (range_both (x * a) a (m * a))
    ∙ ap (λ k. map g (range_with_len (x * a) k)) t

laid : {X Y : Type 0} (f : X → List Y) (xs : List X) → flat_map (λ y. y) (map f xs) ≡ flat_map f xs
laid f [] = refl
laid f (x ∷ xs) = ap (λ ys. f x ++ ys) (laid f xs)

-- the image that tiles make
abbrev pub image_of : ℕ → ℕ → List (List Colour) → Pixels
image_of s a tiles = record { cols = s * a; rows = s * a; pixels = joined s a tiles }

-- the texts of its parts are those of its tiles
pub texts_joined : (s a : ℕ) (tiles : List (List Colour)) → AreTiles s a tiles
    → flat_map (λ text. text) (part_texts (image_of s a tiles) s a) ≡ flat_map (pixels_text s s) tiles
texts_joined s a tiles are =
    let image : Pixels = image_of s a tiles in
    let g = λ (k : ℕ). pixels_text s s (get_or tiles k []) in
    let z : 0 * a ≡ 0 = omega arith in
    let each : part_texts image s a ≡ flat_map (λ j. map (λ k. g (j * a + k)) (range_with_len 0 a)) (range_with_len 0 a) =
    flat_range (column_texts image s a) (λ j. map (λ k. g (j * a + k)) (range_with_len 0 a)) 0 a
    (λ x h. map_range (λ y. part_text image s x y) (λ k. g (x * a + k)) 0 a
    (λ y k. ap (pixels_text s s) (tile_cut s a x y tiles are (omega (arith, h)) (omega (arith, k))))) in
    let all : map (pixels_text s s) tiles ≡ map g (range_with_len 0 (a * a)) =
    fill_by_all g (map (pixels_text s s) tiles) (a * a) [] (length-map tiles (pixels_text s s) ∙ are.count) (λ k h. get_or-map (pixels_text s s) tiles k [] [] (omega (arith, h, are.count))) in
    ap (λ ts. flat_map (λ text. text) ts) (each ∙ groups g a 0 a ∙ ap (λ k. map g (range_with_len k (a * a))) z ∙ sym all)
    ∙ laid (pixels_text s s) tiles

-- the same where the tiles are those of a size and so many side by side
pub part_texts_are : (shift a : ℕ) (t : Texts) (image : Pixels) (size across : ℕ) → IsTiled shift a t → image_of t.side a t.tiles ≡ image → t.side ≡ size → a ≡ across
    → flat_map (pixels_text t.side t.side) t.tiles ≡ flat_map (λ text. text) (part_texts image size across)
part_texts_are shift a t image size across is view side many =
    sym (texts_joined t.side a t.tiles (are_tiles shift a t is))
    ∙ ap (λ i. flat_map (λ text. text) (part_texts i t.side a)) view
    ∙ ap (λ n. flat_map (λ text. text) (part_texts image n a)) side
    ∙ ap (λ n. flat_map (λ text. text) (part_texts image size n)) many
