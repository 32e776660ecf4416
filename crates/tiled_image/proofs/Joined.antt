-- Where the pixels of an image stand in its tiles.
use Rattle.std.proofs.Common.{◌≡◌, ℕ, ◌+◌, ◌*◌, ◌/◌, ◌%◌, ◌<◌, ◌≤◌, List, [], length, get_or, ap, sym, ◌∙◌, arith}
use Rattle.std.proofs.Math.Nat.{mod-lt}
use Rattle.std.proofs.lemmas.Nat.{mul-add-lt, div-mul-add, mod-mul-add, div-add-mod', div_below}
use Rattle.std.proofs.lemmas.List.{same_lists}
use Rattle.std.proofs.lemmas.List.FromFn.{get_or-map-range_with_len, length-map-range_with_len}
use Rattle.plain_shapes.specs.declared.colour.Colour.{Colour}
use Rattle.tiled_image.specs.inner.Tiles.{colour_in, joined}

-- a pixel of so many tiles side by side: its tile's column and row, and its column and row in the tile
pub record Spot (side across : ℕ) : Type 0 where
  pub x : ℕ
  pub y : ℕ
  pub p : ℕ
  pub q : ℕ
  pub x_in : x < across
  pub y_in : y < across
  pub p_in : p < side
  pub q_in : q < side

-- which tile that is, the place in it, and the place in the image
abbrev pub tile_of : {s a : ℕ} → Spot s a → ℕ
tile_of {s} {a} v = v.x * a + v.y

abbrev pub inner_of : {s a : ℕ} → Spot s a → ℕ
inner_of {s} {a} v = v.q * s + v.p

abbrev pub place_of : {s a : ℕ} → Spot s a → ℕ
place_of {s} {a} v = (v.y * s + v.q) * (s * a) + (v.x * s + v.p)

abbrev pub black : Colour
black = record { r = 0; g = 0; b = 0 }

pub length_joined : (s a : ℕ) (tiles : List (List Colour)) → length (joined s a tiles) ≡ s * a * (s * a)
unfolding joined
length_joined s a tiles = length-map-range_with_len (λ k. colour_in s a tiles (k % (s * a)) (k / (s * a))) 0 (s * a * (s * a))

pub col_in : {s a : ℕ} (v : Spot s a) → v.x * s + v.p < s * a
col_in {s} {a} v = mul-add-lt v.x s v.p a v.x_in v.p_in

pub row_in : {s a : ℕ} (v : Spot s a) → v.y * s + v.q < s * a
row_in {s} {a} v = mul-add-lt v.y s v.q a v.y_in v.q_in

pub place_in : {s a : ℕ} (v : Spot s a) → place_of v < s * a * (s * a)
place_in {s} {a} v = mul-add-lt (v.y * s + v.q) (s * a) (v.x * s + v.p) (s * a) (row_in v) (col_in v)

pub tile_in : {s a : ℕ} (v : Spot s a) → tile_of v < a * a
tile_in {s} {a} v = mul-add-lt v.x a v.y a v.x_in v.y_in

pub inner_in : {s a : ℕ} (v : Spot s a) → inner_of v < s * s
inner_in {s} {a} v = mul-add-lt v.q s v.p s v.q_in v.p_in

-- the colour at a pixel
pub joined_at : {s a : ℕ} (v : Spot s a) (tiles : List (List Colour)) (d : Colour)
    → get_or (joined s a tiles) (place_of v) d ≡ get_or (get_or tiles (tile_of v) []) (inner_of v) black
unfolding joined
joined_at {s} {a} v tiles d =
    let n : ℕ = s * a in
    let i : ℕ = v.x * s + v.p in
    let j : ℕ = v.y * s + v.q in
    get_or-map-range_with_len (λ k. colour_in s a tiles (k % n) (k / n)) 0 (n * n) (place_of v) (place_of v) d (place_in v) (omega arith)
    ∙ ap (λ k. colour_in s a tiles k (place_of v / n)) (mod-mul-add j n i (col_in v))
    ∙ ap (λ k. colour_in s a tiles i k) (div-mul-add j n i (col_in v))
    ∙ ap (λ k. get_or (get_or tiles (k * a + j / s) []) (j % s * s + i % s) black) (div-mul-add v.x s v.p v.p_in)
    ∙ ap (λ k. get_or (get_or tiles (v.x * a + k) []) (j % s * s + i % s) black) (div-mul-add v.y s v.q v.q_in)
    ∙ ap (λ k. get_or (get_or tiles (tile_of v) []) (k * s + i % s) black) (mod-mul-add v.y s v.q v.q_in)
    ∙ ap (λ k. get_or (get_or tiles (tile_of v) []) (v.q * s + k) black) (mod-mul-add v.x s v.p v.p_in)

-- the pixel in a column and a row
abbrev pub spot : (s a i j : ℕ) → 1 ≤ s → i < s * a → j < s * a → Spot s a
spot s a i j some col row = record {
  x = i / s;
  y = j / s;
  p = i % s;
  q = j % s;
  x_in = div_below i s a (omega arith) (omega (arith, col));
  y_in = div_below j s a (omega arith) (omega (arith, row));
  p_in = mod-lt i (omega arith);
  q_in = mod-lt j (omega arith);
}

pub place_is : (s a i j : ℕ) (some : 1 ≤ s) (col : i < s * a) (row : j < s * a) → place_of (spot s a i j some col row) ≡ j * (s * a) + i
place_is s a i j some col row = ap (λ k. k * (s * a) + (i / s * s + i % s)) (div-add-mod' j s) ∙ ap (λ k. j * (s * a) + k) (div-add-mod' i s)

-- the pixel at a place
pub record AtPlace (s a k : ℕ) : Type 0 where
  pub at : Spot s a
  pub is : place_of at ≡ k

pub at_place : (s a k : ℕ) → 1 ≤ s → 1 ≤ a → k < s * a * (s * a) → AtPlace s a k
at_place s a k some across lt =
    let n : ℕ = s * a in
    let pos : 0 < n = omega (arith, mul-add-lt 0 s 0 a (omega arith) (omega arith)) in
    let col : k % n < n = mod-lt k pos in
    let row : k / n < n = div_below k n n pos lt in
    record { at = spot s a (k % n) (k / n) some col row; is = place_is s a (k % n) (k / n) some col row ∙ div-add-mod' k n }

-- images of one size are one where each pixel is
pub same_joined : (s a : ℕ) (xs ys : List Colour) → 1 ≤ s → 1 ≤ a → length xs ≡ s * a * (s * a) → length ys ≡ s * a * (s * a)
    → ((v : Spot s a) (d : Colour) → get_or xs (place_of v) d ≡ get_or ys (place_of v) d) → xs ≡ ys
same_joined s a xs ys some across long as_long each =
    same_lists xs ys (long ∙ sym as_long) (λ k d lt.
    let w : AtPlace s a k = at_place s a k some across (omega (arith, lt, long)) in
    ap (λ m. get_or xs m d) (sym w.is) ∙ each w.at d ∙ ap (λ m. get_or ys m d) w.is)
