-- A tile is a part of its metatile's picture.
use Rattle.std.proofs.Common.{◌≡◌, ℕ, zero, suc, ◌+◌, ◌-◌, ◌*◌, ◌/◌, ◌^◌, ◌<◌, ◌≤◌, refl, ap, sym, ◌∙◌, arith, List, [], ◌∷◌, ◌++◌, length, map, take, drop, get_or, flat_map}
use Rattle.std.specs.List.{range_with_len}
use Rattle.std.proofs.lemmas.List.{same_lists, get_or-take, get_or-drop, length-take, length-drop, take-map, drop-map, map-append}
use Rattle.std.proofs.lemmas.List.FromFn.{get_or-map-range_with_len, length-map-range_with_len}
use Rattle.std.proofs.Math.Nat.{mul-le-mul_right, mul-div_cancel_left}
use Rattle.std.proofs.lemmas.Nat.{pow_pos, pow-add}
use Rattle.plain_world.specs.declared.world.Tile.{Tile}
use Rattle.plain_world.specs.declared.world.Meta.{Meta}
use Rattle.plain_world.specs.declared.world.Window.{Window}
use Rattle.plain_world.specs.World.{side_at, centre, row_centres, centres, tiles_across, window_of, meta_window_of, IsTileSize}
use Rattle.plain_world.proofs.Windows.{by_sizes}
use Rattle.plain_shapes.specs.Features.{Layer}
use Rattle.plain_drawing.specs.Styles.{MapStyle}
use Rattle.plain_shapes.specs.Images.{Pixels}
use Rattle.plain_shapes.specs.inner.Canvas.{cut_rows, cut_of}
use Rattle.plain_drawing.specs.Drawing.{colour_at, drawn_tile, pixels_text}
use Rattle.plain_drawing.specs.Metatiles.{tile_at, column_of, tiles_of}
use Rattle.plain_drawing.specs.inner.PartTexts.{part_text, column_texts, part_texts}
use Rattle.plain_shapes.proofs.Places.{length-centres, get_or-centres}

-- a window that is a part of another, so many columns and rows from its corner
pub record Part (v w : Window) (col row : ℕ) : Type 0 where
  pub pixel : v.pixel ≡ w.pixel
  pub west : v.west ≡ w.west + col * w.pixel
  pub north : v.north ≡ w.north + row * w.pixel
  pub cols_in : col + v.cols ≤ w.cols
  pub rows_in : row + v.rows ≤ w.rows

-- a place moved by whole pixels
moved : (a b p q i k : ℕ) → p ≡ q → a ≡ b + k * q → a + i * p + p / 2 ≡ b + (k + i) * q + q / 2
moved a b p q i k e f = rw (e, f) (omega arith)

-- the part's centres are those of the whole
centre_moved : (v w : Window) (col row i j : ℕ) → Part v w col row → centre v i j ≡ centre w (col + i) (row + j)
centre_moved v w col row i j p = λ t. record {
  x = moved v.west w.west v.pixel w.pixel i col p.pixel p.west t;
  y = moved v.north w.north v.pixel w.pixel j row p.pixel p.north t;
}

-- one row of the part, cut from all centres
row_cut : (v w : Window) (col row j : ℕ) → Part v w col row → j < v.rows → take v.cols (drop ((row + j) * w.cols + col) (centres w)) ≡ row_centres v j
row_cut v w col row j p h =
    let below : (row + j + 1) * w.cols ≤ w.rows * w.cols = mul-le-mul_right w.cols (omega (arith, p.rows_in, h)) in
    let long : length (take v.cols (drop ((row + j) * w.cols + col) (centres w))) ≡ v.cols =
    omega (arith, length-take v.cols (drop ((row + j) * w.cols + col) (centres w)), length-drop ((row + j) * w.cols + col) (centres w), length-centres w, p.cols_in, below) in
    same_lists (take v.cols (drop ((row + j) * w.cols + col) (centres w))) (row_centres v j)
    (long ∙ sym (length-map-range_with_len (λ i. centre v i j) 0 v.cols))
    (λ i d lt.
    let hi : i < v.cols = omega (arith, lt, long) in
    let inside : col + i < w.cols = omega (arith, hi, p.cols_in) in
    let reached : row + j < w.rows = omega (arith, h, p.rows_in) in
    let e : (row + j) * w.cols + col + i ≡ (row + j) * w.cols + (col + i) = omega arith in
    let z : 0 + i ≡ i = omega arith in
    get_or-take v.cols (drop ((row + j) * w.cols + col) (centres w)) i d hi
    ∙ get_or-drop ((row + j) * w.cols + col) (centres w) i d
    ∙ ap (λ k. get_or (centres w) k d) e
    ∙ get_or-centres w (row + j) (col + i) d inside reached
    ∙ sym (centre_moved v w col row i j p)
    ∙ sym (get_or-map-range_with_len (λ k. centre v k j) 0 v.cols i i d hi z))

rows_cut : (v w : Window) (col row j n : ℕ) → Part v w col row → j + n ≤ v.rows
    → flat_map (λ k. take v.cols (drop (k * w.cols + col) (centres w))) (range_with_len (row + j) n) ≡ flat_map (λ k. row_centres v k) (range_with_len j n)
rows_cut v w col row j zero p h = refl
rows_cut v w col row j (suc n) p h =
    let e : row + j + 1 ≡ row + (j + 1) = omega arith in
    ap (λ r. r ++ flat_map (λ k. take v.cols (drop (k * w.cols + col) (centres w))) (range_with_len (row + j + 1) n)) (row_cut v w col row j p (omega arith))
    ∙ ap (λ a. row_centres v j ++ flat_map (λ k. take v.cols (drop (k * w.cols + col) (centres w))) (range_with_len a n)) e
    ∙ ap (λ cs. row_centres v j ++ cs) (rows_cut v w col row (j + 1) n p (omega arith))

centres_cut : (v w : Window) (col row : ℕ) → Part v w col row → cut_rows w.cols col row v.cols v.rows (centres w) ≡ centres v
centres_cut v w col row p =
    let e : row ≡ row + 0 = omega arith in
    ap (λ a. flat_map (λ k. take v.cols (drop (k * w.cols + col) (centres w))) (range_with_len a v.rows)) e
    ∙ rows_cut v w col row 0 v.rows p (omega arith)

-- cutting what is made of each element is making it of what is cut
cut_map : {X Y : Type 0} (f : X → Y) (across col row cols rows : ℕ) (xs : List X)
    → cut_rows across col row cols rows (map f xs) ≡ map f (cut_rows across col row cols rows xs)
cut_map f across col row cols zero xs = refl
cut_map f across col row cols (suc n) xs =
    ap (λ ys. take cols ys ++ cut_rows across col (row + 1) cols n (map f xs)) (drop-map f (row * across + col) xs)
    ∙ ap (λ ys. ys ++ cut_rows across col (row + 1) cols n (map f xs)) (take-map f cols (drop (row * across + col) xs))
    ∙ ap (λ ys. map f (take cols (drop (row * across + col) xs)) ++ ys) (cut_map f across col (row + 1) cols n xs)
    ∙ sym (map-append f (take cols (drop (row * across + col) xs)) (cut_rows across col (row + 1) cols n xs))

-- a side is a whole number of pixels where there are 2^k of them
power_pixel : (z k : ℕ) → z ≤ 18 → k ≤ 12 → 2 ^ k * (side_at z / 2 ^ k) ≡ side_at z
power_pixel z k h few =
    let e : 30 - z ≡ k + (30 - z - k) = omega arith in
    let side : side_at z ≡ 2 ^ k * 2 ^ (30 - z - k) = ap (λ n. 2 ^ n) e ∙ pow-add 2 k (30 - z - k) in
    ap (λ n. 2 ^ k * (n / 2 ^ k)) side
    ∙ ap (λ n. 2 ^ k * n) (mul-div_cancel_left (2 ^ (30 - z - k)) (pow_pos k))
    ∙ sym side

-- a tile's side is a whole number of pixels
whole_pixel : (size z : ℕ) → IsTileSize size → z ≤ 18 → size * (side_at z / size) ≡ side_at z
whole_pixel size z sized h =
    by_sizes (λ n. n * (side_at z / n) ≡ side_at z) (power_pixel z 4 h (omega arith)) (power_pixel z 5 h (omega arith)) (power_pixel z 6 h (omega arith))
    (power_pixel z 7 h (omega arith)) (power_pixel z 8 h (omega arith)) (power_pixel z 9 h (omega arith)) size sized

-- a tile's window is a part of its metatile's
tile_part : (m : Meta) (size col row : ℕ) → size * (side_at m.z / size) ≡ side_at m.z → col < tiles_across m → row < tiles_across m
    → Part (window_of (tile_at m col row) size) (meta_window_of m size) (col * size) (row * size)
tile_part m size col row e h k =
    let a : (col + 1) * size ≤ tiles_across m * size = mul-le-mul_right size (omega arith) in
    let b : (row + 1) * size ≤ tiles_across m * size = mul-le-mul_right size (omega arith) in
    record {
      pixel = refl;
      west = omega (arith, ap (λ n. col * n) e);
      north = omega (arith, ap (λ n. row * n) e);
      cols_in = omega (arith, a);
      rows_in = omega (arith, b);
    }

-- the part of a metatile's picture that a tile covers is the tile
pub tile_cut : (style : MapStyle) (size : ℕ) (m : Meta) (data_layers : List Layer) (w : Window) (col row : ℕ) (image : Pixels)
    → IsTileSize size → m.z ≤ 18 → col < tiles_across m → row < tiles_across m → w ≡ meta_window_of m size
    → image ≡ record { cols = w.cols; rows = w.rows; pixels = map (colour_at style size m.z data_layers) (centres w) }
    → pixels_text size size (cut_of image (col * size) (row * size) size size).pixels ≡ drawn_tile style size (tile_at m col row) data_layers
tile_cut style size m data_layers w col row image sized z h k window_is image_is =
    let f = colour_at style size m.z data_layers in
    let p = tile_part m size col row (whole_pixel size m.z sized z) h k in
    ap (λ i. pixels_text size size (cut_of i (col * size) (row * size) size size).pixels) image_is
    ∙ ap (λ v. pixels_text size size (cut_rows v.cols (col * size) (row * size) size size (map f (centres v)))) window_is
    ∙ ap (pixels_text size size) (cut_map f (meta_window_of m size).cols (col * size) (row * size) size size (centres (meta_window_of m size))
    ∙ ap (map f) (centres_cut (window_of (tile_at m col row) size) (meta_window_of m size) (col * size) (row * size) p))

-- functions that agree on a range make the same of it
pub map_range : {Y : Type 0} (f g : ℕ → Y) (a n : ℕ) → ((k : ℕ) → k < a + n → f k ≡ g k) → map f (range_with_len a n) ≡ map g (range_with_len a n)
map_range f g a zero same = refl
map_range f g a (suc n) same =
    ap (λ y. y ∷ map f (range_with_len (a + 1) n)) (same a (omega arith)) ∙ ap (λ ys. g a ∷ ys) (map_range f g (a + 1) n (λ k h. same k (omega arith)))

pub flat_range : {Y : Type 0} (f g : ℕ → List Y) (a n : ℕ) → ((k : ℕ) → k < a + n → f k ≡ g k) → flat_map f (range_with_len a n) ≡ flat_map g (range_with_len a n)
flat_range f g a zero same = refl
flat_range f g a (suc n) same =
    ap (λ y. y ++ flat_map f (range_with_len (a + 1) n)) (same a (omega arith)) ∙ ap (λ ys. g a ++ ys) (flat_range f g (a + 1) n (λ k h. same k (omega arith)))

map_flat : {X Y : Type 0} (f : X → Y) (g : ℕ → List X) (ks : List ℕ) → flat_map (λ k. map f (g k)) ks ≡ map f (flat_map g ks)
map_flat f g [] = refl
map_flat f g (k ∷ ks) = ap (λ ys. map f (g k) ++ ys) (map_flat f g ks) ∙ sym (map-append f (g k) (flat_map g ks))

map_map : {X Y : Type 0} (f : X → Y) (g : ℕ → X) (ks : List ℕ) → map (λ k. f (g k)) ks ≡ map f (map g ks)
map_map f g [] = refl
map_map f g (k ∷ ks) = ap (λ ys. f (g k) ∷ ys) (map_map f g ks)

-- the parts of a metatile's picture are its tiles, in order of index place
pub tiles_cut : (style : MapStyle) (size : ℕ) (m : Meta) (data_layers : List Layer) (w : Window) (image : Pixels)
    → IsTileSize size → m.z ≤ 18 → w ≡ meta_window_of m size
    → image ≡ record { cols = w.cols; rows = w.rows; pixels = map (colour_at style size m.z data_layers) (centres w) }
    → part_texts image size (tiles_across m) ≡ tiles_of style size m data_layers
tiles_cut style size m data_layers w image sized z window_is image_is =
    let f = λ (t : Tile). drawn_tile style size t data_layers in
    flat_range (column_texts image size (tiles_across m)) (λ col. map f (column_of m col)) 0 (tiles_across m)
    (λ col h. map_range (λ row. part_text image size col row) (λ row. f (tile_at m col row)) 0 (tiles_across m)
    (λ row k. tile_cut style size m data_layers w col row image sized z (omega arith) (omega arith) window_is image_is)
    ∙ map_map f (λ row. tile_at m col row) (range_with_len 0 (tiles_across m)))
    ∙ map_flat f (column_of m) (range_with_len 0 (tiles_across m))
