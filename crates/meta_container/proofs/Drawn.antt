-- The drawings of a metatile's tiles: how many, how long, and which stands at a tile's place.
use Rattle.std.proofs.Common.{◌≡◌, ℕ, ◌+◌, ◌*◌, ◌/◌, ◌%◌, ◌<◌, ◌≤◌, true, ◌&&◌, List, [], ◌∷◌, length, get_or, map, Ok, refl, sym, ap, subst, ◌∙◌, arith}
use Rattle.std.specs.List.{list_all}
use Rattle.std.proofs.Math.Nat.{mul-le-mul_right, mul-le-mul}
use Rattle.std.proofs.lemmas.Bool.{lt-ltb, eq-eqb}
use Rattle.std.proofs.lemmas.List.{length-map, get_or-map}
use Rattle.std.proofs.lemmas.List.FromFn.{length-map-range_with_len, get_or-map-range_with_len}
use Rattle.std.proofs.lemmas.List.Sums.{sum_by-cons}
use Rattle.plain_world.specs.declared.world.Meta.{Meta}
use Rattle.plain_world.specs.declared.world.Tile.{Tile}
use Rattle.plain_world.specs.World.{IsTile, meta_of, tiles_across, index_place, window_of, centres}
use Rattle.plain_shapes.specs.Features.{Layer}
use Rattle.plain_drawing.specs.Styles.{MapStyle}
use Rattle.plain_drawing.specs.Drawing as drawing
use Rattle.plain_drawing.specs.inner.PartTexts.{tile_bytes, most_tile_bytes}
use Rattle.plain_drawing.specs.Metatiles.{tile_at, column_of, tiles_in, tiles_of}
use Rattle.plain_shapes.proofs.Places.{length_pieces, get_or_pieces, length-centres}
use Rattle.plain_drawing.proofs.TileTexts.{length_text, few_bytes}
use Rattle.plain_world.proofs.Windows.{size_bounds}
use Rattle.meta_container.specs.Container.{bytes_of, is_stored, rank}
use Rattle.meta_container.specs.Heads.{all_of_size}
use Rattle.meta_container.specs.Laws.{meta_tile}
use Rattle.meta_container.specs.Drawn.{DrawnAreTiles, DrawnInPlace, DrawnComeBack}
use Rattle.meta_container.proofs.Written.{tiles_come_back}

-- the tiles of a metatile
length_column : (m : Meta) (col : ℕ) → length (column_of m col) ≡ tiles_across m
length_column m col = length-map-range_with_len (λ row. tile_at m col row) 0 (tiles_across m)

length_tiles : (m : Meta) → length (tiles_in m) ≡ tiles_across m * tiles_across m
length_tiles m = length_pieces (column_of m) (tiles_across m) (length_column m) 0 (tiles_across m)

tile_in_place : (m : Meta) (col row : ℕ) (d : Tile) → col < tiles_across m → row < tiles_across m
    → get_or (tiles_in m) (col * tiles_across m + row) d ≡ tile_at m col row
tile_in_place m col row d p q =
    let e : 0 + col ≡ col = omega arith in
    get_or_pieces (column_of m) (tiles_across m) (length_column m) 0 (tiles_across m) col row d q p
    ∙ ap (λ k. get_or (column_of m k) row d) e
    ∙ get_or-map-range_with_len (λ k. tile_at m col k) 0 (tiles_across m) row row d q (omega arith)

-- a tile is the one of its column and row in its metatile
abbrev tile_of_numbers : ℕ → ℕ → ℕ → Tile
tile_of_numbers z x y = record { z = z; x = x; y = y }

tile_is : (z x y w v : ℕ) → w ≡ x → v ≡ y → tile_of_numbers z w v ≡ tile_of_numbers z x y
tile_is z x y w v e f = rw (e, f) refl

-- the drawing of a tile is as long as its size says
length_drawn : (style : MapStyle) (size : ℕ) (t : Tile) (data_layers : List Layer) → length (drawing.drawn_tile style size t data_layers) ≡ tile_bytes size
length_drawn style size t data_layers =
    length_text size (map (drawing.colour_at style size t.z data_layers) (centres (window_of t size)))
    (length-map (centres (window_of t size)) (drawing.colour_at style size t.z data_layers) ∙ length-centres (window_of t size))

stored_drawn : (style : MapStyle) (size : ℕ) (t : Tile) (data_layers : List Layer) → is_stored (drawing.drawn_tile style size t data_layers) ≡ true
stored_drawn style size t data_layers = lt-ltb 0 (length (drawing.drawn_tile style size t data_layers)) (omega (arith, length_drawn style size t data_layers))

-- drawings one after another
all_stored : (style : MapStyle) (size : ℕ) (data_layers : List Layer) (ts : List Tile) → list_all is_stored (map (λ t. drawing.drawn_tile style size t data_layers) ts) ≡ true
all_stored style size data_layers [] = refl
all_stored style size data_layers (t ∷ ts) =
    ap (λ b. b && list_all is_stored (map (λ u. drawing.drawn_tile style size u data_layers) ts)) (stored_drawn style size t data_layers)
    ∙ all_stored style size data_layers ts

-- the drawings of tiles have all the same size
all_even : (style : MapStyle) (size n : ℕ) (data_layers : List Layer) (ts : List Tile) → n ≡ tile_bytes size
    → all_of_size n (map (λ t. drawing.drawn_tile style size t data_layers) ts) ≡ true
all_even style size n data_layers [] e = refl
all_even style size n data_layers (t ∷ ts) e =
    ap (λ b. b && all_of_size n (map (λ u. drawing.drawn_tile style size u data_layers) ts))
    (eq-eqb (length (drawing.drawn_tile style size t data_layers)) n (length_drawn style size t data_layers ∙ sym e))
    ∙ all_even style size n data_layers ts e

pub drawn_of_size : (style : MapStyle) (size n : ℕ) (m : Meta) (data_layers : List Layer) → n ≡ tile_bytes size
    → all_of_size n (tiles_of style size m data_layers) ≡ true
drawn_of_size style size n m data_layers e = all_even style size n data_layers (tiles_in m) e

all_short : (style : MapStyle) (size : ℕ) (data_layers : List Layer) (ts : List Tile) → size ≤ 512
    → bytes_of (map (λ t. drawing.drawn_tile style size t data_layers) ts) ≤ length ts * most_tile_bytes
all_short style size data_layers [] few = omega arith
all_short style size data_layers (t ∷ ts) few =
    let one = length_drawn style size t data_layers in
    let most = few_bytes size few in
    let more = all_short style size data_layers ts few in
    let sum = sum_by-cons (λ (tile : List ℕ). length tile) (drawing.drawn_tile style size t data_layers) (map (λ u. drawing.drawn_tile style size u data_layers) ts) in
    omega (arith, sum, one, most, more)

pub drawn_are_tiles : DrawnAreTiles
drawn_are_tiles style size m data_layers is size_is =
    let few = (size_bounds size size_is).1 in
    let across : tiles_across m ≤ 8 = omega arith in
    let square : tiles_across m * tiles_across m ≤ 8 * 8 = mul-le-mul across across in
    let count = length-map (tiles_in m) (λ t. drawing.drawn_tile style size t data_layers) ∙ length_tiles m in
    let short = all_short style size data_layers (tiles_in m) few in
    let tiles = length_tiles m in
    let most : length (tiles_in m) ≤ 64 = omega (arith, tiles, square) in
    record { meta = is; count = count; stored = all_stored style size data_layers (tiles_in m); short = omega (arith, short, most) }

own_place : (style : MapStyle) (size : ℕ) (data_layers : List Layer) (t : Tile) → IsTile t
    → meta_tile (meta_of t) (tiles_of style size (meta_of t) data_layers) t ≡ drawing.drawn_tile style size t data_layers
own_place style size data_layers t is =
    let x = is.x_fits in
    let y = is.y_fits in
    let col : index_place t / 8 ≡ t.x % 8 = omega arith in
    let row : index_place t % 8 ≡ t.y % 8 = omega arith in
    let col_fits : t.x % 8 < tiles_across (meta_of t) = omega arith in
    let row_fits : t.y % 8 < tiles_across (meta_of t) = omega arith in
    let place : rank (tiles_across (meta_of t)) (index_place t) ≡ t.x % 8 * tiles_across (meta_of t) + t.y % 8 =
    ap (λ n. n * tiles_across (meta_of t) + index_place t % 8) col ∙ ap (λ n. t.x % 8 * tiles_across (meta_of t) + n) row in
    let there = tile_in_place (meta_of t) (t.x % 8) (t.y % 8) t col_fits row_fits in
    let cols : t.x / 8 * 8 + t.x % 8 ≡ t.x = omega arith in
    let rows : t.y / 8 * 8 + t.y % 8 ≡ t.y = omega arith in
    let across : tiles_across (meta_of t) ≤ 8 = omega arith in
    let below : t.x % 8 * tiles_across (meta_of t) + t.y % 8 < length (tiles_in (meta_of t)) =
    below_all (tiles_across (meta_of t)) (t.x % 8) (t.y % 8) (length (tiles_in (meta_of t))) col_fits row_fits (length_tiles (meta_of t)) in
    ap (λ n. get_or (tiles_of style size (meta_of t) data_layers) n []) place
    ∙ get_or-map (λ u. drawing.drawn_tile style size u data_layers) (tiles_in (meta_of t)) (t.x % 8 * tiles_across (meta_of t) + t.y % 8) t [] below
    ∙ ap (λ u. drawing.drawn_tile style size u data_layers) (there ∙ tile_is t.z t.x t.y (t.x / 8 * 8 + t.x % 8) (t.y / 8 * 8 + t.y % 8) cols rows)
  where
    below_all : (a p q n : ℕ) → p < a → q < a → n ≡ a * a → p * a + q < n
    below_all a p q n h g e =
        let m : (p + 1) * a ≤ a * a = mul-le-mul_right a (omega arith) in
        omega arith

pub drawn_in_place : DrawnInPlace
drawn_in_place style size m data_layers t is e =
    subst (λ (n : Meta). meta_tile n (tiles_of style size n data_layers) t ≡ drawing.drawn_tile style size t data_layers) e (own_place style size data_layers t is)

pub drawn_come_back : DrawnComeBack
drawn_come_back style size m data_layers t m_is size_is is e =
    tiles_come_back m (tiles_of style size m data_layers) t (drawn_are_tiles style size m data_layers m_is size_is) is e
    ∙ ap Ok (drawn_in_place style size m data_layers t is e)
