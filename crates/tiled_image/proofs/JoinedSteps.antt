-- What the tiles of an image are after each step of painting it.
use Rattle.std.proofs.Common.{◌≡◌, ℕ, ◌+◌, ◌-◌, ◌*◌, ◌/◌, ◌%◌, ◌^◌, ◌<◌, ◌≤◌, min, List, [], ◌++◌, length, take, drop, flat_map, get_or, set, replicate, refl, ap, sym, subst, ◌∙◌, arith, append_assoc, length-set}
use Rattle.std.specs.Prelude.{slice_get, Some}
use Rattle.std.proofs.lemmas.Nat.{mul-le, div-add-mod'}
use Rattle.std.proofs.lemmas.List.{get_or-replicate, length-replicate, drop-drop}
use Rattle.std.proofs.lemmas.Grind.{flat_map-append}
use Rattle.std.proofs.lemmas.List.Elements.{All-set, All-from_get_or}
use Rattle.std.proofs.lemmas.Option.{slice_get-get_or, get_or_from_slice_get}
use Rattle.plain_world.specs.World.{IsTileSize}
use Rattle.plain_world.proofs.Windows.{size_bounds}
use Rattle.plain_shapes.specs.declared.colour.Colour.{Colour}
use Rattle.plain_shapes.specs.Images.{Pixels, IsRaster}
use Rattle.plain_shapes.specs.Ppm.{pixel_bytes}
use Rattle.plain_image.specs.Runs.{run_changed}
use Rattle.plain_image.proofs.Runs.{run_length}
use Rattle.tiled_image.specs.inner.Tiles.{Texts, IsTiled, joined}
use Rattle.tiled_image.proofs.JoinedRuns.{runs_adjoin}
use Rattle.tiled_image.proofs.Joined.{Spot, tile_of, inner_of, place_of, black, spot, place_is as place_at, place_in, tile_in, inner_in, length_joined, joined_at}
use Rattle.tiled_image.proofs.JoinedPaint.{are_tiles, painted_tile}
use Rattle.tiled_image.proofs.JoinedParts.{image_of, joined_blank, run_cut, take_both}

-- so many columns are few
pub few_cols : (shift a : ℕ) (t : Texts) → IsTiled shift a t → (1 ≤ t.side * a) × (t.side * a ≤ 4096)
few_cols shift a t is =
    let side : (16 ≤ t.side) × (t.side ≤ 512) = size_bounds t.side is.size in
    (omega (arith, mul-le 1 1 t.side a (omega (arith, side.0)) is.some), omega (arith, mul-le t.side a 512 8 side.1 is.few))

pub raster_of : (shift a : ℕ) (t : Texts) (image : Pixels) → IsTiled shift a t → image_of t.side a t.tiles ≡ image → IsRaster image.cols image.rows (length image.pixels)
raster_of shift a t image is view =
    let few : (1 ≤ t.side * a) × (t.side * a ≤ 4096) = few_cols shift a t is in
    subst (λ i. IsRaster i.cols i.rows (length i.pixels)) view
    (record { some_col = few.0; few_cols = few.1; some_row = few.0; few_rows = few.1; count_is = length_joined t.side a t.tiles })

-- tiles of one colour
pub blank_tiled : (shift a size before : ℕ) (c : Colour) (t : Texts) → IsTileSize size → size ≡ 2 ^ shift → shift ≤ 9 → 1 ≤ a → a ≤ 8
    → t ≡ record { before = before; side = size; tiles = replicate (a * a) (replicate (size * size) c) } → IsTiled shift a t
blank_tiled shift a size before c t sized power small some few is =
    subst (λ v. IsTiled shift a v) (sym is)
    (record {
      size = sized;
      power = power;
      small = small;
      some = some;
      few = few;
      count = length-replicate (a * a) (replicate (size * size) c);
      whole = All-from_get_or (λ tile. length tile ≡ size * size) (replicate (a * a) (replicate (size * size) c)) []
          (λ k lt. ap length (get_or-replicate (a * a) k (replicate (size * size) c) [] (omega (arith, lt, length-replicate (a * a) (replicate (size * size) c))))
          ∙ length-replicate (size * size) c);
    })

pub blank_image : (a size before : ℕ) (c : Colour) (t : Texts) → IsTileSize size → 1 ≤ a
    → t ≡ record { before = before; side = size; tiles = replicate (a * a) (replicate (size * size) c) }
    → image_of t.side a t.tiles ≡ record { cols = size * a; rows = size * a; pixels = replicate (size * a * (size * a)) c }
blank_image a size before c t sized some is =
    let side : (16 ≤ size) × (size ≤ 512) = size_bounds size sized in
    ap (λ (v : Texts). image_of v.side a v.tiles) is
    ∙ ap (λ ps. record { cols = size * a; rows = size * a; pixels = ps }) (joined_blank size a c (omega (arith, side.0)) some)

-- a tile and a place in it, as they are found for a column and a row
pub record Found (shift a i j tile place : ℕ) (t : Texts) : Type 0 where
  pub at : Spot t.side a
  pub tile_is : tile ≡ tile_of at
  pub inner_is : place ≡ inner_of at
  pub place_is : place_of at ≡ j * (t.side * a) + i
  pub col_is : at.x * t.side + at.p ≡ i
  pub x_is : at.x ≡ i / t.side
  pub tile_in : tile < length t.tiles
  pub inner_in : place < t.side * t.side

pub found : (shift a i j tile place : ℕ) (t : Texts) → IsTiled shift a t → i < t.side * a → j < t.side * a
    → tile ≡ i / 2 ^ shift * a + j / 2 ^ shift → place ≡ j % 2 ^ shift * 2 ^ shift + i % 2 ^ shift → Found shift a i j tile place t
found shift a i j tile place t is col row tile_as place_as =
    let side : (16 ≤ t.side) × (t.side ≤ 512) = size_bounds t.side is.size in
    let some : 1 ≤ t.side = omega (arith, side.0) in
    let v : Spot t.side a = spot t.side a i j some col row in
    let tile_is : tile ≡ tile_of v = tile_as ∙ ap (λ k. i / k * a + j / k) (sym is.power) in
    let inner_is : place ≡ inner_of v = place_as ∙ ap (λ k. j % k * k + i % k) (sym is.power) in
    record {
      at = v;
      tile_is = tile_is;
      inner_is = inner_is;
      place_is = place_at t.side a i j some col row;
      col_is = div-add-mod' i t.side;
      x_is = refl;
      tile_in = omega (arith, tile_is, tile_in v, is.count);
      inner_in = omega (arith, inner_is, inner_in v);
    }

-- a pixel of the image
pub found_in : (shift a i j tile place : ℕ) (t : Texts) (image : Pixels) → IsTiled shift a t → image_of t.side a t.tiles ≡ image → i < image.cols → j < image.rows
    → tile ≡ i / 2 ^ shift * a + j / 2 ^ shift → place ≡ j % 2 ^ shift * 2 ^ shift + i % 2 ^ shift → Found shift a i j tile place t
found_in shift a i j tile place t image is view col row tile_as place_as =
    found shift a i j tile place t is (omega (arith, ap (λ m. m.cols) view, col)) (omega (arith, ap (λ m. m.rows) view, row)) tile_as place_as

-- the colour there is that of the image
pub pixel_found : (shift a i j tile place : ℕ) (t : Texts) (image : Pixels) (c : Colour) → IsTiled shift a t → image_of t.side a t.tiles ≡ image → Found shift a i j tile place t
    → slice_get (get_or t.tiles tile []) place ≡ Some c → slice_get image.pixels (j * image.cols + i) ≡ Some c
pixel_found shift a i j tile place t image c is view f got =
    let n : ℕ = t.side * a in
    let fits : j * n + i < length (joined t.side a t.tiles) = omega (arith, f.place_is, place_in f.at, length_joined t.side a t.tiles) in
    ap (λ m. slice_get m.pixels (j * m.cols + i)) (sym view)
    ∙ slice_get-get_or (joined t.side a t.tiles) (j * n + i) c fits
    ∙ ap Some (ap (λ k. get_or (joined t.side a t.tiles) k c) (sym f.place_is)
    ∙ joined_at f.at t.tiles c
    ∙ ap (λ k. get_or (get_or t.tiles k []) (inner_of f.at) black) (sym f.tile_is)
    ∙ ap (λ k. get_or (get_or t.tiles tile []) k black) (sym f.inner_is)
    ∙ get_or_from_slice_get (get_or t.tiles tile []) place c black got)

-- the run is painted up to the column `from`
pub record Reached (f : Colour → Colour) (j start from end shift a : ℕ) (old : Pixels) (t : Texts) : Type 0 where
  pub tiled : IsTiled shift a t
  pub cols : t.side * a ≡ old.cols
  pub rows : t.side * a ≡ old.rows
  pub low : start ≤ from
  pub high : from ≤ end
  pub is : joined t.side a t.tiles ≡ run_changed f (j * old.cols + start) (from - start) old.pixels

-- the next pixel to be painted
pub next_found : (f : Colour → Colour) (j start from end shift a tile place : ℕ) (old : Pixels) (t : Texts) → Reached f j start from end shift a old t → from < end → end ≤ old.cols → j < old.rows
    → tile ≡ from / 2 ^ shift * a + j / 2 ^ shift → place ≡ j % 2 ^ shift * 2 ^ shift + from % 2 ^ shift → Found shift a from j tile place t
next_found f j start from end shift a tile place old t r before cols row tile_as place_as =
    found shift a from j tile place t r.tiled (omega (arith, r.cols, before, cols)) (omega (arith, r.rows, row)) tile_as place_as

-- a tile changed is as long
tiled_set : (shift a tile : ℕ) (t next : Texts) (c : List Colour) → IsTiled shift a t → length c ≡ t.side * t.side → next ≡ record t { tiles = set t.tiles tile c } → IsTiled shift a next
tiled_set shift a tile t next c is long next_is =
    subst (λ v. IsTiled shift a v) (sym next_is)
    (record {
      size = is.size;
      power = is.power;
      small = is.small;
      some = is.some;
      few = is.few;
      count = length-set t.tiles tile c ∙ is.count;
      whole = All-set (λ d. length d ≡ t.side * t.side) t.tiles tile c long is.whole;
    })

-- the part of the run that is in the next tile
pub reached_more : (f : Colour → Colour) (j start from until end shift a tile place : ℕ) (old : Pixels) (t next : Texts)
    → Reached f j start from end shift a old t → Found shift a from j tile place t → from < end → until ≡ min end ((from / 2 ^ shift + 1) * 2 ^ shift)
    → next ≡ record t { tiles = set t.tiles tile (run_changed f place (place + (until - from) - place) (get_or t.tiles tile [])) }
    → Reached f j start until end shift a old next
reached_more f j start from until end shift a tile place old t next r g before until_is next_is =
    let s : ℕ = t.side in
    let v : Spot s a = g.at in
    let m : ℕ = until - from in
    let k0 : ℕ = j * old.cols + start in
    let whole : until ≡ min end ((v.x + 1) * s) =
    until_is ∙ ap (λ k. min end ((from / k + 1) * k)) (sym r.tiled.power) ∙ ap (λ k. min end ((k + 1) * s)) (sym g.x_is) in
    let fits : v.p + m ≤ s = omega (arith, whole, g.col_is, v.p_in) in
    let more : from ≤ until = omega (arith, whole, g.col_is, v.p_in, before) in
    let most : until ≤ end = omega (arith, whole) in
    let count : place + m - place ≡ m = omega arith in
    let changed : next ≡ record t { tiles = set t.tiles (tile_of v) (run_changed f (inner_of v) m (get_or t.tiles (tile_of v) [])) } =
    next_is
    ∙ ap (λ k. record t { tiles = set t.tiles tile (run_changed f place k (get_or t.tiles tile [])) }) count
    ∙ ap (λ k. record t { tiles = set t.tiles k (run_changed f place m (get_or t.tiles k [])) }) g.tile_is
    ∙ ap (λ k. record t { tiles = set t.tiles (tile_of v) (run_changed f k m (get_or t.tiles (tile_of v) [])) }) g.inner_is in
    let side : next.side ≡ s = ap (λ (n : Texts). n.side) changed in
    let at : place_of v ≡ k0 + (from - start) = omega (arith, g.place_is, ap (λ k. j * k) r.cols, r.low) in
    let all : from - start + m ≡ until - start = omega (arith, r.low, more) in
    record {
      tiled = tiled_set shift a (tile_of v) t next (run_changed f (inner_of v) m (get_or t.tiles (tile_of v) [])) r.tiled
          (run_length f (inner_of v) m (get_or t.tiles (tile_of v) []) ∙ (are_tiles shift a t r.tiled).whole (tile_of v) (tile_in v)) changed;
      cols = ap (λ k. k * a) side ∙ r.cols;
      rows = ap (λ k. k * a) side ∙ r.rows;
      low = omega (arith, r.low, more);
      high = most;
      is = ap (λ (n : Texts). joined n.side a n.tiles) changed
          ∙ painted_tile f v m t.tiles (are_tiles shift a t r.tiled) fits
          ∙ ap (λ k. run_changed f k m (joined s a t.tiles)) at
          ∙ ap (λ ps. run_changed f (k0 + (from - start)) m ps) r.is
          ∙ runs_adjoin f k0 (from - start) m old.pixels
          ∙ ap (λ k. run_changed f k0 k old.pixels) all;
    }

-- the part of a row that is in the next tile, behind the part that was put
pub put_more : (j start from until end shift a tile place : ℕ) (image : Pixels) (t : Texts) (old now next bytes : List ℕ)
    → IsTiled shift a t → image_of t.side a t.tiles ≡ image → Found shift a from j tile place t → start ≤ from → from < end → until ≡ min end ((from / 2 ^ shift + 1) * 2 ^ shift)
    → bytes ≡ flat_map pixel_bytes (take (place + (until - from) - place) (drop place (get_or t.tiles tile [])))
    → now ≡ old ++ flat_map pixel_bytes (take (from - start) (drop (j * image.cols + start) image.pixels)) → next ≡ now ++ bytes
    → (start ≤ until) × (until ≤ end) × (next ≡ old ++ flat_map pixel_bytes (take (until - start) (drop (j * image.cols + start) image.pixels)))
put_more j start from until end shift a tile place image t old now next bytes tiled view g low before until_is bytes_are so_far step =
    let s : ℕ = t.side in
    let v : Spot s a = g.at in
    let m : ℕ = until - from in
    let n : ℕ = from - start in
    let ps : List Colour = joined s a t.tiles in
    let k0 : ℕ = j * (s * a) + start in
    let whole : until ≡ min end ((v.x + 1) * s) =
    until_is ∙ ap (λ k. min end ((from / k + 1) * k)) (sym tiled.power) ∙ ap (λ k. min end ((k + 1) * s)) (sym g.x_is) in
    let fits : v.p + m ≤ s = omega (arith, whole, g.col_is, v.p_in) in
    let more : from ≤ until = omega (arith, whole, g.col_is, v.p_in, before) in
    let count : place + m - place ≡ m = omega arith in
    let at : place_of v ≡ k0 + n = omega (arith, g.place_is, low) in
    let all : n + m ≡ until - start = omega (arith, low, more) in
    let cut : bytes ≡ flat_map pixel_bytes (take m (drop n (drop k0 ps))) =
    bytes_are
    ∙ ap (λ k. flat_map pixel_bytes (take k (drop place (get_or t.tiles tile [])))) count
    ∙ ap (λ k. flat_map pixel_bytes (take m (drop place (get_or t.tiles k [])))) g.tile_is
    ∙ ap (λ k. flat_map pixel_bytes (take m (drop k (get_or t.tiles (tile_of v) [])))) g.inner_is
    ∙ ap (λ us. flat_map pixel_bytes us) (sym (run_cut v m t.tiles (are_tiles shift a t tiled) fits))
    ∙ ap (λ k. flat_map pixel_bytes (take m (drop k ps))) at
    ∙ ap (λ us. flat_map pixel_bytes (take m us)) (sym (drop-drop n k0 ps)) in
    let done : now ≡ old ++ flat_map pixel_bytes (take n (drop k0 ps)) = so_far ∙ ap (λ (i : Pixels). old ++ flat_map pixel_bytes (take n (drop (j * i.cols + start) i.pixels))) (sym view) in
    let all_put : next ≡ old ++ flat_map pixel_bytes (take (until - start) (drop (j * image.cols + start) image.pixels)) =
    step ∙ ap (λ bs. bs ++ bytes) done ∙ append_assoc old (flat_map pixel_bytes (take n (drop k0 ps))) bytes
    ∙ ap (λ bs. old ++ (flat_map pixel_bytes (take n (drop k0 ps)) ++ bs)) cut
    ∙ ap (λ bs. old ++ bs) (sym (flat_map-append pixel_bytes (take n (drop k0 ps)) (take m (drop n (drop k0 ps)))))
    ∙ ap (λ us. old ++ flat_map pixel_bytes us) (take_both n m (drop k0 ps))
    ∙ ap (λ k. old ++ flat_map pixel_bytes (take k (drop k0 ps))) all
    ∙ ap (λ (i : Pixels). old ++ flat_map pixel_bytes (take (until - start) (drop (j * i.cols + start) i.pixels))) view in
    (omega (arith, low, more), omega (arith, whole), all_put)
