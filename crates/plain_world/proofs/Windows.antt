-- What the window of a tile and of a metatile keep.
use Rattle.std.proofs.Common.{◌≡◌, ℕ, ◌+◌, ◌-◌, ◌*◌, ◌/◌, ◌%◌, ◌^◌, ◌<◌, ◌≤◌, ◌==◌, min, Bool, true, false, ◌||◌, refl, ap, sym, subst, ◌∙◌, arith, inl, inr}
use Rattle.std.proofs.lemmas.Nat.{pow_pos, pow-add, le-div}
use Rattle.std.proofs.lemmas.Bool.{cases_lt, eqb-true}
use Rattle.std.proofs.Math.Nat.{mul-le-mul_right, mul-le-mul_left, mul-div-le, div-le_of_le-mul, pow-le-pow_right}
use Rattle.plain_world.specs.declared.world.Tile.{Tile}
use Rattle.plain_world.specs.declared.world.Meta.{Meta}
use Rattle.plain_world.specs.World.{side_at, IsTile, IsMeta, IsTileSize, IsWindow, tiles_across, window_of, meta_window_of}

-- as many columns as a zoom has, each as wide as its squares, are the world
pub world_wide : (z : ℕ) → z ≤ 18 → 2 ^ z * side_at z ≡ 2 ^ 30
world_wide z h =
    let e : z + (30 - z) ≡ 30 = omega arith in
    sym (pow-add 2 z (30 - z)) ∙ ap (λ n. 2 ^ n) e

-- n columns from column x on lie in the world, where the zoom has that many
pub columns_fit : (z x n : ℕ) → z ≤ 18 → x + n ≤ 2 ^ z → x * side_at z + n * side_at z ≤ 2 ^ 30
columns_fit z x n h k =
    let e : 2 ^ z * side_at z ≡ 2 ^ 30 = world_wide z h in
    let p : (x + n) * side_at z ≤ 2 ^ z * side_at z = mul-le-mul_right (side_at z) k in
    omega (arith, e, p)

-- the pixels of n tiles are no wider than the tiles
pub pixels_fit : (side size n : ℕ) → size * n * (side / size) ≤ n * side
pixels_fit side size n =
    let p : n * (size * (side / size)) ≤ n * side = mul-le-mul_left n (mul-div-le side size) in
    omega (arith, p)

-- a side is 2^12 units or more and at most the world's
side_least : (z : ℕ) → z ≤ 18 → 2 ^ 12 ≤ side_at z
side_least z h = let a : 0 < 2 = omega arith in let b : 12 ≤ 30 - z = omega arith in pow-le-pow_right a b

pub side_most : (z : ℕ) → side_at z ≤ 2 ^ 30
side_most z = let a : 0 < 2 = omega arith in let b : 30 - z ≤ 30 = omega arith in pow-le-pow_right a b

-- what holds of the six sizes of tiles holds of each
pub by_sizes : (P : ℕ → Type 0) → P 16 → P 32 → P 64 → P 128 → P 256 → P 512 → (n : ℕ) → IsTileSize n → P n
by_sizes P a b c d e f n h = pick _ _ h (λ i. pick _ _ i (λ j. pick _ _ j (λ k. pick _ _ k (λ l. pick _ _ l (at 16 a) (at 32 b)) (at 64 c)) (at 128 d)) (at 256 e)) (at 512 f)
  where
    at : (m : ℕ) → P m → (n == m) ≡ true → P n
    at m p same = subst P (sym (eqb-true n m same)) p

    pick : (x y : Bool) → (x || y) ≡ true → (x ≡ true → P n) → (y ≡ true → P n) → P n
    pick true y h left right = left refl
    pick false y h left right = right h

pub size_bounds : (n : ℕ) → IsTileSize n → (16 ≤ n) × (n ≤ 512)
size_bounds = by_sizes (λ n. (16 ≤ n) × (n ≤ 512)) (omega arith, omega arith) (omega arith, omega arith) (omega arith, omega arith) (omega arith, omega arith) (omega arith, omega arith) (omega arith, omega arith)

pub pixel_least : (z size : ℕ) → z ≤ 18 → IsTileSize size → 1 ≤ side_at z / size
pixel_least z size h k =
    let b = size_bounds size k in
    let s : 2 ^ 12 ≤ side_at z = side_least z h in
    let l : 1 * size ≤ side_at z = omega (arith, b.1) in
    let p : 0 < size = omega (arith, b.0) in
    le-div 1 (side_at z) size p l

pub pixel_most : (z size : ℕ) → IsTileSize size → side_at z / size ≤ 2 ^ 26
pixel_most z size k =
    let b = size_bounds size k in
    let s : side_at z ≤ 2 ^ 30 = side_most z in
    let l : 16 * 2 ^ 26 ≤ size * 2 ^ 26 = mul-le-mul_right (2 ^ 26) b.0 in
    let m : side_at z ≤ size * 2 ^ 26 = omega arith in
    div-le_of_le-mul size m

pub window_is : (t : Tile) (size : ℕ) → IsTile t → IsTileSize size → IsWindow (window_of t size)
window_is t size h k =
    let b = size_bounds size k in
    let p : size * 1 * (side_at t.z / size) ≤ 1 * side_at t.z = pixels_fit (side_at t.z) size 1 in
    let e : t.x * side_at t.z + 1 * side_at t.z ≤ 2 ^ 30 = columns_fit t.z t.x 1 h.z_fits (omega (arith, h.x_fits)) in
    let s : t.y * side_at t.z + 1 * side_at t.z ≤ 2 ^ 30 = columns_fit t.z t.y 1 h.z_fits (omega (arith, h.y_fits)) in
    record {
      some_pixel = pixel_least t.z size h.z_fits k;
      small_pixel = pixel_most t.z size k;
      some_col = omega (arith, b.0);
      some_row = omega (arith, b.0);
      few_cols = omega (arith, b.1);
      few_rows = omega (arith, b.1);
      east_fits = omega (arith, p, e);
      south_fits = omega (arith, p, s);
    }

-- the tiles of a metatile lie in the world
across_fits : (z x : ℕ) → x < 2 ^ z → x % 8 ≡ 0 → x + min 8 (2 ^ z) ≤ 2 ^ z
across_fits z x h e = elim (cases_lt z 3) [
  | inl low ↦ (
      let a : 0 < 2 = omega arith in
      let b : z ≤ 2 = omega (arith, low) in
      let p : 2 ^ z ≤ 2 ^ 2 = pow-le-pow_right a b in
      omega arith)
  | inr high ↦ (
      let d : 3 + (z - 3) ≡ z = omega (arith, high) in
      let p : 2 ^ 3 * 2 ^ (z - 3) ≡ 2 ^ z = sym (pow-add 2 3 (z - 3)) ∙ ap (λ n. 2 ^ n) d in
      omega arith)
]

pub meta_window_is : (m : Meta) (size : ℕ) → IsMeta m → IsTileSize size → IsWindow (meta_window_of m size)
meta_window_is m size h k =
    let b = size_bounds size k in
    let n : 0 < 2 ^ m.z = pow_pos m.z in
    let l : size * 1 ≤ size * tiles_across m = mul-le-mul_left size (omega arith) in
    let g : size * tiles_across m ≤ size * 8 = mul-le-mul_left size (omega arith) in
    let p : size * tiles_across m * (side_at m.z / size) ≤ tiles_across m * side_at m.z = pixels_fit (side_at m.z) size (tiles_across m) in
    let e : m.x * side_at m.z + tiles_across m * side_at m.z ≤ 2 ^ 30 = columns_fit m.z m.x (tiles_across m) h.z_fits (across_fits m.z m.x h.x_fits h.x_eights) in
    let s : m.y * side_at m.z + tiles_across m * side_at m.z ≤ 2 ^ 30 = columns_fit m.z m.y (tiles_across m) h.z_fits (across_fits m.z m.y h.y_fits h.y_eights) in
    record {
      some_pixel = pixel_least m.z size h.z_fits k;
      small_pixel = pixel_most m.z size k;
      some_col = omega (arith, b.0, l);
      some_row = omega (arith, b.0, l);
      few_cols = omega (arith, b.1, g);
      few_rows = omega (arith, b.1, g);
      east_fits = omega (arith, p, e);
      south_fits = omega (arith, p, s);
    }
