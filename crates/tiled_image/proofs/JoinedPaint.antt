-- A run of pixels within one tile is a run of the image.
use Rattle.std.proofs.Common.{◌≡◌, ℕ, ◌+◌, ◌-◌, ◌*◌, ◌<◌, ◌≤◌, List, [], length, get_or, set, ap, sym, ◌∙◌, inl, inr, arith}
use Rattle.std.proofs.lemmas.Bool.{cases_lt, cases_eq}
use Rattle.std.proofs.lemmas.Nat.{mul-add-lt, same_from_place}
use Rattle.std.proofs.lemmas.List.{get_or-set_other}
use Rattle.std.proofs.lemmas.List.Elements.{All-get_or}
use Rattle.std.proofs.lemmas.Grind.{get_or-set_at}
use Rattle.plain_shapes.specs.declared.colour.Colour.{Colour}
use Rattle.plain_image.specs.Runs.{run_changed}
use Rattle.plain_image.proofs.Runs.{run_length}
use Rattle.plain_world.proofs.Windows.{size_bounds}
use Rattle.tiled_image.specs.inner.Tiles.{Texts, IsTiled, joined}
use Rattle.tiled_image.proofs.JoinedRuns.{run_at, run_before, run_behind}
use Rattle.tiled_image.proofs.Joined.{Spot, tile_of, inner_of, place_of, black, length_joined, col_in, tile_in, inner_in, place_in, joined_at, same_joined}

-- the pixel w is one of so many from v on, in a row of one tile
record OnRun {s a : ℕ} (v w : Spot s a) (m : ℕ) : Type 0 where
  tile : tile_of w ≡ tile_of v
  inner_low : inner_of v ≤ inner_of w
  inner_high : inner_of w < inner_of v + m
  low : place_of v ≤ place_of w
  high : place_of w < place_of v + m

on_run : {s a : ℕ} (v w : Spot s a) (m : ℕ) → w.x ≡ v.x → w.y ≡ v.y → w.q ≡ v.q → v.p ≤ w.p → w.p < v.p + m → OnRun v w m
on_run {s} {a} v w m x y q low high =
    let xs : w.x * s ≡ v.x * s = ap (λ k. k * s) x in
    let xa : w.x * a ≡ v.x * a = ap (λ k. k * a) x in
    let qs : w.q * s ≡ v.q * s = ap (λ k. k * s) q in
    let row : (w.y * s + w.q) * (s * a) ≡ (v.y * s + v.q) * (s * a) = ap (λ k. (k * s + w.q) * (s * a)) y ∙ ap (λ k. (v.y * s + k) * (s * a)) q in
    record {
      tile = omega (arith, xa, y);
      inner_low = omega (arith, qs, low);
      inner_high = omega (arith, qs, high);
      low = omega (arith, xs, row, low);
      high = omega (arith, xs, row, high);
    }

-- told by the tile
by_tile : {s a : ℕ} (v w : Spot s a) (m : ℕ) → v.p + m ≤ s → tile_of w ≡ tile_of v → inner_of v ≤ inner_of w → inner_of w < inner_of v + m → OnRun v w m
by_tile {s} {a} v w m fits same low high =
    let e : ℕ = inner_of w - inner_of v in
    let at : v.q * s + (v.p + e) ≡ w.q * s + w.p = omega (arith, low) in
    let t = same_from_place w.x w.y v.x v.y a w.y_in v.y_in same in
    let o = same_from_place w.q w.p v.q (v.p + e) s w.p_in (omega (arith, fits, high)) (sym at) in
    on_run v w m t.0 t.1 o.0 (omega (arith, o.1)) (omega (arith, o.1, high, low))

-- told by the image
by_image : {s a : ℕ} (v w : Spot s a) (m : ℕ) → v.p + m ≤ s → place_of v ≤ place_of w → place_of w < place_of v + m → OnRun v w m
by_image {s} {a} v w m fits low high =
    let n : ℕ = s * a in
    let e : ℕ = place_of w - place_of v in
    let less : e < m = omega (arith, low, high) in
    let at : (v.y * s + v.q) * n + (v.x * s + (v.p + e)) ≡ (w.y * s + w.q) * n + (w.x * s + w.p) = omega (arith, low) in
    let inside : v.x * s + (v.p + e) < n = mul-add-lt v.x s (v.p + e) a v.x_in (omega (arith, fits, less)) in
    let t = same_from_place (w.y * s + w.q) (w.x * s + w.p) (v.y * s + v.q) (v.x * s + (v.p + e)) n (col_in w) inside (sym at) in
    let y = same_from_place w.y w.q v.y v.q s w.q_in v.q_in t.0 in
    let x = same_from_place w.x w.p v.x (v.p + e) s w.p_in (omega (arith, fits, less)) t.1 in
    on_run v w m x.0 y.0 y.1 (omega (arith, x.1)) (omega (arith, x.1, less))

-- so many whole tiles
pub record AreTiles (s a : ℕ) (tiles : List (List Colour)) : Type 0 where
  pub some : 1 ≤ s
  pub across : 1 ≤ a
  pub count : length tiles ≡ a * a
  pub whole : (t : ℕ) → t < a * a → length (get_or tiles t []) ≡ s * s

pub are_tiles : (shift a : ℕ) (t : Texts) → IsTiled shift a t → AreTiles t.side a t.tiles
are_tiles shift a t is =
    let side : (16 ≤ t.side) × (t.side ≤ 512) = size_bounds t.side is.size in
    record {
      some = omega (arith, side.0);
      across = is.some;
      count = is.count;
      whole = λ k lt. All-get_or (λ tile. length tile ≡ t.side * t.side) t.tiles k [] (omega (arith, lt, is.count)) is.whole;
    }

-- a pixel beside the run is as it was
beside : {s a : ℕ} (f : Colour → Colour) (v w : Spot s a) (m : ℕ) (tiles : List (List Colour)) → AreTiles s a tiles → v.p + m ≤ s → (OnRun v w m → ⊥)
    → get_or (get_or (set tiles (tile_of v) (run_changed f (inner_of v) m (get_or tiles (tile_of v) []))) (tile_of w) []) (inner_of w) black
    ≡ get_or (get_or tiles (tile_of w) []) (inner_of w) black
beside {s} {a} f v w m tiles are fits off =
    let tile : List Colour = get_or tiles (tile_of v) [] in
    let painted : List Colour = run_changed f (inner_of v) m tile in
    elim (cases_eq (tile_of w) (tile_of v)) [
      | inl same ↦ ap (λ c. get_or c (inner_of w) black) (get_or-set_at tiles (tile_of v) (tile_of w) painted [] same (omega (arith, tile_in v, are.count)))
          ∙ elim (cases_lt (inner_of w) (inner_of v)) [
            | inl p ↦ run_before f (inner_of v) m (inner_of w) tile black p
            | inr p ↦ elim (cases_lt (inner_of w) (inner_of v + m)) [
              | inl q ↦ absurd (off (by_tile v w m fits same p q))
              | inr q ↦ run_behind f (inner_of v) m (inner_of w) tile black q
            ]
          ]
          ∙ ap (λ t. get_or (get_or tiles t []) (inner_of w) black) (sym same)
      | inr other ↦ ap (λ c. get_or c (inner_of w) black) (get_or-set_other tiles (tile_of v) (tile_of w) painted [] other)
    ]

-- a pixel on the run is changed
upon : {s a : ℕ} (f : Colour → Colour) (v w : Spot s a) (m : ℕ) (tiles : List (List Colour)) → AreTiles s a tiles → OnRun v w m
    → get_or (get_or (set tiles (tile_of v) (run_changed f (inner_of v) m (get_or tiles (tile_of v) []))) (tile_of w) []) (inner_of w) black
    ≡ f (get_or (get_or tiles (tile_of w) []) (inner_of w) black)
upon {s} {a} f v w m tiles are on =
    let tile : List Colour = get_or tiles (tile_of v) [] in
    let painted : List Colour = run_changed f (inner_of v) m tile in
    ap (λ c. get_or c (inner_of w) black) (get_or-set_at tiles (tile_of v) (tile_of w) painted [] on.tile (omega (arith, tile_in v, are.count)))
    ∙ run_at f (inner_of v) m (inner_of w) tile black on.inner_low on.inner_high (omega (arith, inner_in w, are.whole (tile_of v) (tile_in v)))
    ∙ ap (λ t. f (get_or (get_or tiles t []) (inner_of w) black)) (sym on.tile)

-- painting in one tile is painting in the image
pub painted_tile : {s a : ℕ} (f : Colour → Colour) (v : Spot s a) (m : ℕ) (tiles : List (List Colour)) → AreTiles s a tiles → v.p + m ≤ s
    → joined s a (set tiles (tile_of v) (run_changed f (inner_of v) m (get_or tiles (tile_of v) []))) ≡ run_changed f (place_of v) m (joined s a tiles)
painted_tile {s} {a} f v m tiles are fits =
    let old : List Colour = joined s a tiles in
    let now : List (List Colour) = set tiles (tile_of v) (run_changed f (inner_of v) m (get_or tiles (tile_of v) [])) in
    same_joined s a (joined s a now) (run_changed f (place_of v) m old) are.some are.across (length_joined s a now) (run_length f (place_of v) m old ∙ length_joined s a tiles)
    (λ w d. joined_at w now d ∙ elim (cases_lt (place_of w) (place_of v)) [
      | inl p ↦ beside f v w m tiles are fits (λ on. absurd (omega (arith, on.low, p))) ∙ sym (joined_at w tiles d) ∙ sym (run_before f (place_of v) m (place_of w) old d p)
      | inr p ↦ elim (cases_lt (place_of w) (place_of v + m)) [
        | inl q ↦ upon f v w m tiles are (by_image v w m fits p q) ∙ ap f (sym (joined_at w tiles d))
            ∙ sym (run_at f (place_of v) m (place_of w) old d p q (omega (arith, place_in w, length_joined s a tiles)))
        | inr q ↦ beside f v w m tiles are fits (λ on. absurd (omega (arith, on.high, q))) ∙ sym (joined_at w tiles d) ∙ sym (run_behind f (place_of v) m (place_of w) old d q)
      ]
    ])
