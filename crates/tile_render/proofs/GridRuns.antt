-- Runs of a row whose centres lie in one pixel of a grid, or in none.
use Rattle.std.proofs.Common.{◌≡◌, ℕ, ◌+◌, ◌-◌, ◌*◌, ◌/◌, ◌<◌, ◌≤◌, Bool, true, false, ◌&&◌, List, [], ◌∷◌, ◌++◌, length, map, get_or, refl, ap, sym, subst, ◌∙◌, inl, inr, Some, None, arith}
use Rattle.std.specs.Prelude.{min, nat_le, nat_lt, if◌then◌else◌, unwrap_or, option_map}
use Rattle.std.specs.List.{range_with_len}
use Rattle.std.proofs.Math.Nat.{mul-le-mul_right, min-eq_left, min-eq_right, min-le_right}
use Rattle.std.proofs.lemmas.Bool.{cases_lt, le-ltb, lt-ltb}
use Rattle.std.proofs.Math.Seq.{get_or-append_seam}
use Rattle.std.proofs.lemmas.List.{get_or_default, get_or_append_left}
use Rattle.std.proofs.lemmas.List.FromFn.{get_or-map-range_with_len, length-map-range_with_len}
use Rattle.std.proofs.Math.Bool.{and-false}
use Rattle.plain_world.specs.declared.world.Point.{Point}
use Rattle.plain_world.specs.declared.world.Window.{Window}
use Rattle.plain_world.specs.World.{centre}
use Rattle.plain_shapes.specs.declared.colour.Colour.{Colour}
use Rattle.plain_shapes.specs.Blending.{blend}
use Rattle.plain_shapes.specs.Images.{Pixels}
use Rattle.plain_image.specs.Runs.{run_changed}
use Rattle.plain_drawing.specs.declared.style.Symbolizer.TheVariants as paint
use Rattle.plain_drawing.specs.Grids.{Grid, colour_in, pixel_at, grid_at}
use Rattle.plain_drawing.specs.Drawing.{raster_over}
use Rattle.tile_render.specs.inner.GridPlaces.{place_in, column_at, row_at, IsRun, IsColumns}
use Rattle.tile_render.specs.inner.Regions.{Changed}
use Rattle.tile_render.proofs.Changing.{changed_skip}
use Rattle.tile_render.proofs.Runs.{changed_run}

-- the grid painted over the colour of a point
abbrev pub over : Grid → ℕ → Point → Colour → Colour
over g opacity c d = raster_over g c d (paint.Raster opacity)

-- a place is at most their number
pub place_within : (edge pixel count v : ℕ) → place_in edge pixel count v ≤ count
unfolding place_in
place_within edge pixel count v = go (nat_le edge v)
  where
    go : (b : Bool) → (if b then min ((v - edge) / pixel) count else count) ≤ count
    go true = min-le_right ((v - edge) / pixel) count
    go false = omega arith

-- a place below the number of places is one of them
inside : (edge pixel count v k : ℕ) → place_in edge pixel count v ≡ k → k < count → (nat_le edge v ≡ true) × ((v - edge) / pixel ≡ k)
unfolding place_in
inside edge pixel count v k is low = go (nat_le edge v) refl is
  where
    go : (b : Bool) → nat_le edge v ≡ b → (if b then min ((v - edge) / pixel) count else count) ≡ k → (nat_le edge v ≡ true) × ((v - edge) / pixel ≡ k)
    go true there e = (
      there,
      elim (cases_lt ((v - edge) / pixel) count) [
        | inl lt ↦ sym (min-eq_left (let h : (v - edge) / pixel ≤ count = omega arith in h)) ∙ e
        | inr past ↦ (let h : count ≡ k = sym (min-eq_right past) ∙ e in absurd (omega arith))
      ],
    )
    go false there e = absurd (omega arith)

-- where it is their number, none of them is there
outside : (edge pixel count v : ℕ) → count ≤ place_in edge pixel count v → nat_le edge v ≡ true → nat_lt ((v - edge) / pixel) count ≡ false
unfolding place_in
outside edge pixel count v past there = elim (cases_lt ((v - edge) / pixel) count) [
  | inl lt ↦ (let e : place_in edge pixel count v ≡ (v - edge) / pixel = ap (λ b. if b then min ((v - edge) / pixel) count else count) there ∙ min-eq_left (let h : (v - edge) / pixel ≤ count = omega arith in h) in
      absurd (omega arith))
  | inr le ↦ le-ltb ((v - edge) / pixel) count le
]

-- a point in a column and a row of the grid has the colour of its pixel there
held : (g : Grid) (c : Point) (k r : ℕ) → column_at g c ≡ k → k < g.cols → row_at g c ≡ r → r < g.rows → grid_at g c ≡ Some (colour_in g.bytes (r * g.cols + k))
held g c k r col low row few =
    let x = inside g.west g.pixel g.cols c.x k col low in
    let y = inside g.north g.pixel g.rows c.y r row few in
    ap (λ b. if b && nat_le g.north c.y then pixel_at g ((c.x - g.west) / g.pixel) ((c.y - g.north) / g.pixel) else None) x.0
    ∙ ap (λ b. if b then pixel_at g ((c.x - g.west) / g.pixel) ((c.y - g.north) / g.pixel) else None) y.0
    ∙ ap (λ n. pixel_at g n ((c.y - g.north) / g.pixel)) x.1
    ∙ ap (λ n. pixel_at g k n) y.1
    ∙ ap (λ b. if b && nat_lt r g.rows then Some (colour_in g.bytes (r * g.cols + k)) else None) (lt-ltb k g.cols low)
    ∙ ap (λ b. if b then Some (colour_in g.bytes (r * g.cols + k)) else None) (lt-ltb r g.rows few)

not_in : (g : Grid) (c : Point) (p q : Bool) → nat_le g.west c.x ≡ p → nat_le g.north c.y ≡ q
    → (p ≡ true → q ≡ true → (nat_lt ((c.x - g.west) / g.pixel) g.cols && nat_lt ((c.y - g.north) / g.pixel) g.rows) ≡ false) → grid_at g c ≡ None
not_in g c p q west north past =
    ap (λ b. if b && nat_le g.north c.y then pixel_at g ((c.x - g.west) / g.pixel) ((c.y - g.north) / g.pixel) else None) west
    ∙ ap (λ b. if p && b then pixel_at g ((c.x - g.west) / g.pixel) ((c.y - g.north) / g.pixel) else None) north
    ∙ go p q past
  where
    go : (p q : Bool) → (p ≡ true → q ≡ true → (nat_lt ((c.x - g.west) / g.pixel) g.cols && nat_lt ((c.y - g.north) / g.pixel) g.rows) ≡ false)
        → (if p && q then pixel_at g ((c.x - g.west) / g.pixel) ((c.y - g.north) / g.pixel) else None) ≡ None
    go true true h = ap (λ b. if b then Some (colour_in g.bytes ((c.y - g.north) / g.pixel * g.cols + (c.x - g.west) / g.pixel)) else None) (h refl refl)
    go true false h = refl
    go false q h = refl

past_columns : (g : Grid) (c : Point) → g.cols ≤ column_at g c → grid_at g c ≡ None
past_columns g c past = not_in g c _ _ refl refl (λ west north. ap (λ b. b && nat_lt ((c.y - g.north) / g.pixel) g.rows) (outside g.west g.pixel g.cols c.x past west))

past_rows : (g : Grid) (c : Point) → g.rows ≤ row_at g c → grid_at g c ≡ None
past_rows g c past = not_in g c _ _ refl refl (λ west north.
    ap (λ b. nat_lt ((c.x - g.west) / g.pixel) g.cols && b) (outside g.north g.pixel g.rows c.y past north) ∙ and-false (nat_lt ((c.x - g.west) / g.pixel) g.cols))

-- places of a row that lie between two places of another are of that row
same_row : (c j v i from end : ℕ) → i < c → end ≤ c → j * c + from ≤ v * c + i → v * c + i < j * c + end → (v ≡ j) × (from ≤ i) × (i < end)
same_row c j v i from end col fits low high = elim (cases_lt v j) [
  | inl below ↦ (let next : v + 1 ≤ j = omega arith in absurd (omega (arith, mul-le-mul_right c next)))
  | inr le ↦ elim (cases_lt j v) [
    | inl above ↦ (let next : j + 1 ≤ v = omega arith in absurd (omega (arith, mul-le-mul_right c next)))
    | inr ge ↦
        (let same : v ≡ j = omega arith in
        let at : v * c ≡ j * c = ap (λ n. n * c) same in
        (same, omega arith, omega arith))
  ]
]

-- a row of the grid as it was found
pub row_found : (seen now : Grid) (c there : Point) (r : ℕ) → r ≡ row_at seen c → seen ≡ now → c ≡ there → row_at now there ≡ r
row_found seen now c there r found same here = sym (found ∙ ap (λ g. row_at g c) same ∙ ap (row_at now) here)

-- as many columns as the window has
pub each_column : (w : Window) (g : Grid) (columns : List ℕ) → columns ≡ map (λ i. column_at g (centre w i 0)) (range_with_len 0 w.cols) → length columns ≡ w.cols
each_column w g columns are = ap length are ∙ length-map-range_with_len (λ i. column_at g (centre w i 0)) 0 w.cols

-- the column of the grid that was read
pub column_here : (columns : List ℕ) (i col : ℕ) → i < length columns → col ≡ get_or columns i col → get_or columns i 0 ≡ col
column_here columns i col low is = get_or_default columns i 0 col low ∙ sym is

-- where the run ends that a column of the window lies in
pub run_here : (w : Window) (g : Grid) (columns ends : List ℕ) (i end : ℕ) → IsColumns w g columns ends → i < w.cols → end ≡ get_or ends i end → IsRun columns i end
run_here w g columns ends i end they low is =
    let long : length columns ≡ w.cols = each_column w g columns they.are in
    let inner : i < length ends = omega (arith, long, they.long, low) in
    subst (IsRun columns i) (get_or_default ends i 0 end inner ∙ sym is) (they.runs i (omega (arith, long, low)))

-- what is left of a run behind its first place
pub run_rest : (places : List ℕ) (i end : ℕ) → IsRun places i end → i + 1 < end → IsRun places (i + 1) end
run_rest places i end run more = record {
  after = more;
  within = run.within;
  same = λ k low high. run.same k (omega (arith, low)) high ∙ sym (run.same (i + 1) (omega arith) more);
}

-- one end of a run more
pub ends_more : (places ends : List ℕ) (i end : ℕ) → length ends ≡ i → ((k : ℕ) → k < i → IsRun places k (get_or ends k 0)) → IsRun places i end
    → (k : ℕ) → k < i + 1 → IsRun places k (get_or (ends ++ end ∷ []) k 0)
ends_more places ends i end long runs run k low = elim (cases_lt k i) [
  | inl before ↦ subst (IsRun places k) (sym (get_or_append_left ends (end ∷ []) 0 k (omega (arith, before, long)))) (runs k before)
  | inr past ↦
      (let here : k ≡ i = omega (arith, low, past) in
      let last : get_or (ends ++ end ∷ []) k 0 ≡ end = ap (λ n. get_or (ends ++ end ∷ []) n 0) (here ∙ sym long) ∙ get_or-append_seam ends end [] 0 in
      subst (λ n. IsRun places n (get_or (ends ++ end ∷ []) k 0)) (sym here) (subst (IsRun places i) (sym last) run))
]

-- a run of a row whose columns lie in one column of the grid
pub run_held : (w : Window) (g : Grid) (columns : List ℕ) (opacity j from end k r : ℕ) (start now after : Pixels)
    → columns ≡ map (λ i. column_at g (centre w i 0)) (range_with_len 0 w.cols) → from < end → end ≤ w.cols → j < w.rows → now.cols ≡ w.cols
    → ((q : ℕ) → from ≤ q → q < end → get_or columns q 0 ≡ k) → k < g.cols → row_at g (centre w 0 j) ≡ r → r < g.rows
    → after ≡ record now { pixels = run_changed (blend (colour_in g.bytes (r * g.cols + k)) opacity) (j * now.cols + from) (end - from) now.pixels }
    → Changed (over g opacity) w (j * w.cols + from) start now → Changed (over g opacity) w (j * w.cols + end) start after
run_held w g columns opacity j from end k r start now after are some fits row cols same few at_row few_rows written =
    changed_run (over g opacity) w (blend (colour_in g.bytes (r * g.cols + k)) opacity) j from end start now after (omega arith) fits row cols
    (λ i low high d.
    let col : column_at g (centre w i j) ≡ k =
    sym (get_or-map-range_with_len (λ i. column_at g (centre w i 0)) 0 w.cols i i 0 (omega arith) (omega arith)) ∙ ap (λ cs. get_or cs i 0) (sym are) ∙ same i low high in
    ap (λ o. unwrap_or (option_map (λ s. blend s opacity d) o) d) (held g (centre w i j) k r col few at_row few_rows))
    written

skip : (w : Window) (g : Grid) (opacity j from end : ℕ) (start now : Pixels) → 1 ≤ w.cols → from ≤ end → end ≤ w.cols → j < w.rows
    → ((i : ℕ) → from ≤ i → i < end → grid_at g (centre w i j) ≡ None)
    → Changed (over g opacity) w (j * w.cols + from) start now → Changed (over g opacity) w (j * w.cols + end) start now
skip w g opacity j from end start now some order fits row none =
    let next : j + 1 ≤ w.rows = omega arith in
    changed_skip (over g opacity) w (j * w.cols + from) (j * w.cols + end) start now some (omega arith) (omega (arith, mul-le-mul_right w.cols next))
    (λ v i col high_row low high x.
    let at = same_row w.cols j v i from end col fits low high in
    ap (λ n. over g opacity (centre w i n) x) at.0
    ∙ ap (λ o. unwrap_or (option_map (λ s. blend s opacity x) o) x) (none i at.1 at.2))

-- a run of a row whose columns lie in no column of the grid
pub run_off : (w : Window) (g : Grid) (columns : List ℕ) (opacity j from end k : ℕ) (start now : Pixels)
    → columns ≡ map (λ i. column_at g (centre w i 0)) (range_with_len 0 w.cols) → from < end → end ≤ w.cols → j < w.rows
    → ((q : ℕ) → from ≤ q → q < end → get_or columns q 0 ≡ k) → g.cols ≤ k
    → Changed (over g opacity) w (j * w.cols + from) start now → Changed (over g opacity) w (j * w.cols + end) start now
run_off w g columns opacity j from end k start now are some fits row same past =
    skip w g opacity j from end start now (omega arith) (omega arith) fits row
    (λ i low high.
    let col : column_at g (centre w i j) ≡ k =
    sym (get_or-map-range_with_len (λ i. column_at g (centre w i 0)) 0 w.cols i i 0 (omega arith) (omega arith)) ∙ ap (λ cs. get_or cs i 0) (sym are) ∙ same i low high in
    past_columns g (centre w i j) (omega (arith, col)))

-- a row whose centres lie in no row of the grid
pub row_off : (w : Window) (g : Grid) (opacity j : ℕ) (start now : Pixels) → 1 ≤ w.cols → j < w.rows → row_at g (centre w 0 j) ≡ g.rows
    → Changed (over g opacity) w (j * w.cols) start now → Changed (over g opacity) w ((j + 1) * w.cols) start now
row_off w g opacity j start now some row off so_far =
    let begin : j * w.cols ≡ j * w.cols + 0 = omega arith in
    let end : j * w.cols + w.cols ≡ (j + 1) * w.cols = omega arith in
    subst (λ n. Changed (over g opacity) w n start now) end
    (skip w g opacity j 0 w.cols start now some (omega arith) (omega arith) row (λ i low high. past_rows g (centre w i j) (omega (arith, off)))
    (subst (λ n. Changed (over g opacity) w n start now) begin so_far))
