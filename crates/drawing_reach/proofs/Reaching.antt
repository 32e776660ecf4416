-- What a symbolizer covers lies in the reach of the shape, and a shape reaches a square by the square's edges.
use Rattle.std.proofs.Common.{◌≡◌, ℕ, ◌+◌, ◌-◌, ◌*◌, ◌/◌, ◌≤◌, max, Bool, true, false, ◌&&◌, List, [], ◌∷◌, refl, sym, subst, inl, inr, arith}
use Rattle.std.specs.Prelude.{nat_le, IsTrue, All}
use Rattle.std.specs.List.{AllByRecursion, list_any}
use Rattle.std.proofs.Math.Nat.{mul-le-mul_right, mul-div-le}
use Rattle.std.proofs.lemmas.Nat.{le-div}
use Rattle.std.proofs.lemmas.Bool.{cases_lt, and_parts, le-leb, leb-true, leb-false}
use Rattle.std.proofs.lemmas.List.Elements.{All-from_recursion}
use Rattle.plain_world.specs.declared.world.Point.{Point}
use Rattle.plain_shapes.specs.declared.shapes.Geometry.{Geometry}
use Rattle.plain_shapes.specs.declared.shapes.Geometry.TheVariants as shape
use Rattle.plain_drawing.specs.declared.style.Symbolizer.{Symbolizer}
use Rattle.plain_drawing.specs.declared.style.Symbolizer.TheVariants as paint
use Rattle.plain_world.specs.World.{side_at}
use Rattle.plain_drawing.specs.Styles.{is_paint, is_width, is_opacity}
use Rattle.plain_shapes.specs.Strokes.{half_of}
use Rattle.plain_drawing.specs.Drawing.{covers, pixel_of}
use Rattle.plain_shapes.specs.Reach.{all_points, margin_of, InReach}
use Rattle.geo_model.specs.declared.bounds.Bounds.{Bounds}
use Rattle.geo_model.specs.Bounds.{InBounds}
use Rattle.geo_model.specs.Shapes.{parts_of}
use Rattle.drawing_reach.specs.inner.Spreads.{Beside, spread_across, spread_down}
use Rattle.drawing_reach.proofs.Members.{none_passes, picked, all_map, all_pair, all_parts}
use Rattle.drawing_reach.proofs.Covers.{covered_beside}

-- ---- symbolizers within their ranges spread by at most 64 pixels

half_within : (width pixel : ℕ) → width ≤ 6400 → half_of width pixel ≤ 32 * pixel
half_within width pixel h =
    let p : width * pixel ≤ 6400 * pixel = mul-le-mul_right pixel h in
    omega arith

width_within : (width : ℕ) → is_width width ≡ true → width ≤ 6400
width_within width h = leb-true width 6400 (and_parts (nat_le 1 width) (nat_le width 6400) h).1

pub across_within : (pixel : ℕ) (s : Symbolizer) → IsTrue (is_paint s) → spread_across pixel s ≤ 64 * pixel
across_within pixel (paint.Polygon fill opacity) h = omega arith
across_within pixel (paint.Line stroke width opacity cap) h =
    (let k = half_within width pixel (width_within width (and_parts (is_width width) (is_opacity opacity) h).0) in omega arith)
across_within pixel (paint.Markers fill width height opacity) h =
    (let both = and_parts (is_width width && is_width height) (is_opacity opacity) h in
    let k = half_within width pixel (width_within width (and_parts (is_width width) (is_width height) both.0).0) in omega arith)
across_within pixel (paint.Raster opacity) h = omega arith

pub down_within : (pixel : ℕ) (s : Symbolizer) → IsTrue (is_paint s) → spread_down pixel s ≤ 64 * pixel
down_within pixel (paint.Polygon fill opacity) h = omega arith
down_within pixel (paint.Line stroke width opacity cap) h =
    (let k = half_within width pixel (width_within width (and_parts (is_width width) (is_opacity opacity) h).0) in omega arith)
down_within pixel (paint.Markers fill width height opacity) h =
    (let both = and_parts (is_width width && is_width height) (is_opacity opacity) h in
    let k = half_within height pixel (width_within height (and_parts (is_width width) (is_width height) both.0).1) in omega arith)
down_within pixel (paint.Raster opacity) h = omega arith

wider : (b : Bounds) (across down margin : ℕ) (c : Point) → across ≤ margin → down ≤ margin → Beside b across down c → Beside b margin margin c
wider b across down margin c ha hd h = record { west = omega arith; east = omega arith; north = omega arith; south = omega arith }

-- what a symbolizer within its ranges covers lies within 64 pixels of every rectangle that holds the points
pub covered_within : (b : Bounds) (pixel : ℕ) (g : Geometry) (c : Point) (s : Symbolizer) → IsTrue (is_paint s) → All (All (InBounds b)) (parts_of g)
    → covers pixel g c s ≡ true → Beside b (64 * pixel) (64 * pixel) c
covered_within b pixel g c s valid all h =
    wider b (spread_across pixel s) (spread_down pixel s) (64 * pixel) c (across_within pixel s valid) (down_within pixel s valid) (covered_beside b pixel g c s all h)

-- ---- the reach by the points

parts_all : (P : Point → Type 0) (g : Geometry) → AllByRecursion P (all_points g) → All (All P) (parts_of g)
parts_all P (shape.Points points) h = All-from_recursion (All P) (points ∷ []) (All-from_recursion P points h, tt)
parts_all P (shape.Lines lines) h = All-from_recursion (All P) lines (all_map (AllByRecursion P) (All P) (All-from_recursion P) lines (all_parts P lines h))
parts_all P (shape.Polygon rings) h = All-from_recursion (All P) rings (all_map (AllByRecursion P) (All P) (All-from_recursion P) rings (all_parts P rings h))

-- the greatest value of the points
most : (Point → ℕ) → List Point → ℕ
most f [] = 0
most f (p ∷ ps) = max (f p) (most f ps)

below_most : (f : Point → ℕ) (n : ℕ) (ps : List Point) → most f ps ≤ n → AllByRecursion (λ q. f q ≤ n) ps
unfolding most
below_most f n [] h = tt
below_most f n (p ∷ ps) h = (omega arith, below_most f n ps (omega arith))

seen : (t : Bool) → (t ≡ false → ⊥) → IsTrue t
seen true h = refl
seen false h = absurd (h refl)

-- the greatest coordinates
far_x : Geometry → ℕ
far_x g = most (λ q. q.x) (all_points g)

far_y : Geometry → ℕ
far_y g = most (λ q. q.y) (all_points g)

-- where all points keep a fact that puts them into a rectangle, the covered point lies beside that rectangle
beside_of : (pixel : ℕ) (g : Geometry) (c : Point) (s : Symbolizer) (b : Bounds) (A : Point → Type 0)
    → ((p : Point) → A p → p.x ≤ far_x g → p.y ≤ far_y g → InBounds b p) → AllByRecursion A (all_points g)
    → IsTrue (is_paint s) → covers pixel g c s ≡ true → Beside b (64 * pixel) (64 * pixel) c
unfolding far_x far_y
beside_of pixel g c s b A within all valid h =
    let ps : List Point = all_points g in
    let X : Point → Type 0 = λ q. q.x ≤ most (λ r. r.x) ps in
    let Y : Point → Type 0 = λ q. q.y ≤ most (λ r. r.y) ps in
    let xs : AllByRecursion X ps = below_most (λ q. q.x) (most (λ q. q.x) ps) ps (omega arith) in
    let ys : AllByRecursion Y ps = below_most (λ q. q.y) (most (λ q. q.y) ps) ps (omega arith) in
    let both = all_pair A (λ q. X q × Y q) ps all (all_pair X Y ps xs ys) in
    covered_within b pixel g c s valid (parts_all (InBounds b) g (all_map (λ q. A q × (X q × Y q)) (InBounds b) (λ q k. within q k.0 k.1.0 k.1.1) ps both)) h

west_of : (pixel : ℕ) (g : Geometry) (c : Point) (s : Symbolizer) → IsTrue (is_paint s) → covers pixel g c s ≡ true
    → IsTrue (list_any (λ q. nat_le q.x (c.x + 64 * pixel)) (all_points g))
west_of pixel g c s valid h = seen (list_any (λ q. nat_le q.x (c.x + 64 * pixel)) (all_points g)) (λ none.
    (let b : Bounds = record { west = c.x + 64 * pixel + 1; north = 0; east = far_x g; south = far_y g } in
    let k = beside_of pixel g c s b (λ q. nat_le q.x (c.x + 64 * pixel) ≡ false)
    (λ p a x y. (let e = leb-false p.x (c.x + 64 * pixel) a in record { from_west = omega arith; to_east = omega arith; from_north = omega arith; to_south = omega arith }))
    (none_passes (λ q. nat_le q.x (c.x + 64 * pixel)) (all_points g) none) valid h in
    omega (arith, k.west)))

north_of : (pixel : ℕ) (g : Geometry) (c : Point) (s : Symbolizer) → IsTrue (is_paint s) → covers pixel g c s ≡ true
    → IsTrue (list_any (λ q. nat_le q.y (c.y + 64 * pixel)) (all_points g))
north_of pixel g c s valid h = seen (list_any (λ q. nat_le q.y (c.y + 64 * pixel)) (all_points g)) (λ none.
    (let b : Bounds = record { west = 0; north = c.y + 64 * pixel + 1; east = far_x g; south = far_y g } in
    let k = beside_of pixel g c s b (λ q. nat_le q.y (c.y + 64 * pixel) ≡ false)
    (λ p a x y. (let e = leb-false p.y (c.y + 64 * pixel) a in record { from_west = omega arith; to_east = omega arith; from_north = omega arith; to_south = omega arith }))
    (none_passes (λ q. nat_le q.y (c.y + 64 * pixel)) (all_points g) none) valid h in
    omega (arith, k.north)))

east_of : (pixel : ℕ) (g : Geometry) (c : Point) (s : Symbolizer) → IsTrue (is_paint s) → covers pixel g c s ≡ true
    → IsTrue (list_any (λ q. nat_le c.x (q.x + 64 * pixel)) (all_points g))
east_of pixel g c s valid h = seen (list_any (λ q. nat_le c.x (q.x + 64 * pixel)) (all_points g)) (λ none.
    elim (cases_lt (64 * pixel) c.x) [
      | inl far ↦ (
          let b : Bounds = record { west = 0; north = 0; east = c.x - (64 * pixel + 1); south = far_y g } in
          let k = beside_of pixel g c s b (λ q. nat_le c.x (q.x + 64 * pixel) ≡ false)
          (λ p a x y. (let e = leb-false c.x (p.x + 64 * pixel) a in record { from_west = omega arith; to_east = omega arith; from_north = omega arith; to_south = omega arith }))
          (none_passes (λ q. nat_le c.x (q.x + 64 * pixel)) (all_points g) none) valid h in
          omega (arith, k.east))
      | inr close ↦ (
          let b : Bounds = record { west = c.x + 64 * pixel + 1; north = 0; east = 0; south = 0 } in
          let k = beside_of pixel g c s b (λ q. nat_le c.x (q.x + 64 * pixel) ≡ false)
          (λ p a x y. (let e = leb-false c.x (p.x + 64 * pixel) a in absurd (omega arith)))
          (none_passes (λ q. nat_le c.x (q.x + 64 * pixel)) (all_points g) none) valid h in
          omega (arith, k.west))
    ])

south_of : (pixel : ℕ) (g : Geometry) (c : Point) (s : Symbolizer) → IsTrue (is_paint s) → covers pixel g c s ≡ true
    → IsTrue (list_any (λ q. nat_le c.y (q.y + 64 * pixel)) (all_points g))
south_of pixel g c s valid h = seen (list_any (λ q. nat_le c.y (q.y + 64 * pixel)) (all_points g)) (λ none.
    elim (cases_lt (64 * pixel) c.y) [
      | inl far ↦ (
          let b : Bounds = record { west = 0; north = 0; east = far_x g; south = c.y - (64 * pixel + 1) } in
          let k = beside_of pixel g c s b (λ q. nat_le c.y (q.y + 64 * pixel) ≡ false)
          (λ p a x y. (let e = leb-false c.y (p.y + 64 * pixel) a in record { from_west = omega arith; to_east = omega arith; from_north = omega arith; to_south = omega arith }))
          (none_passes (λ q. nat_le c.y (q.y + 64 * pixel)) (all_points g) none) valid h in
          omega (arith, k.south))
      | inr close ↦ (
          let b : Bounds = record { west = 0; north = c.y + 64 * pixel + 1; east = 0; south = 0 } in
          let k = beside_of pixel g c s b (λ q. nat_le c.y (q.y + 64 * pixel) ≡ false)
          (λ p a x y. (let e = leb-false c.y (p.y + 64 * pixel) a in absurd (omega arith)))
          (none_passes (λ q. nat_le c.y (q.y + 64 * pixel)) (all_points g) none) valid h in
          omega (arith, k.north))
    ])

covered_in_reach : (pixel : ℕ) (g : Geometry) (c : Point) (s : Symbolizer) → IsTrue (is_paint s) → covers pixel g c s ≡ true → InReach (all_points g) (64 * pixel) c
covered_in_reach pixel g c s valid h = record {
  from_west = west_of pixel g c s valid h;
  to_east = east_of pixel g c s valid h;
  from_north = north_of pixel g c s valid h;
  to_south = south_of pixel g c s valid h;
}

-- ---- the margin of a zoom and a size is at least 64 of their pixels

pub pixels_in_margin : (z size : ℕ) → 64 * pixel_of z size ≤ margin_of size z
pixels_in_margin z size = elim (cases_lt 0 size) [
  | inl some ↦ (
      let p : size * (side_at z / size) ≤ side_at z = mul-div-le (side_at z) size in
      le-div (64 * (side_at z / size)) (64 * side_at z) size some (omega (arith, p)))
  | inr none ↦ (let e : size ≡ 0 = omega arith in no_pixels (side_at z) size e)
]
  where
    no_pixels : (side size : ℕ) → size ≡ 0 → 64 * (side / size) ≤ 64 * side / size
    no_pixels side size e = subst (λ n. 64 * (side / n) ≤ 64 * side / n) (sym e) (omega arith)

wider_reach : (points : List Point) (m n : ℕ) (c : Point) → m ≤ n → InReach points m c → InReach points n c
wider_reach points m n c le h = record {
  from_west = more (λ q. nat_le q.x (c.x + m)) (λ q. nat_le q.x (c.x + n)) (λ q e. le-leb q.x (c.x + n) (let k = leb-true q.x (c.x + m) e in omega arith)) points h.from_west;
  to_east = more (λ q. nat_le c.x (q.x + m)) (λ q. nat_le c.x (q.x + n)) (λ q e. le-leb c.x (q.x + n) (let k = leb-true c.x (q.x + m) e in omega arith)) points h.to_east;
  from_north = more (λ q. nat_le q.y (c.y + m)) (λ q. nat_le q.y (c.y + n)) (λ q e. le-leb q.y (c.y + n) (let k = leb-true q.y (c.y + m) e in omega arith)) points h.from_north;
  to_south = more (λ q. nat_le c.y (q.y + m)) (λ q. nat_le c.y (q.y + n)) (λ q e. le-leb c.y (q.y + n) (let k = leb-true c.y (q.y + m) e in omega arith)) points h.to_south;
}
  where
    more : (t u : Point → Bool) → ((q : Point) → t q ≡ true → u q ≡ true) → (ps : List Point) → list_any t ps ≡ true → list_any u ps ≡ true
    more t u f ps e = (let r = picked t ps e in r.2 u (f r.0 r.1))

-- what a symbolizer within its ranges covers lies in the reach
pub covered_reached : (g : Geometry) (size z : ℕ) (s : Symbolizer) (c : Point) → IsTrue (is_paint s) → covers (pixel_of z size) g c s ≡ true → InReach (all_points g) (margin_of size z) c
covered_reached g size z s c valid h =
    wider_reach (all_points g) (64 * pixel_of z size) (margin_of size z) c (pixels_in_margin z size) (covered_in_reach (pixel_of z size) g c s valid h)
