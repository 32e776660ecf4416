-- The heights of what is near to a segment's line between two places: a test of both coordinates, met most easily at one of the two.
use Rattle.std.proofs.Common.{◌≡◌, ℕ, ◌+◌, ◌-◌, ◌*◌, ◌≤◌, Bool, true, not, ◌&&◌, refl, ap, ◌∙◌, arith}
use Rattle.std.specs.Prelude.{nat_le, nat_lt}
use Rattle.std.proofs.lemmas.Bool.{and_parts, and_from, le-leb, lt-ltb, leb-true, ltb-true}
use Rattle.plain_world.specs.declared.world.Point.{Point}
use Rattle.plain_shapes.specs.Strokes.{is_same, is_near, in_body}
use Rattle.centre_spans.specs.declared.shapes.Stretch.{Stretch}
use Rattle.centre_spans.specs.declared.stretches.Growing.{Growing}
use Rattle.centre_spans.specs.Stretches.{InStretch, in_stretch, gap}
use Rattle.stroke_core.specs.declared.segments.Segment.{Segment}
use Rattle.stroke_core.specs.inner.Segments.{IsSegment}
use Rattle.stroke_core.proofs.Products.{along_is, long_is}
use Rattle.stroke_core.proofs.Testing.{body_is}
use Rattle.stroke_core.proofs.Boxes.{along_plus, along_minus, beside_plus, beside_minus, long_square}
use Rattle.stroke_core.proofs.Rowwise.{at, raised_at, near_row}

pub in_it : (s : Stretch) (v : ℕ) → in_stretch s v ≡ true → InStretch s v
in_it s v h =
    let parts = and_parts (nat_le s.start v) (nat_lt v s.end) h in
    record { from_start = leb-true s.start v parts.0; before_end = ltb-true v s.end parts.1 }

pub in_both : (p q s : Stretch) (v : ℕ) → in_stretch s v ≡ (in_stretch p v && in_stretch q v) → in_stretch p v ≡ true → in_stretch q v ≡ true → InStretch s v
in_both p q s v is one two = in_it s v (is ∙ and_from (in_stretch p v) (in_stretch q v) one two)

pub of_both : (p q s : Stretch) (v : ℕ) → in_stretch s v ≡ (in_stretch p v && in_stretch q v) → InStretch p v → InStretch q v → InStretch s v
of_both p q s v is one two = in_both p q s v is (told p one) (told q two)
  where
    told : (t : Stretch) → InStretch t v → in_stretch t v ≡ true
    told t i = and_from (nat_le t.start v) (nat_lt v t.end) (le-leb t.start v i.from_start) (lt-ltb v t.end i.before_end)

-- of two products that grow, the sum that takes the greater with the greater is no less
pub crossed : (m n p q : ℕ) → m ≤ n → p ≤ q → m * q + n * p ≤ n * q + m * p
crossed m n p q low high =
    let d : ℕ = n - m in
    let e : ℕ = q - p in
    let split : n ≡ m + d = omega arith in
    let other : q ≡ p + e = omega arith in
    let a = ap (λ t. m * t) other in
    let b = ap (λ t. n * t) other in
    let c = ap (λ t. t * e) split in
    omega (arith, a, b, c)

-- the line's numbers at a point, one no more than r above the other, and so at another place x, where they lie no further apart
pub plus_there : (s : Segment) (c : Point) (x : ℕ) (g h r : Growing) (row : Bool)
    → g ≡ record { slope = s.a.x; rest = x * s.b.y + s.a.y * s.b.x } → h ≡ record { slope = s.b.x; rest = s.a.x * s.b.y + x * s.a.y }
    → r ≡ record { slope = h.slope; rest = h.rest + s.reach } → x * s.b.y + c.x * s.a.y ≤ c.x * s.b.y + x * s.a.y
    → beside_plus s.a s.b c ≤ beside_minus s.a s.b c + s.reach → row ≡ nat_le (at g c.y) (at r c.y) → row ≡ true
plus_there s c x g h r row g_is h_is r_is easier held row_is =
    let eg = ap (λ k. at k c.y) g_is in
    let er = raised_at h r s.reach c.y (c.y * s.b.x + (s.a.x * s.b.y + x * s.a.y)) r_is (ap (λ k. at k c.y) h_is) in
    row_is ∙ le-leb (at g c.y) (at r c.y) (omega (arith, eg, er, easier, held))

pub minus_there : (s : Segment) (c : Point) (x : ℕ) (g h r : Growing) (row : Bool)
    → g ≡ record { slope = s.b.x; rest = s.a.x * s.b.y + x * s.a.y } → h ≡ record { slope = s.a.x; rest = x * s.b.y + s.a.y * s.b.x }
    → r ≡ record { slope = h.slope; rest = h.rest + s.reach } → c.x * s.b.y + x * s.a.y ≤ x * s.b.y + c.x * s.a.y
    → beside_minus s.a s.b c ≤ beside_plus s.a s.b c + s.reach → row ≡ nat_le (at g c.y) (at r c.y) → row ≡ true
minus_there s c x g h r row g_is h_is r_is easier held row_is =
    let eg = ap (λ k. at k c.y) g_is in
    let er = raised_at h r s.reach c.y (c.y * s.a.x + (x * s.b.y + s.a.y * s.b.x)) r_is (ap (λ k. at k c.y) h_is) in
    row_is ∙ le-leb (at g c.y) (at r c.y) (omega (arith, eg, er, easier, held))

-- the two tests of nearness
pub near_tests : (s : Segment) (c : Point) → IsSegment s → is_near s.half s.a s.b c ≡ true
    → (beside_plus s.a s.b c ≤ beside_minus s.a s.b c + s.reach) × (beside_minus s.a s.b c ≤ beside_plus s.a s.b c + s.reach)
near_tests s c ok held =
    let p : ℕ = beside_plus s.a s.b c in
    let m : ℕ = beside_minus s.a s.b c in
    let parts = and_parts (nat_le p (m + s.reach)) (nat_le m (p + s.reach))
    (near_row s c (nat_le p (m + s.reach) && nat_le m (p + s.reach)) _ _ ok refl refl refl ∙ held) in
    (leb-true p (m + s.reach) parts.0, leb-true m (p + s.reach) parts.1)

-- what a body holds is near
pub body_near : (half : ℕ) (a b c : Point) → (not (is_same a b) && in_body half a b c) ≡ true → is_near half a b c ≡ true
body_near half a b c h =
    let u : ℕ = along_plus a b c in
    let v : ℕ = along_minus a b c in
    let l : ℕ = long_square a b in
    let parts = and_parts (not (is_same a b)) (in_body half a b c) h in
    (and_parts (nat_le v u && nat_le u (v + l)) (is_near half a b c)
    (body_is half a b c u v l (is_near half a b c) (along_is a b c u v refl refl) (long_is a b (gap b.x a.x) (gap b.y a.y) l refl refl refl) refl ∙ parts.1)).1
