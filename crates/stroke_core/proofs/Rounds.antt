-- A body and the disk at its end lie in a disk round that end, whose radius has the square of half the width and that of the length together.
use Rattle.std.proofs.Common.{◌≡◌, ℕ, ◌+◌, ◌-◌, ◌*◌, ◌≤◌, Bool, true, false, not, ◌&&◌, ◌||◌, refl, ap, ◌∙◌, inl, inr, arith}
use Rattle.std.specs.Prelude.{nat_le}
use Rattle.std.proofs.Math.Nat.{mul-le-mul}
use Rattle.std.proofs.lemmas.Bool.{leb-true, and_parts, or_cases, not-true}
use Rattle.plain_world.specs.declared.world.Point.{Point}
use Rattle.plain_shapes.specs.Strokes.{is_same, is_near, in_body, in_disk}
use Rattle.centre_spans.specs.Stretches.{gap, squared_distance}
use Rattle.centre_spans.proofs.Quotients.{cancel}
use Rattle.stroke_core.specs.inner.Parts.{on_part}
use Rattle.stroke_core.proofs.Products.{along_is, long_is}
use Rattle.stroke_core.proofs.Testing.{body_is, disk_is}
use Rattle.stroke_core.proofs.Spans.{body_held}
use Rattle.stroke_core.proofs.Boxes.{InBox, disk_box, along_plus, along_minus, beside_plus, beside_minus, long_square, gap_square, long_expands, some_long, near_within}

-- the product of two differences, and the square of one
product_of : (m n p q r s : ℕ) → m + n ≡ p → q + r ≡ s → m * q + (n * s + p * r) ≡ n * r + p * s
product_of m n p q r s e f =
    let a = ap (λ t. t * q) e in
    let b = ap (λ t. n * t) f in
    let c = ap (λ t. p * t) f in
    omega arith

-- what lies before the end, what lies beside, and the distance from the end
beside_end : (a b c : Point) (w : ℕ) → w + along_plus a b c ≡ along_minus a b c + long_square a b
    → long_square a b * squared_distance b c ≡ w * w + gap (beside_plus a b c) (beside_minus a b c) * gap (beside_plus a b c) (beside_minus a b c)
beside_end a b c w e =
    let p : ℕ = beside_plus a b c in
    let m : ℕ = beside_minus a b c in
    let far : squared_distance b c + (c.x * b.x + b.x * c.x + (c.y * b.y + b.y * c.y)) ≡ c.x * c.x + b.x * b.x + (c.y * c.y + b.y * b.y) =
    omega (arith, gap_square c.x b.x (gap c.x b.x) refl, gap_square c.y b.y (gap c.y b.y) refl) in
    let before : w + (c.x * b.x + c.y * b.y + (a.x * b.x + a.y * b.y)) ≡ c.x * a.x + c.y * a.y + (b.x * b.x + b.y * b.y) = omega (arith, long_expands a b) in
    let product = product_of (long_square a b) _ _ (squared_distance b c) _ _ (long_expands a b) far in
    let square = product_of w _ _ w _ _ before before in
    omega (arith, gap_square p m (gap p m) refl)

within : (l d w s h : ℕ) → 1 ≤ l → l * d ≡ w * w + s → s ≤ h * l → w ≤ l → d ≤ h + l
within l d w s h some e f g = cancel d (h + l) l some (omega (arith, mul-le-mul g g))

body_round : (half : ℕ) (a b c : Point) → is_same a b ≡ false → in_body half a b c ≡ true → squared_distance b c ≤ half * half + long_square a b
body_round half a b c ne h =
    let l : ℕ = long_square a b in
    let u : ℕ = along_plus a b c in
    let v : ℕ = along_minus a b c in
    let parts = and_parts (nat_le v u && nat_le u (v + l)) (is_near half a b c)
    (body_is half a b c u v l (is_near half a b c) (along_is a b c u v refl refl) (long_is a b (gap b.x a.x) (gap b.y a.y) l refl refl refl) refl ∙ h) in
    let ends = and_parts (nat_le v u) (nat_le u (v + l)) parts.0 in
    let from = leb-true v u ends.0 in
    let to = leb-true u (v + l) ends.1 in
    let w : ℕ = v + l - u in
    let before : w + u ≡ v + l = omega arith in
    let little : w ≤ l = omega arith in
    within l (squared_distance b c) w _ (half * half) (some_long a b ne) (beside_end a b c w before) (near_within half a b c parts.1) little

pub part_round : (half : ℕ) (a b c : Point) → on_part half a b c ≡ true → squared_distance b c ≤ half * half + long_square a b
part_round half a b c h = elim (or_cases (not (is_same a b) && in_body half a b c) (in_disk half b c) h) [
  | inl k ↦ (let parts = and_parts (not (is_same a b)) (in_body half a b c) k in body_round half a b c (not-true (is_same a b) parts.0) parts.1)
  | inr k ↦ (let within = leb-true (squared_distance b c) (half * half) (disk_is half b c (gap c.x b.x) (gap c.y b.y) refl refl ∙ k) in omega arith)
]

pub part_box : (half : ℕ) (a b c : Point) → on_part half a b c ≡ true → InBox half a b c
part_box half a b c h = elim (or_cases (not (is_same a b) && in_body half a b c) (in_disk half b c) h) [
  | inl k ↦ body_held half a b c k
  | inr k ↦ (
      let box = disk_box half b c k in
      record { west = omega (arith, box.west); east = omega (arith, box.east); north = omega (arith, box.north); south = omega (arith, box.south) })
]

pub or_twice : (s t : Bool) → (t || (s || t)) ≡ (s || t)
or_twice true true = refl
or_twice true false = refl
or_twice false true = refl
or_twice false false = refl
