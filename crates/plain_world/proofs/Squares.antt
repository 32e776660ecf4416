-- Squares: the test is the overlap, and it is the comparison with the ancestor.
use Rattle.std.proofs.Common.{◌≡◌, ℕ, ◌+◌, ◌-◌, ◌*◌, ◌/◌, ◌%◌, ◌^◌, ◌<◌, ◌≤◌, max, Bool, true, ◌&&◌, ap, sym, ◌∙◌, arith, inl, inr, ◌↔◌}
use Rattle.std.specs.Prelude.{◌==◌}
use Rattle.std.proofs.lemmas.Bool.{cases_order, and_from, and_parts}
use Rattle.std.proofs.lemmas.Bool.Decides.{nat_tests}
use Rattle.std.proofs.lemmas.Nat.{pow_pos, pow-add, div-add-mod', mod_below}
use Rattle.std.proofs.Math.Nat.{mul-le-mul_right}
use Rattle.plain_world.specs.declared.world.Point.{Point}
use Rattle.plain_world.specs.declared.world.Square.{Square}
use Rattle.plain_world.specs.World.{side_at, Overlap, stretches_meet, squares_meet}

-- `&&` of tests
both_same : (p q r s : Bool) → p ≡ q → r ≡ s → (p && r) ≡ (q && s)
both_same p q r s e f = ap (λ t. t && r) e ∙ ap (λ t. q && t) f

-- a number in both stretches
both_in : (a m b n p : ℕ) → a ≤ p → p < a + m → b ≤ p → p < b + n → stretches_meet a m b n ≡ true
both_in a m b n p h i j k = grind (arith, nat_tests)

-- where two stretches meet, the later start lies in both
starts_meet : (a m b n : ℕ) → 0 < m → 0 < n → stretches_meet a m b n ≡ true → (a ≤ max a b) × (max a b < a + m) × (b ≤ max a b) × (max a b < b + n)
starts_meet a m b n h i e = grind (arith, nat_tests)

pub stretches_turned : (a m b n : ℕ) → stretches_meet a m b n ≡ stretches_meet b n a m
stretches_turned a m b n = grind (arith, nat_tests)

-- the stretch of the square above that is q places along, where low stands 2^d = k places along below it
stretch_above : (high low k s : ℕ) → 0 < k → 0 < s → (low / k == high) ≡ stretches_meet (high * (k * s)) (k * s) (low * s) s
stretch_above high low k s h i =
    let place : low / k * k + low % k ≡ low = div-add-mod' low k in
    let rest : low % k < k = mod_below low k h in
    elim (cases_order (low / k) high) [
      | inl same ↦ (
          let a : high * k + low % k ≡ low = ap (λ t. t * k + low % k) (sym same) ∙ place in
          let b : (high * k) * s ≤ low * s = mul-le-mul_right s (omega arith) in
          let c : (low + 1) * s ≤ (high * k + k) * s = mul-le-mul_right s (omega arith) in
          let d : high * (k * s) < low * s + s = omega (arith, b) in
          let e : low * s < high * (k * s) + k * s = omega (arith, c) in
          grind (arith, nat_tests))
      | inr (inl less) ↦ (
          let l : low / k + 1 ≤ high = omega (arith, less) in
          let a : (low / k + 1) * k ≤ high * k = mul-le-mul_right k l in
          let b : low + 1 ≤ high * k = omega arith in
          let c : (low + 1) * s ≤ high * k * s = mul-le-mul_right s b in
          let d : low * s + s ≤ high * (k * s) = omega (arith, c) in
          grind (arith, nat_tests))
      | inr (inr more) ↦ (
          let l : high + 1 ≤ low / k = omega (arith, more) in
          let a : (high + 1) * k ≤ low / k * k = mul-le-mul_right k l in
          let b : (high + 1) * k ≤ low = omega arith in
          let c : (high + 1) * k * s ≤ low * s = mul-le-mul_right s b in
          let d : high * (k * s) + k * s ≤ low * s = omega (arith, c) in
          grind (arith, nat_tests))
    ]

-- the sides of two zooms: the upper side is 2^d lower ones
side_above : (z d : ℕ) → z + d ≤ 18 → side_at z ≡ 2 ^ d * side_at (z + d)
side_above z d h =
    let e : 30 - z ≡ d + (30 - (z + d)) = omega arith in
    ap (λ n. 2 ^ n) e ∙ pow-add 2 d (30 - (z + d))

-- a square meets one of its own or of a later zoom exactly where it is that square's ancestor, d zooms higher
pub ancestor : (a b : Square) (d : ℕ) → b.z ≡ a.z + d → b.z ≤ 18 → ((b.x / 2 ^ d == a.x) && (b.y / 2 ^ d == a.y)) ≡ squares_meet a b
ancestor a b d e h =
    let k : 0 < 2 ^ d = pow_pos d in
    let s : 0 < side_at b.z = pow_pos (30 - b.z) in
    let up : side_at a.z ≡ 2 ^ d * side_at b.z = side_above a.z d (omega arith) ∙ ap (λ n. 2 ^ d * side_at n) (sym e) in
    rw up (both_same _ _ _ _ (stretch_above a.x b.x (2 ^ d) (side_at b.z) k s) (stretch_above a.y b.y (2 ^ d) (side_at b.z) k s))

pub squares_turned : (a b : Square) → squares_meet a b ≡ squares_meet b a
squares_turned a b =
    both_same _ _ _ _ (stretches_turned (a.x * side_at a.z) (side_at a.z) (b.x * side_at b.z) (side_at b.z))
    (stretches_turned (a.y * side_at a.z) (side_at a.z) (b.y * side_at b.z) (side_at b.z))

pub meet_from_overlap : (a b : Square) → Overlap a b → squares_meet a b ≡ true
meet_from_overlap a b (p, h, k) =
    and_from _ _ (both_in (a.x * side_at a.z) (side_at a.z) (b.x * side_at b.z) (side_at b.z) p.x h.from_west (omega (arith, h.before_east)) k.from_west (omega (arith, k.before_east)))
    (both_in (a.y * side_at a.z) (side_at a.z) (b.y * side_at b.z) (side_at b.z) p.y h.from_north (omega (arith, h.before_south)) k.from_north (omega (arith, k.before_south)))

pub overlap_from_meet : (a b : Square) → squares_meet a b ≡ true → Overlap a b
overlap_from_meet a b e =
    let m : 0 < side_at a.z = pow_pos (30 - a.z) in
    let n : 0 < side_at b.z = pow_pos (30 - b.z) in
    let parts = and_parts (stretches_meet (a.x * side_at a.z) (side_at a.z) (b.x * side_at b.z) (side_at b.z))
    (stretches_meet (a.y * side_at a.z) (side_at a.z) (b.y * side_at b.z) (side_at b.z)) e in
    let x = starts_meet (a.x * side_at a.z) (side_at a.z) (b.x * side_at b.z) (side_at b.z) m n parts.0 in
    let y = starts_meet (a.y * side_at a.z) (side_at a.z) (b.y * side_at b.z) (side_at b.z) m n parts.1 in
    let p : Point = record { x = max (a.x * side_at a.z) (b.x * side_at b.z); y = max (a.y * side_at a.z) (b.y * side_at b.z) } in (
      p,
      record { from_west = x.0; before_east = omega (arith, x.1); from_north = y.0; before_south = omega (arith, y.1) },
      record { from_west = x.2; before_east = omega (arith, x.3); from_north = y.2; before_south = omega (arith, y.3) },
    )

pub overlap_iff : (a b : Square) → (squares_meet a b ≡ true) ↔ Overlap a b
overlap_iff a b = (overlap_from_meet a b, meet_from_overlap a b)
