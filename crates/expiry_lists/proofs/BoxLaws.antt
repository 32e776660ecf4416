-- A square holds a point of a widened box exactly where their edges say so, and then a square over it does.
use Rattle.std.proofs.Common.{◌≡◌, ℕ, ◌+◌, ◌-◌, ◌*◌, ◌/◌, ◌%◌, ◌^◌, ◌<◌, ◌≤◌, max, true, ◌&&◌, nat_lt, nat_le, sym, ap, ◌∙◌, arith}
use Rattle.std.proofs.lemmas.Bool.{and_from, and_parts, leb-true, ltb-true}
use Rattle.std.proofs.lemmas.Bool.Decides.{nat_tests}
use Rattle.std.proofs.lemmas.Nat.{pow_pos, pow-add, div-add-mod', mod_below}
use Rattle.std.proofs.Math.Nat.{mul-le-mul_right, pow-le-pow_right}
use Rattle.plain_world.specs.declared.world.Square.{Square}
use Rattle.plain_world.specs.World.{side_at}
use Rattle.plain_world.specs.Ancestors.{IsOver}
use Rattle.geo_model.specs.declared.bounds.Bounds.{Bounds}
use Rattle.expiry_lists.specs.Boxes.{Holds, is_near, comes_near}

-- a place is below those of the last zoom
pub few_places : (z x : ℕ) → z ≤ 18 → x < 2 ^ z → x < 2 ^ 18
few_places z x few h =
    let most : 2 ^ z ≤ 2 ^ 18 = pow-le-pow_right (omega arith) few in
    omega (arith, most)

-- in one direction: a place of both stretches
record Place (least greatest margin from to : ℕ) : Type 0 where
  at : ℕ
  starts : from ≤ at
  ends : at < to
  behind : least ≤ at + margin
  before : at ≤ greatest + margin

shared_place : (least greatest place units margin : ℕ) → least ≤ greatest → 0 < units → is_near least greatest place units margin ≡ true → Place least greatest margin (place * units) ((place + 1) * units)
shared_place least greatest place units margin order some h =
    let both = and_parts (nat_lt least ((place + 1) * units + margin)) (nat_le (place * units) (greatest + margin)) h in
    let low = ltb-true least ((place + 1) * units + margin) both.0 in
    let high = leb-true (place * units) (greatest + margin) both.1 in
    record {
      at = max (place * units) (least - margin);
      starts = omega arith;
      ends = omega arith;
      behind = omega arith;
      before = omega arith;
    }

pub holds_at : (b : Bounds) (margin : ℕ) (s : Square) → b.west ≤ b.east → b.north ≤ b.south → comes_near b margin s ≡ true → Holds s b margin
holds_at b margin s across down h =
    let both = and_parts (is_near b.west b.east s.x (side_at s.z) margin) (is_near b.north b.south s.y (side_at s.z) margin) h in
    let some : 0 < side_at s.z = pow_pos (30 - s.z) in
    let x = shared_place b.west b.east s.x (side_at s.z) margin across some both.0 in
    let y = shared_place b.north b.south s.y (side_at s.z) margin down some both.1 in (
      record { x = x.at; y = y.at },
      record { from_west = x.behind; to_east = x.before; from_north = y.behind; to_south = y.before },
      record { from_west = x.starts; before_east = x.ends; from_north = y.starts; before_south = y.ends },
    )

-- a number in both
near_from : (least greatest margin from to at : ℕ) → least ≤ at + margin → at ≤ greatest + margin → from ≤ at → at < to → (nat_lt least (to + margin) && nat_le from (greatest + margin)) ≡ true
near_from least greatest margin from to at a b c d = grind (arith, nat_tests)

pub holds_from : (b : Bounds) (margin : ℕ) (s : Square) → Holds s b margin → comes_near b margin s ≡ true
holds_from b margin s (p, w, i) =
    and_from _ _ (near_from b.west b.east margin (s.x * side_at s.z) ((s.x + 1) * side_at s.z) p.x w.from_west w.to_east i.from_west i.before_east)
    (near_from b.north b.south margin (s.y * side_at s.z) ((s.y + 1) * side_at s.z) p.y w.from_north w.to_south i.from_north i.before_south)

-- a square's stretch lies in that of a square over it
within : (low k s : ℕ) → 0 < k → (low / k * (k * s) ≤ low * s) × ((low + 1) * s ≤ (low / k + 1) * (k * s))
within low k s some =
    let place : low / k * k + low % k ≡ low = div-add-mod' low k in
    let rest : low % k < k = mod_below low k some in
    let a : low / k * k ≤ low = omega arith in
    let b : low + 1 ≤ low / k * k + k = omega arith in
    let c : low / k * k * s ≤ low * s = mul-le-mul_right s a in
    let d : (low + 1) * s ≤ (low / k * k + k) * s = mul-le-mul_right s b in
    (omega (arith, c), omega (arith, d))

-- a longer stretch and a wider margin reach no less
wider : (least greatest from to from' to' m n : ℕ) → n ≤ m → from ≤ from' → to' ≤ to → (nat_lt least (to' + n) && nat_le from' (greatest + n)) ≡ true → (nat_lt least (to + m) && nat_le from (greatest + m)) ≡ true
wider least greatest from to from' to' m n less first last h = grind (arith, nat_tests)

pub over_near : (b : Bounds) (m n : ℕ) (high low : Square) → n ≤ m → low.z ≤ 18 → IsOver high low → comes_near b n low ≡ true → comes_near b m high ≡ true
over_near b m n high low less small (d, z, x, y) h =
    let parts = and_parts (is_near b.west b.east low.x (side_at low.z) n) (is_near b.north b.south low.y (side_at low.z) n) h in
    let zooms : 30 - high.z ≡ d + (30 - low.z) = omega (arith, z) in
    let side : side_at high.z ≡ 2 ^ d * side_at low.z = ap (λ n. 2 ^ n) zooms ∙ pow-add 2 d (30 - low.z) in
    let across = within low.x (2 ^ d) (side_at low.z) (pow_pos d) in
    let down = within low.y (2 ^ d) (side_at low.z) (pow_pos d) in
    let wide : is_near b.west b.east (low.x / 2 ^ d) (2 ^ d * side_at low.z) m ≡ true = wider _ _ _ _ _ _ _ _ less across.0 across.1 parts.0 in
    let tall : is_near b.north b.south (low.y / 2 ^ d) (2 ^ d * side_at low.z) m ≡ true = wider _ _ _ _ _ _ _ _ less down.0 down.1 parts.1 in
    rw (side, sym x, sym y) (and_from _ _ wide tall)
