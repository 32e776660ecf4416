-- The quarters of a square, by the keys that have them.
use Rattle.std.proofs.Common.{◌≡◌, ℕ, ◌+◌, ◌-◌, ◌*◌, ◌/◌, ◌%◌, ◌^◌, ◌<◌, ◌≤◌, sym, ap, ◌∙◌, arith}
use Rattle.std.proofs.lemmas.Nat.{pow-add}
use Rattle.farm_history.specs.declared.keys.Key.{Key}
use Rattle.expiry_lists.specs.inner.Nodes.{parent}
use Rattle.expiry_lists.specs.inner.Walks.{child, IsNode}

-- a column or row of a metatile of zoom 3 or later leaves room for its 8 tiles
pub room_of_eight : (x z : ℕ) → 3 ≤ z → x < 2 ^ z → x % 8 ≡ 0 → x + 8 ≤ 2 ^ z
room_of_eight x z deep fits eights =
    let d : 3 + (z - 3) ≡ z = omega arith in
    let p : 2 ^ 3 * 2 ^ (z - 3) ≡ 2 ^ z = sym (pow-add 2 3 (z - 3)) ∙ ap (λ n. 2 ^ n) d in
    omega (arith, p)

-- a quarter's column or row fits at the next zoom
child_fits : (x z h : ℕ) → 3 ≤ z → x < 2 ^ z → x % 8 ≡ 0 → h < 2 → x * 2 + 8 * h < 2 ^ (z + 1)
child_fits x z h deep fits eights half =
    let p : 2 ^ (z + 1) ≡ 2 ^ z * 2 ^ 1 = pow-add 2 z 1 in
    omega (arith, p, room_of_eight x z deep fits eights)

pub child_node : (k : Key) (j : ℕ) → IsNode k → j < 4 → k.meta.z < 18 → IsNode (child j k)
child_node k j node quarter above = record {
  deep = omega (arith, node.deep);
  meta = record {
    z_fits = omega (arith, above);
    x_fits = child_fits k.meta.x k.meta.z (j % 2) node.deep node.meta.x_fits node.meta.x_eights (omega arith);
    y_fits = child_fits k.meta.y k.meta.z (j / 2) node.deep node.meta.y_fits node.meta.y_eights (omega (arith, quarter));
    x_eights = omega (arith, node.meta.x_eights);
    y_eights = omega (arith, node.meta.y_eights);
  };
}

-- a quarter lies below the key that it is a quarter of
pub parent-child : (k : Key) (j : ℕ) → k.meta.x % 8 ≡ 0 → k.meta.y % 8 ≡ 0 → j < 4 → parent (child j k) ≡ k
parent-child k j x_eights y_eights quarter =
    let x : (k.meta.x * 2 + 8 * (j % 2)) / 16 * 8 ≡ k.meta.x = omega (arith, x_eights) in
    let y : (k.meta.y * 2 + 8 * (j / 2)) / 16 * 8 ≡ k.meta.y = omega (arith, y_eights, quarter) in
    let z : k.meta.z + 1 - 1 ≡ k.meta.z = omega arith in
    λ i. record { map = k.map; meta = record { z = z i; x = x i; y = y i } }

-- and each key below zoom 3 is a quarter of the one above it
pub child-parent : (k : Key) → 3 < k.meta.z → k.meta.x % 8 ≡ 0 → k.meta.y % 8 ≡ 0 → (j : ℕ) × (j < 4) × (child j (parent k) ≡ k)
child-parent k below x_eights y_eights =
    let j : ℕ = k.meta.x / 8 % 2 + 2 * (k.meta.y / 8 % 2) in
    let x : k.meta.x / 16 * 8 * 2 + 8 * (j % 2) ≡ k.meta.x = omega (arith, x_eights) in
    let y : k.meta.y / 16 * 8 * 2 + 8 * (j / 2) ≡ k.meta.y = omega (arith, y_eights) in
    let z : k.meta.z - 1 + 1 ≡ k.meta.z = omega (arith, below) in
    (j, omega arith, λ i. record { map = k.map; meta = record { z = z i; x = x i; y = y i } })
