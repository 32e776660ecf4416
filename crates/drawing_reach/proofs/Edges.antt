-- A shape reaches a square, by the square's edges.
use Rattle.std.proofs.Common.{◌≡◌, ℕ, ◌+◌, ◌-◌, ◌*◌, ◌<◌, ◌≤◌, Bool, true, ◌&&◌, List, inl, inr, arith}
use Rattle.std.specs.Prelude.{nat_le, nat_lt, IsTrue, ◌↔◌}
use Rattle.std.specs.List.{list_any}
use Rattle.std.proofs.lemmas.Nat.{pow_pos}
use Rattle.std.proofs.lemmas.Bool.{cases_lt, and_parts, le-leb, leb-true, lt-ltb, ltb-true, and_from}
use Rattle.plain_world.specs.declared.world.Point.{Point}
use Rattle.plain_world.specs.declared.world.Square.{Square}
use Rattle.plain_world.specs.World.{side_at, InSquare}
use Rattle.plain_shapes.specs.Features.{Feature}
use Rattle.plain_shapes.specs.Reach.{all_points, margin_of, InReach, Reaches, points_reach, feature_reaches}
use Rattle.drawing_reach.proofs.Members.{picked}

any_more : (t u : Point → Bool) → ((q : Point) → t q ≡ true → u q ≡ true) → (ps : List Point) → list_any t ps ≡ true → list_any u ps ≡ true
any_more t u f ps e = (let r = picked t ps e in r.2 u (f r.0 r.1))

-- one direction: a place of the stretch from `from` to before `to` beside the least and the greatest value of the points
record Place (f : Point → ℕ) (points : List Point) (margin from to : ℕ) : Type 0 where
  pub at : ℕ
  pub starts : from ≤ at
  pub ends : at < to
  pub behind : list_any (λ q. nat_le (f q) (at + margin)) points ≡ true
  pub before : list_any (λ q. nat_le at (f q + margin)) points ≡ true

place : (f : Point → ℕ) (points : List Point) (margin from to : ℕ) → from < to
    → list_any (λ q. nat_lt (f q) (to + margin)) points ≡ true → list_any (λ q. nat_le from (f q + margin)) points ≡ true → Place f points margin from to
place f points margin from to some low high =
    let l = picked (λ q. nat_lt (f q) (to + margin)) points low in
    let h = picked (λ q. nat_le from (f q + margin)) points high in
    let lq : Point = l.0 in
    let hq : Point = h.0 in
    let lb : f lq < to + margin = ltb-true (f lq) (to + margin) l.1 in
    let hb : from ≤ f hq + margin = leb-true from (f hq + margin) h.1 in
    elim (cases_lt from (f lq - margin)) [
      | inl p ↦ record {
        at = f lq - margin;
        starts = omega arith;
        ends = omega arith;
        behind = l.2 (λ q. nat_le (f q) (f lq - margin + margin)) (le-leb (f lq) (f lq - margin + margin) (omega arith));
        before = l.2 (λ q. nat_le (f lq - margin) (f q + margin)) (le-leb (f lq - margin) (f lq + margin) (omega arith));
      }
      | inr p ↦ record {
        at = from;
        starts = omega arith;
        ends = some;
        behind = l.2 (λ q. nat_le (f q) (from + margin)) (le-leb (f lq) (from + margin) (omega arith));
        before = h.2 (λ q. nat_le from (f q + margin)) (le-leb from (f hq + margin) hb);
      }
    ]

-- by the edges there is a point
point_there : (points : List Point) (margin : ℕ) (s : Square) → points_reach points margin s ≡ true → (p : Point) × InReach points margin p × InSquare s p
point_there points margin s h =
    let side : ℕ = side_at s.z in
    let some : 0 < side = pow_pos (30 - s.z) in
    let east : Bool = list_any (λ q. nat_lt q.x ((s.x + 1) * side_at s.z + margin)) points in
    let west : Bool = list_any (λ q. nat_le (s.x * side_at s.z) (q.x + margin)) points in
    let south : Bool = list_any (λ q. nat_lt q.y ((s.y + 1) * side_at s.z + margin)) points in
    let north : Bool = list_any (λ q. nat_le (s.y * side_at s.z) (q.y + margin)) points in
    let a = and_parts (east && west && south) north h in
    let b = and_parts (east && west) south a.0 in
    let d = and_parts east west b.0 in
    let x : Place (λ q. q.x) points margin (s.x * side_at s.z) ((s.x + 1) * side_at s.z) =
    place (λ q. q.x) points margin (s.x * side_at s.z) ((s.x + 1) * side_at s.z) (omega arith) d.0 d.1 in
    let y : Place (λ q. q.y) points margin (s.y * side_at s.z) ((s.y + 1) * side_at s.z) =
    place (λ q. q.y) points margin (s.y * side_at s.z) ((s.y + 1) * side_at s.z) (omega arith) b.1 a.1 in (
      record { x = x.at; y = y.at },
      record { from_west = x.behind; to_east = x.before; from_north = y.behind; to_south = y.before },
      record { from_west = x.starts; before_east = x.ends; from_north = y.starts; before_south = y.ends },
    )

-- a point shows the edges
edges_there : (points : List Point) (margin : ℕ) (s : Square) (p : Point) → InReach points margin p → InSquare s p → points_reach points margin s ≡ true
edges_there points margin s p r i =
    let side : ℕ = side_at s.z in
    let east : Bool = list_any (λ q. nat_lt q.x ((s.x + 1) * side_at s.z + margin)) points in
    let west : Bool = list_any (λ q. nat_le (s.x * side_at s.z) (q.x + margin)) points in
    let south : Bool = list_any (λ q. nat_lt q.y ((s.y + 1) * side_at s.z + margin)) points in
    let north : Bool = list_any (λ q. nat_le (s.y * side_at s.z) (q.y + margin)) points in
    let e : east ≡ true = any_more (λ q. nat_le q.x (p.x + margin)) (λ q. nat_lt q.x ((s.x + 1) * side_at s.z + margin))
    (λ q k. lt-ltb q.x ((s.x + 1) * side_at s.z + margin) (let m = leb-true q.x (p.x + margin) k in omega (arith, i.before_east))) points r.from_west in
    let w : west ≡ true = any_more (λ q. nat_le p.x (q.x + margin)) (λ q. nat_le (s.x * side_at s.z) (q.x + margin))
    (λ q k. le-leb (s.x * side_at s.z) (q.x + margin) (let m = leb-true p.x (q.x + margin) k in omega (arith, i.from_west))) points r.to_east in
    let f : south ≡ true = any_more (λ q. nat_le q.y (p.y + margin)) (λ q. nat_lt q.y ((s.y + 1) * side_at s.z + margin))
    (λ q k. lt-ltb q.y ((s.y + 1) * side_at s.z + margin) (let m = leb-true q.y (p.y + margin) k in omega (arith, i.before_south))) points r.from_north in
    let n : north ≡ true = any_more (λ q. nat_le p.y (q.y + margin)) (λ q. nat_le (s.y * side_at s.z) (q.y + margin))
    (λ q k. le-leb (s.y * side_at s.z) (q.y + margin) (let m = leb-true p.y (q.y + margin) k in omega (arith, i.from_north))) points r.to_south in
    and_from (east && west && south) north (and_from (east && west) south (and_from east west e w) f) n

pub by_edges : (f : Feature) (size z : ℕ) (s : Square) → IsTrue (feature_reaches f size z s) ↔ Reaches f size z s
by_edges f size z s = (
  λ h. point_there (all_points f.geometry) (margin_of size z) s h,
  λ r. edges_there (all_points f.geometry) (margin_of size z) s r.0 r.1 r.2,
)
