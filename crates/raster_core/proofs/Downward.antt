-- The columns of an edge, the edges of a ring and the rings of a polygon, one after another.
use Rattle.std.proofs.Common.{◌≡◌, ℕ, suc, ◌+◌, ◌-◌, ◌*◌, ◌<◌, ◌≤◌, min, max, Bool, false, inl, inr, List, length, get_or, drop, flat_map, ap, sym, ◌∙◌, arith, add-one, drop-cons}
use Rattle.std.specs.Prelude.{nat_le}
use Rattle.std.proofs.Math.Nat.{mul-le-mul_right}
use Rattle.std.proofs.lemmas.List.{drop_all}
use Rattle.std.proofs.lemmas.Bool.{cases_lt, le-leb, lt-leb, leb-true}
use Rattle.plain_world.specs.declared.world.Point.{Point}
use Rattle.plain_shapes.specs.Rings.{counts_down, counts, edges_from, ring_edges, in_rings}
use Rattle.plain_shapes.proofs.Signs.{downward_is}
use Rattle.raster_core.specs.inner.Toggles.{flip, odd_edges}
use Rattle.raster_core.proofs.Toggling.{odd_cons, odd_append}

pub edges_step : (before : Point) (points : List Point) (i : ℕ) (d : Point) → i < length points → (c : Point)
    → odd_edges (edges_from before (drop i points)) c
    ≡ flip (counts (before, get_or points i d) c) (odd_edges (edges_from (get_or points i d) (drop (i + 1) points)) c)
edges_step before points i d lt c =
    let p : Point = get_or points i d in
    ap (λ ps. odd_edges (edges_from before ps) c) (drop-cons points i d lt)
    ∙ odd_cons (λ e. counts e c) (before, p) (edges_from p (drop (suc i) points))
    ∙ ap (λ k. flip (counts (before, p) c) (odd_edges (edges_from p (drop k points)) c)) (sym (add-one i))

pub rings_step : (rings : List (List Point)) (i : ℕ) (ring : List Point) → i < length rings → ring ≡ get_or rings i ring → (c : Point)
    → in_rings (drop i rings) c ≡ flip (odd_edges (ring_edges ring) c) (in_rings (drop (i + 1) rings) c)
rings_step rings i ring lt is c =
    ap (λ rs. in_rings rs c) (drop-cons rings i ring lt)
    ∙ odd_append (λ e. counts e c) (ring_edges (get_or rings i ring)) (flat_map ring_edges (drop (suc i) rings))
    ∙ ap (λ r. flip (odd_edges (ring_edges r) c) (in_rings (drop (suc i) rings) c)) (sym is)
    ∙ ap (λ k. flip (odd_edges (ring_edges ring) c) (in_rings (drop k rings) c)) (sym (add-one i))

-- no edges are left, and no rings
pub edges_none : (before : Point) (points : List Point) (i : ℕ) → length points ≤ i → (c : Point) → odd_edges (edges_from before (drop i points)) c ≡ false
edges_none before points i past c = ap (λ ps. odd_edges (edges_from before ps) c) (drop_all i points past)

pub rings_none : (rings : List (List Point)) (i : ℕ) → length rings ≤ i → (c : Point) → in_rings (drop i rings) c ≡ false
rings_none rings i past c = ap (λ rs. in_rings rs c) (drop_all i rings past)

-- an edge whose ends the same columns lie past: each of its points lies between the two
straight_le : (r s ax bx x : ℕ) (t : Bool) → 1 ≤ s → t ≡ nat_le (min ax bx) x → t ≡ nat_le (max ax bx) x → t ≡ nat_le (r * bx + s * ax) ((r + s) * x)
straight_le r s ax bx x t some west east = elim (cases_lt x (min ax bx)) [
  | inl lt ↦ (
      let a : x + 1 ≤ ax = omega arith in
      let b : x ≤ bx = omega arith in
      west ∙ lt-leb (min ax bx) x lt ∙ sym (lt-leb (r * bx + s * ax) ((r + s) * x) (omega (arith, mul-le-mul_right s a, mul-le-mul_right r b))))
  | inr le ↦ (
      let high : max ax bx ≤ x = leb-true (max ax bx) x (sym east ∙ west ∙ le-leb (min ax bx) x le) in
      let a : ax ≤ x = omega (arith, high) in
      let b : bx ≤ x = omega (arith, high) in
      west ∙ le-leb (min ax bx) x le ∙ sym (le-leb (r * bx + s * ax) ((r + s) * x) (omega (arith, mul-le-mul_right s a, mul-le-mul_right r b))))
]

pub straight : (a b c : Point) (t : Bool) → a.y ≤ c.y → c.y < b.y → t ≡ nat_le (min a.x b.x) c.x → t ≡ nat_le (max a.x b.x) c.x → t ≡ counts_down a b c
straight a b c t upper lower west east =
    let r : ℕ = c.y - a.y in
    let s : ℕ = b.y - c.y in
    let h : r + s ≡ b.y - a.y = omega arith in
    straight_le r s a.x b.x c.x t (omega arith) west east
    ∙ ap (λ k. nat_le (r * b.x + s * a.x) (k * c.x)) h
    ∙ downward_is a b c upper lower

-- an edge whose column is the same in two rows: each of its points between the two lies between theirs
between_sums : (p q r s ax bx x : ℕ) (t : Bool) → t ≡ nat_le (p * bx + (q + r + s) * ax) ((p + q + r + s) * x) → t ≡ nat_le ((p + q + r) * bx + s * ax) ((p + q + r + s) * x)
    → t ≡ nat_le ((p + q) * bx + (r + s) * ax) ((p + q + r + s) * x)
between_sums p q r s ax bx x t first last =
    let m : ℕ = (p + q + r + s) * x in
    let low : ℕ = p * bx + (q + r + s) * ax in
    let here : ℕ = (p + q) * bx + (r + s) * ax in
    let high : ℕ = (p + q + r) * bx + s * ax in
    elim (cases_lt bx ax) [
      | inl less ↦ (
          let le : bx ≤ ax = omega arith in
          let falls : here ≤ low = omega (arith, mul-le-mul_right q le) in
          let on : high ≤ here = omega (arith, mul-le-mul_right r le) in
          elim (cases_lt m here) [
            | inl lt ↦ first ∙ lt-leb low m (omega (arith, falls, lt)) ∙ sym (lt-leb here m lt)
            | inr is ↦ last ∙ le-leb high m (omega (arith, on, is)) ∙ sym (le-leb here m is)
          ])
      | inr le ↦ (
          let rises : low ≤ here = omega (arith, mul-le-mul_right q le) in
          let on : here ≤ high = omega (arith, mul-le-mul_right r le) in
          elim (cases_lt m here) [
            | inl lt ↦ last ∙ lt-leb high m (omega (arith, on, lt)) ∙ sym (lt-leb here m lt)
            | inr is ↦ first ∙ le-leb low m (omega (arith, rises, is)) ∙ sym (le-leb here m is)
          ])
    ]

pub between : (a b c0 c c1 : Point) (t : Bool) → c0.x ≡ c.x → c1.x ≡ c.x → a.y ≤ c0.y → c0.y ≤ c.y → c.y ≤ c1.y → c1.y < b.y
    → t ≡ counts_down a b c0 → t ≡ counts_down a b c1 → t ≡ counts_down a b c
between a b c0 c c1 t x0 x1 upper low high lower first last =
    let p : ℕ = c0.y - a.y in
    let q : ℕ = c.y - c0.y in
    let r : ℕ = c1.y - c.y in
    let s : ℕ = b.y - c1.y in
    let rest0 : q + r + s ≡ b.y - c0.y = omega arith in
    let rise : p + q ≡ c.y - a.y = omega arith in
    let rest : r + s ≡ b.y - c.y = omega arith in
    let rise1 : p + q + r ≡ c1.y - a.y = omega arith in
    let all : p + q + r + s ≡ b.y - a.y = omega arith in
    let sum : ℕ → ℕ → ℕ → ℕ → Bool = λ up down whole x. nat_le (up * b.x + down * a.x) (whole * x) in
    let at0 : t ≡ sum p (q + r + s) (p + q + r + s) c.x =
    first ∙ sym (downward_is a b c0 upper (omega arith)) ∙ ap (λ x. sum (c0.y - a.y) (b.y - c0.y) (b.y - a.y) x) x0
    ∙ ap (λ n. sum p n (b.y - a.y) c.x) (sym rest0) ∙ ap (λ n. sum p (q + r + s) n c.x) (sym all) in
    let at1 : t ≡ sum (p + q + r) s (p + q + r + s) c.x =
    last ∙ sym (downward_is a b c1 (omega arith) lower) ∙ ap (λ x. sum (c1.y - a.y) (b.y - c1.y) (b.y - a.y) x) x1
    ∙ ap (λ n. sum n s (b.y - a.y) c.x) (sym rise1) ∙ ap (λ n. sum (p + q + r) s n c.x) (sym all) in
    between_sums p q r s a.x b.x c.x t at0 at1
    ∙ ap (λ n. sum n (r + s) (p + q + r + s) c.x) rise ∙ ap (λ n. sum (c.y - a.y) n (p + q + r + s) c.x) rest ∙ ap (λ n. sum (c.y - a.y) (b.y - c.y) n c.x) all
    ∙ downward_is a b c (omega arith) (omega arith)
