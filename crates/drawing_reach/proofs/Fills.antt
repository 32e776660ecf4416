-- The inside of rings lies in every rectangle that holds their points.
use Rattle.std.proofs.Common.{◌≡◌, ℕ, ◌+◌, ◌-◌, ◌*◌, ◌<◌, ◌≤◌, Bool, true, false, not, List, [], ◌∷◌, flat_map, refl, ap, sym, ◌∙◌, inl, inr, arith}
use Rattle.std.specs.Prelude.{nat_le, if◌then◌else◌, option_map, unwrap_or}
use Rattle.std.specs.List.{AllByRecursion}
use Rattle.std.proofs.Math.Nat.{mul-le-mul_left}
use Rattle.std.proofs.lemmas.Bool.{cases_lt, le-leb, lt-leb}
use Rattle.raster_core.proofs.Corners.{twice_same}
use Rattle.plain_world.specs.declared.world.Point.{Point}
use Rattle.plain_shapes.specs.Rings.{counts_down, counts, edges_from, ring_edges, in_rings}
use Rattle.plain_shapes.proofs.Signs.{downward_is, off_above, off_below}
use Rattle.raster_core.specs.inner.Toggles.{flip, odd_edges}
use Rattle.raster_core.proofs.Toggling.{odd_cons, odd_append}
use Rattle.geo_model.specs.declared.bounds.Bounds.{Bounds}
use Rattle.geo_model.specs.Bounds.{InBounds}
use Rattle.drawing_reach.specs.inner.Spreads.{Beside}
use Rattle.drawing_reach.proofs.Members.{last_of, last_at, last_has, all_map}

-- ---- where no edge counts

edges_off : (P : Point → Type 0) (c : Point) → ((p q : Point) → P p → P q → counts (p, q) c ≡ false)
    → (before : Point) (ps : List Point) → P before → AllByRecursion P ps → odd_edges (edges_from before ps) c ≡ false
edges_off P c off before [] b h = refl
edges_off P c off before (q ∷ ps) b h =
    odd_cons (λ e. counts e c) (before, q) (edges_from q ps)
    ∙ ap (λ t. flip t (odd_edges (edges_from q ps) c)) (off before q b h.0)
    ∙ edges_off P c off q ps h.0 h.1

ring_is : (c p : Point) (ps : List Point) → odd_edges (ring_edges (p ∷ ps)) c ≡ odd_edges (edges_from (last_of p ps) (p ∷ ps)) c
ring_is c p ps = ap (λ o. odd_edges (unwrap_or (option_map (λ last. edges_from last (p ∷ ps)) o) []) c) (last_at p ps)

ring_off : (P : Point → Type 0) (c : Point) → ((p q : Point) → P p → P q → counts (p, q) c ≡ false)
    → (ps : List Point) → AllByRecursion P ps → odd_edges (ring_edges ps) c ≡ false
ring_off P c off [] h = refl
ring_off P c off (p ∷ ps) h = ring_is c p ps ∙ edges_off P c off (last_of p ps) (p ∷ ps) (last_has P p ps h.0 h.1) h

-- rings of which none has an odd number of edges that count
rings_off : (Q : List Point → Type 0) (c : Point) → ((ps : List Point) → Q ps → odd_edges (ring_edges ps) c ≡ false)
    → (rings : List (List Point)) → AllByRecursion Q rings → in_rings rings c ≡ false
rings_off Q c off [] h = refl
rings_off Q c off (r ∷ rs) h =
    odd_append (λ e. counts e c) (ring_edges r) (flat_map ring_edges rs)
    ∙ ap (λ t. flip t (in_rings rs c)) (off r h.0)
    ∙ rings_off Q c off rs h.1

by_order : (a b c : Point) (t : Bool) → counts_down a b c ≡ false → counts_down b a c ≡ false
    → (if t then counts_down a b c else counts_down b a c) ≡ false
by_order a b c true p q = p
by_order a b c false p q = q

edge_off : (a b c : Point) → counts_down a b c ≡ false → counts_down b a c ≡ false → counts (a, b) c ≡ false
edge_off a b c p q = by_order a b c (nat_le a.y b.y) p q

-- ---- to the west of an edge

west_sum : (r s ax bx cx : ℕ) → 1 ≤ r + s → cx < ax → cx < bx → (r + s) * cx < r * bx + s * ax
west_sum r s ax bx cx some p q =
    let a : cx + 1 ≤ ax = omega arith in
    let b : cx + 1 ≤ bx = omega arith in
    omega (arith, mul-le-mul_left r b, mul-le-mul_left s a)

west_down : (a b c : Point) → c.x < a.x → c.x < b.x → counts_down a b c ≡ false
west_down a b c p q = elim (cases_lt c.y a.y) [
  | inl above ↦ off_above a b c above
  | inr from ↦ (elim (cases_lt c.y b.y) [
    | inl before ↦ (
        let h : b.y - a.y ≡ c.y - a.y + (b.y - c.y) = omega arith in
        sym (downward_is a b c from before)
        ∙ ap (λ t. nat_le ((c.y - a.y) * b.x + (b.y - c.y) * a.x) (t * c.x)) h
        ∙ lt-leb ((c.y - a.y) * b.x + (b.y - c.y) * a.x) ((c.y - a.y + (b.y - c.y)) * c.x) (west_sum (c.y - a.y) (b.y - c.y) a.x b.x c.x (omega arith) p q))
    | inr below ↦ off_below a b c below
  ])
]

-- ---- to the east of an edge: it counts where its ends lie on two sides of the height

east_sum : (r s ax bx cx : ℕ) → ax ≤ cx → bx ≤ cx → r * bx + s * ax ≤ (r + s) * cx
east_sum r s ax bx cx p q = omega (arith, mul-le-mul_left r q, mul-le-mul_left s p)

east_down : (a b c : Point) → a.y ≤ b.y → a.x ≤ c.x → b.x ≤ c.x → counts_down a b c ≡ flip (nat_le a.y c.y) (nat_le b.y c.y)
east_down a b c down p q = elim (cases_lt c.y a.y) [
  | inl above ↦ off_above a b c above ∙ sym (ap (λ t. flip t (nat_le b.y c.y)) (lt-leb a.y c.y above) ∙ lt-leb b.y c.y (omega arith))
  | inr from ↦ (elim (cases_lt c.y b.y) [
    | inl before ↦ (
        let h : b.y - a.y ≡ c.y - a.y + (b.y - c.y) = omega arith in
        sym (downward_is a b c from before)
        ∙ ap (λ t. nat_le ((c.y - a.y) * b.x + (b.y - c.y) * a.x) (t * c.x)) h
        ∙ le-leb ((c.y - a.y) * b.x + (b.y - c.y) * a.x) ((c.y - a.y + (b.y - c.y)) * c.x) (east_sum (c.y - a.y) (b.y - c.y) a.x b.x c.x p q)
        ∙ sym (ap (λ t. flip t (nat_le b.y c.y)) (le-leb a.y c.y from) ∙ ap not (lt-leb b.y c.y before)))
    | inr below ↦ off_below a b c below ∙ sym (ap (λ t. flip t (nat_le b.y c.y)) (le-leb a.y c.y from) ∙ ap not (le-leb b.y c.y below))
  ])
]

flip_comm : (s t : Bool) → flip s t ≡ flip t s
flip_comm true true = refl
flip_comm true false = refl
flip_comm false true = refl
flip_comm false false = refl

flip_chain : (r s t : Bool) → flip (flip r s) (flip s t) ≡ flip r t
flip_chain true true true = refl
flip_chain true true false = refl
flip_chain true false t = refl
flip_chain false true true = refl
flip_chain false true false = refl
flip_chain false false t = refl

east_edge : (a b c : Point) → a.x ≤ c.x → b.x ≤ c.x → counts (a, b) c ≡ flip (nat_le a.y c.y) (nat_le b.y c.y)
east_edge a b c p q = elim (cases_lt b.y a.y) [
  | inl up ↦ (
      ap (λ t. if t then counts_down a b c else counts_down b a c) (lt-leb a.y b.y up)
      ∙ east_down b a c (omega arith) q p ∙ flip_comm (nat_le b.y c.y) (nat_le a.y c.y))
  | inr down ↦ ap (λ t. if t then counts_down a b c else counts_down b a c) (le-leb a.y b.y down) ∙ east_down a b c down p q
]

east_edges : (c before : Point) (ps : List Point) → before.x ≤ c.x → AllByRecursion (λ q. q.x ≤ c.x) ps
    → odd_edges (edges_from before ps) c ≡ flip (nat_le before.y c.y) (nat_le (last_of before ps).y c.y)
east_edges c before [] b h = sym (twice_same (nat_le before.y c.y))
east_edges c before (q ∷ ps) b h =
    odd_cons (λ e. counts e c) (before, q) (edges_from q ps)
    ∙ ap (λ t. flip t (odd_edges (edges_from q ps) c)) (east_edge before q c b h.0)
    ∙ ap (flip (flip (nat_le before.y c.y) (nat_le q.y c.y))) (east_edges c q ps h.0 h.1)
    ∙ flip_chain (nat_le before.y c.y) (nat_le q.y c.y) (nat_le (last_of q ps).y c.y)

-- a closed ring crosses the height as often downward as upward
east_ring : (c : Point) (ps : List Point) → AllByRecursion (λ q. q.x ≤ c.x) ps → odd_edges (ring_edges ps) c ≡ false
east_ring c [] h = refl
east_ring c (p ∷ ps) h =
    ring_is c p ps
    ∙ east_edges c (last_of p ps) (p ∷ ps) (last_has (λ q. q.x ≤ c.x) p ps h.0 h.1) h
    ∙ twice_same (nat_le (last_of p ps).y c.y)

-- ---- rings within a rectangle

inside_by : (m n : ℕ) (t : Bool) → t ≡ true → (n < m → t ≡ false) → m ≤ n
inside_by m n t h off = elim (cases_lt n m) [ inl p ↦ absurd (let e = off p in cc) | inr p ↦ p ]

rings_map : (P Q : Point → Type 0) → ((p : Point) → P p → Q p) → (rings : List (List Point)) → AllByRecursion (AllByRecursion P) rings → AllByRecursion (AllByRecursion Q) rings
rings_map P Q f rings h = all_map (AllByRecursion P) (AllByRecursion Q) (all_map P Q f) rings h

pub rings_beside : (b : Bounds) (rings : List (List Point)) (c : Point) → AllByRecursion (AllByRecursion (InBounds b)) rings → in_rings rings c ≡ true → Beside b 0 0 c
rings_beside b rings c all h =
    let west : b.west ≤ c.x = inside_by b.west c.x (in_rings rings c) h (λ out.
    rings_off (AllByRecursion (λ q. c.x < q.x)) c (ring_off (λ q. c.x < q.x) c (λ p q k l. edge_off p q c (west_down p q c k l) (west_down q p c l k))) rings
    (rings_map (InBounds b) (λ q. c.x < q.x) (λ p k. omega arith) rings all)) in
    let east : c.x ≤ b.east = inside_by c.x b.east (in_rings rings c) h (λ out.
    rings_off (AllByRecursion (λ q. q.x ≤ c.x)) c (east_ring c) rings (rings_map (InBounds b) (λ q. q.x ≤ c.x) (λ p k. omega arith) rings all)) in
    let north : b.north ≤ c.y = inside_by b.north c.y (in_rings rings c) h (λ out.
    rings_off (AllByRecursion (λ q. c.y < q.y)) c (ring_off (λ q. c.y < q.y) c (λ p q k l. edge_off p q c (off_above p q c k) (off_above q p c l))) rings
    (rings_map (InBounds b) (λ q. c.y < q.y) (λ p k. omega arith) rings all)) in
    let south : c.y ≤ b.south = inside_by c.y b.south (in_rings rings c) h (λ out.
    rings_off (AllByRecursion (λ q. q.y ≤ c.y)) c (ring_off (λ q. q.y ≤ c.y) c (λ p q k l. edge_off p q c (off_below p q c l) (off_below q p c k))) rings
    (rings_map (InBounds b) (λ q. q.y ≤ c.y) (λ p k. omega arith) rings all)) in
    record { west = omega arith; east = omega arith; north = omega arith; south = omega arith }
