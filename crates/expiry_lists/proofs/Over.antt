-- The walks against the quadtree of squares: what a walk down or up meets is what lies below or above.
use Rattle.std.proofs.Common.{◌≡◌, ℕ, zero, suc, ◌+◌, ◌-◌, ◌*◌, ◌/◌, ◌%◌, ◌^◌, ◌<◌, ◌≤◌, true, false, ◌||◌, nat_le, refl, sym, ap, ◌∙◌, inl, inr, ◌⊎◌, arith}
use Rattle.std.proofs.lemmas.Bool.{or_cases, or_left, or_right, cases_lt}
use Rattle.std.proofs.lemmas.Bool.Decides.{nat_tests, same_from_decides}
use Rattle.std.proofs.lemmas.Nat.{shr-shr}
use Rattle.plain_world.specs.declared.world.Square.{Square}
use Rattle.plain_world.specs.World.{IsMeta, meta_square, squares_meet}
use Rattle.plain_world.specs.Ancestors.{IsOver}
use Rattle.merc_fixed.proofs.Ancestors.{meet_over, meet_under}
use Rattle.farm_history.specs.declared.keys.Key.{Key}
use Rattle.farm_history.specs.Plans.{same_key}
use Rattle.farm_history.proofs.Lists.{same_key-true, same_key-self}
use Rattle.expiry_lists.specs.inner.Nodes.{parent}
use Rattle.expiry_lists.specs.inner.Walks.{child, is_under, is_above, IsNode}
use Rattle.expiry_lists.proofs.Live.{OnGrid, node_on_grid, child_on_grid, under_cases, four}

-- the square of a key of zoom 3 or later
abbrev pub node_square : Key → Square
node_square k = record { z = k.meta.z - 3; x = k.meta.x / 8; y = k.meta.y / 8 }

pub meta_square-node : (k : Key) → 3 ≤ k.meta.z → meta_square k.meta ≡ node_square k
meta_square-node k deep = let test : nat_le 3 k.meta.z ≡ true = grind (arith, nat_tests) in rw test refl

-- a halving more, at the end or at the start
halved : (n d : ℕ) → n / 2 ^ suc d ≡ n / 2 ^ d / 2
halved n d = let e : d + 1 ≡ suc d = omega arith in ap (λ m. n / 2 ^ m) (sym e) ∙ sym (shr-shr n d 1)

halved_first : (n d : ℕ) → n / 2 ^ suc d ≡ n / 2 / 2 ^ d
halved_first n d = let e : 1 + d ≡ suc d = omega arith in ap (λ m. n / 2 ^ m) (sym e) ∙ sym (shr-shr n 1 d)

-- low lies d zooms below high
pub record Below (d : ℕ) (high low : Key) : Type 0 where
  pub same_map : high.map ≡ low.map
  pub zoom : low.meta.z ≡ high.meta.z + d
  pub column : low.meta.x / 8 / 2 ^ d ≡ high.meta.x / 8
  pub row : low.meta.y / 8 / 2 ^ d ≡ high.meta.y / 8

same_below : (a b : Key) → a ≡ b → Below 0 a b
same_below a b own = record {
  same_map = ap (λ (k : Key). k.map) own;
  zoom = omega (arith, ap (λ (k : Key). k.meta.z) own);
  column = omega (arith, ap (λ (k : Key). k.meta.x) own);
  row = omega (arith, ap (λ (k : Key). k.meta.y) own);
}

pub below_over : (d : ℕ) (high low : Key) → 3 ≤ high.meta.z → Below d high low → IsOver (node_square high) (node_square low)
below_over d high low deep b = (d, omega (arith, deep, b.zoom), b.column, b.row)

pub over_below : (high low : Key) → 3 ≤ high.meta.z → 3 ≤ low.meta.z → high.map ≡ low.map → IsOver (node_square high) (node_square low) → (d : ℕ) × Below d high low
over_below high low deep also maps (d, z, x, y) = (d, record { same_map = maps; zoom = omega (arith, z, deep, also); column = x; row = y })

-- some zooms below
abbrev pub Below-of : Key → Key → Type 0
Below-of high low = (d : ℕ) × Below d high low

-- What a walk down meets lies below,
pub under_below : (n : ℕ) (top k : Key) → OnGrid top → is_under n top k ≡ true → (d : ℕ) × (d ≤ n) × Below d top k
unfolding is_under
under_below zero top k grid under = (0, omega arith, same_below top k (same_key-true top k under))
under_below (suc n) top k grid under =
    under_cases n top k
    (λ j quarter below. step j quarter (under_below n (child j top) k (child_on_grid top j grid) below))
    (λ same. (0, omega arith, same_below top k (same_key-true top k same))) under
  where
    step : (j : ℕ) → j < 4 → (d : ℕ) × (d ≤ n) × Below d (child j top) k → (d : ℕ) × (d ≤ suc n) × Below d top k
    step j quarter (d, few, b) = (
      suc d,
      omega (arith, few),
      record {
        same_map = b.same_map;
        zoom = omega (arith, b.zoom);
        column = halved (k.meta.x / 8) d ∙ omega (arith, b.column, grid.x_eights);
        row = halved (k.meta.y / 8) d ∙ omega (arith, b.row, grid.y_eights, quarter);
      },
    )

-- and all that lies at most n zooms below is met.
same_from_eights : (a b : Key) → OnGrid a → OnGrid b → Below 0 a b → a ≡ b
same_from_eights a b ga gb below =
    let z : a.meta.z ≡ b.meta.z = omega (arith, below.zoom) in
    let x : a.meta.x ≡ b.meta.x = omega (arith, below.column, ga.x_eights, gb.x_eights) in
    let y : a.meta.y ≡ b.meta.y = omega (arith, below.row, ga.y_eights, gb.y_eights) in
    λ i. record { map = below.same_map i; meta = record { z = z i; x = x i; y = y i } }

under_own : (n : ℕ) (top k : Key) → top ≡ k → is_under n top k ≡ true
unfolding is_under
under_own zero top k own = ap (same_key top) (sym own) ∙ same_key-self top
under_own (suc n) top k own = or_right _ (same_key top k) (ap (same_key top) (sym own) ∙ same_key-self top)

under_quarter : (n : ℕ) (top k : Key) (j : ℕ) → j < 4 → is_under n (child j top) k ≡ true → is_under (suc n) top k ≡ true
unfolding is_under
under_quarter n top k j quarter below = or_left _ (same_key top k) (four (λ i. is_under n (child i top) k ≡ true → ((is_under n (child 0 top) k || is_under n (child 1 top) k) || is_under n (child 2 top) k) || is_under n (child 3 top) k ≡ true) (λ h. zeroth h) (λ h. first h) (λ h. second h) (λ h. third h) j quarter below)
  where
    zeroth : is_under n (child 0 top) k ≡ true → ((is_under n (child 0 top) k || is_under n (child 1 top) k) || is_under n (child 2 top) k) || is_under n (child 3 top) k ≡ true
    zeroth h = or_left _ (is_under n (child 3 top) k) (or_left _ (is_under n (child 2 top) k) (or_left _ (is_under n (child 1 top) k) h))

    first : is_under n (child 1 top) k ≡ true → ((is_under n (child 0 top) k || is_under n (child 1 top) k) || is_under n (child 2 top) k) || is_under n (child 3 top) k ≡ true
    first h = or_left _ (is_under n (child 3 top) k) (or_left _ (is_under n (child 2 top) k) (or_right (is_under n (child 0 top) k) _ h))

    second : is_under n (child 2 top) k ≡ true → ((is_under n (child 0 top) k || is_under n (child 1 top) k) || is_under n (child 2 top) k) || is_under n (child 3 top) k ≡ true
    second h = or_left _ (is_under n (child 3 top) k) (or_right (is_under n (child 0 top) k || is_under n (child 1 top) k) _ h)

    third : is_under n (child 3 top) k ≡ true → ((is_under n (child 0 top) k || is_under n (child 1 top) k) || is_under n (child 2 top) k) || is_under n (child 3 top) k ≡ true
    third h = or_right ((is_under n (child 0 top) k || is_under n (child 1 top) k) || is_under n (child 2 top) k) _ h

pub below_under : (n : ℕ) (top k : Key) (d : ℕ) → OnGrid top → OnGrid k → d ≤ n → Below d top k → is_under n top k ≡ true
below_under n top k zero grid also few b = under_own n top k (same_from_eights top k grid also b)
below_under zero top k (suc e) grid also few b = absurd (omega (arith, few))
below_under (suc n) top k (suc e) grid also few b =
    let q : ℕ = k.meta.x / 8 / 2 ^ e in
    let r : ℕ = k.meta.y / 8 / 2 ^ e in
    let j : ℕ = q % 2 + 2 * (r % 2) in
    let x : q / 2 ≡ top.meta.x / 8 = sym (halved (k.meta.x / 8) e) ∙ b.column in
    let y : r / 2 ≡ top.meta.y / 8 = sym (halved (k.meta.y / 8) e) ∙ b.row in
    let quarter : j < 4 = omega arith in
    let below : Below e (child j top) k = record {
      same_map = b.same_map;
      zoom = omega (arith, b.zoom);
      column = omega (arith, x, grid.x_eights);
      row = omega (arith, y, grid.y_eights);
    } in
    under_quarter n top k j quarter (below_under n (child j top) k e (child_on_grid top j grid) also (omega (arith, few)) below)

-- What a walk up meets lies above,
pub above_below : (n : ℕ) (low k : Key) → n + 3 ≤ low.meta.z → is_above n low k ≡ true → (d : ℕ) × (0 < d) × (d ≤ n) × Below d k low
unfolding is_above
above_below zero low k deep above = let never : false ≡ true = above in cc
above_below (suc n) low k deep above =
    elim (or_cases (is_above n (parent low) k) (same_key (parent low) k) above) [
      | inl higher ↦ step (above_below n (parent low) k (omega (arith, deep)) higher)
      | inr same ↦ one (same_key-true (parent low) k same)
    ]
  where
    step : (d : ℕ) × (0 < d) × (d ≤ n) × Below d k (parent low) → (d : ℕ) × (0 < d) × (d ≤ suc n) × Below d k low
    step (d, some, few, b) =
        let x : low.meta.x / 16 * 8 / 8 ≡ low.meta.x / 8 / 2 = omega arith in
        let y : low.meta.y / 16 * 8 / 8 ≡ low.meta.y / 8 / 2 = omega arith in (
          suc d,
          omega arith,
          omega (arith, few),
          record {
            same_map = b.same_map;
            zoom = omega (arith, b.zoom, deep);
            column = halved_first (low.meta.x / 8) d ∙ (ap (λ m. m / 2 ^ d) (sym x) ∙ b.column);
            row = halved_first (low.meta.y / 8) d ∙ (ap (λ m. m / 2 ^ d) (sym y) ∙ b.row);
          },
        )

    one : parent low ≡ k → (d : ℕ) × (0 < d) × (d ≤ suc n) × Below d k low
    one own =
        let x : low.meta.x / 8 / 2 ^ 1 ≡ k.meta.x / 8 = omega (arith, ap (λ (m : Key). m.meta.x) own) in
        let y : low.meta.y / 8 / 2 ^ 1 ≡ k.meta.y / 8 = omega (arith, ap (λ (m : Key). m.meta.y) own) in (
          1,
          omega arith,
          omega arith,
          record {
            same_map = sym (ap (λ (m : Key). m.map) own);
            zoom = omega (arith, ap (λ (m : Key). m.meta.z) own, deep);
            column = x;
            row = y;
          },
        )

-- and all that lies at most n zooms above is met.
pub below_above : (n : ℕ) (low k : Key) (d : ℕ) → n + 3 ≤ low.meta.z → OnGrid k → 0 < d → d ≤ n → Below d k low → is_above n low k ≡ true
unfolding is_above
below_above n low k zero deep grid some few b = absurd (omega (arith, some))
below_above zero low k (suc d) deep grid some few b = absurd (omega (arith, few))
below_above (suc n) low k (suc zero) deep grid some few b =
    let x : low.meta.x / 16 * 8 ≡ k.meta.x = omega (arith, b.column, grid.x_eights) in
    let y : low.meta.y / 16 * 8 ≡ k.meta.y = omega (arith, b.row, grid.y_eights) in
    let z : low.meta.z - 1 ≡ k.meta.z = omega (arith, b.zoom) in
    let own : parent low ≡ k = λ i. record { map = sym b.same_map i; meta = record { z = z i; x = x i; y = y i } } in
    or_right _ (same_key (parent low) k) (ap (same_key (parent low)) (sym own) ∙ same_key-self (parent low))
below_above (suc n) low k (suc (suc e)) deep grid some few b =
    let x : low.meta.x / 16 * 8 / 8 ≡ low.meta.x / 8 / 2 = omega arith in
    let y : low.meta.y / 16 * 8 / 8 ≡ low.meta.y / 8 / 2 = omega arith in
    let higher : Below (suc e) k (parent low) = record {
      same_map = b.same_map;
      zoom = omega (arith, b.zoom);
      column = ap (λ m. m / 2 ^ suc e) x ∙ (sym (halved_first (low.meta.x / 8) (suc e)) ∙ b.column);
      row = ap (λ m. m / 2 ^ suc e) y ∙ (sym (halved_first (low.meta.y / 8) (suc e)) ∙ b.row);
    } in
    or_left _ (same_key (parent low) k) (below_above n (parent low) k (suc e) (omega (arith, deep)) grid (omega arith) (omega (arith, few)) higher)

-- So the walk up from a key and the walk down from it meet exactly what overlaps it.
pub around_meets : (top k : Key) → IsNode top → 3 ≤ k.meta.z → IsMeta k.meta → top.map ≡ k.map → (is_above (top.meta.z - 3) top k || is_under (18 - top.meta.z) top k) ≡ squares_meet (node_square top) (node_square k)
around_meets top k node deep meta maps = same_from_decides _ _ (there, back) (λ h. h, λ h. h)
  where
    grid : OnGrid k
    grid = record { deep = deep; x_eights = meta.x_eights; y_eights = meta.y_eights }

    own : OnGrid top
    own = node_on_grid top node

    small : (node_square top).z ≤ 18
    small = omega (arith, node.meta.z_fits)

    also : (node_square k).z ≤ 18
    also = omega (arith, meta.z_fits)

    either : (IsOver (node_square top) (node_square k) ⊎ IsOver (node_square k) (node_square top)) → squares_meet (node_square top) (node_square k) ≡ true
    either e = elim (cases_lt k.meta.z top.meta.z) [
      | inl less ↦ (meet_under (node_square top) (node_square k) small also (omega (arith, less))).1 e
      | inr more ↦ (meet_over (node_square top) (node_square k) small also (omega (arith, more))).1 e
    ]

    there : (is_above (top.meta.z - 3) top k || is_under (18 - top.meta.z) top k) ≡ true → squares_meet (node_square top) (node_square k) ≡ true
    there h = elim (or_cases (is_above (top.meta.z - 3) top k) (is_under (18 - top.meta.z) top k) h) [
      | inl above ↦ (let found = above_below (top.meta.z - 3) top k (omega (arith, node.deep)) above in either (inr (below_over found.0 k top deep found.3)))
      | inr under ↦ (let found = under_below (18 - top.meta.z) top k own under in either (inl (below_over found.0 top k node.deep found.2)))
    ]

    down : Below-of top k → (is_above (top.meta.z - 3) top k || is_under (18 - top.meta.z) top k) ≡ true
    down (d, b) = or_right (is_above (top.meta.z - 3) top k) _ (below_under (18 - top.meta.z) top k d own grid (omega (arith, b.zoom, meta.z_fits)) b)

    up : Below-of k top → (is_above (top.meta.z - 3) top k || is_under (18 - top.meta.z) top k) ≡ true
    up (zero, b) = down (0, same_below top k (sym (same_from_eights k top grid own b)))
    up (suc d, b) = or_left _ (is_under (18 - top.meta.z) top k) (below_above (top.meta.z - 3) top k (suc d) (omega (arith, node.deep)) grid (omega arith) (omega (arith, b.zoom, deep)) b)

    back : squares_meet (node_square top) (node_square k) ≡ true → (is_above (top.meta.z - 3) top k || is_under (18 - top.meta.z) top k) ≡ true
    back h = elim (cases_lt k.meta.z top.meta.z) [
      | inl less ↦ split ((meet_under (node_square top) (node_square k) small also (omega (arith, less))).0 h)
      | inr more ↦ split ((meet_over (node_square top) (node_square k) small also (omega (arith, more))).0 h)
    ]
      where
        split : (IsOver (node_square top) (node_square k) ⊎ IsOver (node_square k) (node_square top)) → (is_above (top.meta.z - 3) top k || is_under (18 - top.meta.z) top k) ≡ true
        split (inl over) = down (over_below top k node.deep deep maps over)
        split (inr over) = up (over_below k top deep node.deep (sym maps) over)
