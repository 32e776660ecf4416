-- What lies below a node that is not live is not clean, so a walk may pass it over.
use Rattle.std.proofs.Common.{◌≡◌, ◌≢◌, ℕ, zero, suc, ◌+◌, ◌-◌, ◌%◌, ◌<◌, ◌≤◌, Bool, true, false, ◌||◌, ◌&&◌, List, Option, Some, None, is_some, refl, sym, ap, ◌∙◌, subst, inl, inr, arith}
use Rattle.std.proofs.lemmas.Bool.{or_cases, and_parts, false_from_ne_true}
use Rattle.farm_history.specs.declared.keys.Key.{Key}
use Rattle.farm_history.specs.Plans.{same_key}
use Rattle.farm_history.proofs.Lists.{each-all, each-map, same_key-true}
use Rattle.expiry_lists.specs.Marks.{Shown}
use Rattle.expiry_lists.specs.inner.Nodes.{Node, NodeTable, parent, place_of, bit_of, has_bit, at_bits, is_clean, spot_of, live_word, lives_at, shown_of, IsTree, Quieter}
use Rattle.expiry_lists.specs.inner.Walks.{child, is_under, under_bits, IsNode, Walks}
use Rattle.expiry_lists.specs.declared.table.Spot.{Spot}
use Rattle.expiry_lists.proofs.Bits.{no_bit}
use Rattle.expiry_lists.proofs.Dirtying.{NoneOf}
use Rattle.expiry_lists.proofs.Walked.{walks_agree}
use Rattle.expiry_lists.proofs.Finding.{Distinct, Marked, all_marked}
use Rattle.expiry_lists.proofs.Quarters.{parent-child, child-parent}

-- a key of a square of the grid, from zoom 3 on
pub record OnGrid (k : Key) : Type 0 where
  pub deep : 3 ≤ k.meta.z
  pub x_eights : k.meta.x % 8 ≡ 0
  pub y_eights : k.meta.y % 8 ≡ 0

pub node_on_grid : (k : Key) → IsNode k → OnGrid k
node_on_grid k node = record { deep = node.deep; x_eights = node.meta.x_eights; y_eights = node.meta.y_eights }

pub child_on_grid : (k : Key) (j : ℕ) → OnGrid k → OnGrid (child j k)
child_on_grid k j grid = record { deep = omega (arith, grid.deep); x_eights = omega (arith, grid.x_eights); y_eights = omega (arith, grid.y_eights) }

-- what holds of each quarter and of the key itself holds wherever a walk goes
pub under_cases : {Q : Type 0} (n : ℕ) (top k : Key) → ((j : ℕ) → j < 4 → is_under n (child j top) k ≡ true → Q) → (same_key top k ≡ true → Q) → is_under (suc n) top k ≡ true → Q
unfolding is_under
under_cases {Q} n top k below own under = elim (or_cases _ (same_key top k) under) [ inl rest ↦ three rest | inr same ↦ own same ]
  where
    one : is_under n (child 0 top) k || is_under n (child 1 top) k ≡ true → Q
    one h = elim (or_cases (is_under n (child 0 top) k) (is_under n (child 1 top) k) h) [ inl a ↦ below 0 (omega arith) a | inr b ↦ below 1 (omega arith) b ]

    two : (is_under n (child 0 top) k || is_under n (child 1 top) k) || is_under n (child 2 top) k ≡ true → Q
    two h = elim (or_cases (is_under n (child 0 top) k || is_under n (child 1 top) k) (is_under n (child 2 top) k) h) [ inl a ↦ one a | inr b ↦ below 2 (omega arith) b ]

    three : ((is_under n (child 0 top) k || is_under n (child 1 top) k) || is_under n (child 2 top) k) || is_under n (child 3 top) k ≡ true → Q
    three h = elim (or_cases ((is_under n (child 0 top) k || is_under n (child 1 top) k) || is_under n (child 2 top) k) (is_under n (child 3 top) k) h) [ inl a ↦ two a | inr b ↦ below 3 (omega arith) b ]

-- what is under a key is of its map, and of its zoom or a later one
pub under_deep : (n : ℕ) (top k : Key) → is_under n top k ≡ true → (top.map ≡ k.map) × (top.meta.z ≤ k.meta.z)
unfolding is_under
under_deep zero top k under = let own : top ≡ k = same_key-true top k under in (ap (λ (x : Key). x.map) own, omega (arith, ap (λ (x : Key). x.meta.z) own))
under_deep (suc n) top k under =
    under_cases n top k (λ j quarter below. let ih = under_deep n (child j top) k below in (ih.0, omega (arith, ih.1)))
    (λ same. let own : top ≡ k = same_key-true top k same in (ap (λ (x : Key). x.map) own, omega (arith, ap (λ (x : Key). x.meta.z) own))) under

-- where something live is under a place, the place is live
pub under_live : (es : List (Key × Node)) (ss : List (Key × Spot)) → IsTree es ss → (n : ℕ) (top p : Key) (b : ℕ) → OnGrid top → is_under n top p ≡ true → lives_at ss p b ≡ true → lives_at ss top b ≡ true
unfolding is_under
under_live es ss tree zero top p b grid under live = ap (λ (x : Key). lives_at ss x b) (same_key-true top p under) ∙ live
under_live es ss tree (suc n) top p b grid under live =
    under_cases n top p
    (λ j quarter below.
    let ih : lives_at ss (child j top) b ≡ true = under_live es ss tree n (child j top) p b (child_on_grid top j grid) below live in
    let up : lives_at ss (parent (child j top)) b ≡ true = tree.rises (child j top) b (omega (arith, grid.deep)) ih in
    sym (ap (λ (x : Key). lives_at ss x b) (parent-child top j grid.x_eights grid.y_eights quarter)) ∙ up)
    (λ same. ap (λ (x : Key). lives_at ss x b) (same_key-true top p same) ∙ live)
    under

-- so no clean one of the mask is under a place where none of it is live
pub none_under : (es : List (Key × Node)) (ss : List (Key × Spot)) → Distinct es → IsTree es ss → (n : ℕ) (top : Key) (mask : ℕ) → OnGrid top → ((b : ℕ) → has_bit mask b ≡ true → lives_at ss top b ≡ false) → NoneOf (under_bits n top mask) (shown_of es)
none_under es ss apart tree n top mask grid still = each-map (Marked es) _ (shown_of es) at (all_marked es apart)
  where
    at : (s : Shown) → Marked es s → s.mark.clean ≡ true → under_bits n top mask s.key ≡ false
    at s is clean = false_from_ne_true (under_bits n top mask s.key) (λ both.
        let parts = and_parts (is_under n top (place_of s.key)) (has_bit mask (bit_of s.key)) both in
        let deep : 3 ≤ s.key.meta.z = omega (arith, grid.deep, (under_deep n top (place_of s.key) parts.0).1) in
        let live : lives_at ss (place_of s.key) (bit_of s.key) ≡ true = tree.clean_live s.key deep (ap is_clean is ∙ clean) in
        let never : true ≡ false = sym (under_live es ss tree n top (place_of s.key) (bit_of s.key) grid parts.0 live) ∙ still (bit_of s.key) parts.1 in
        cc)

-- what is live has a spot
pub live_there : (o : Option Spot) (b : ℕ) → has_bit (live_word o) b ≡ true → is_some o ≡ true
live_there None b live = let never : false ≡ true = sym (no_bit b) ∙ live in cc
live_there (Some s) b live = refl

-- a fact of each quarter
pub four : (P : ℕ → Type 0) → P 0 → P 1 → P 2 → P 3 → (j : ℕ) → j < 4 → P j
four P a b c d zero small = a
four P a b c d (suc zero) small = b
four P a b c d (suc (suc zero)) small = c
four P a b c d (suc (suc (suc zero))) small = d
four P a b c d (suc (suc (suc (suc j)))) small = absurd (omega (arith, small))

-- where no quarter is live, nothing live stands right below
pub quiet_below : (es : List (Key × Node)) (ss : List (Key × Spot)) → IsTree es ss → (top : Key) (b : ℕ) → ((j : ℕ) → j < 4 → lives_at ss (child j top) b ≡ false) → (p : Key) → 3 < p.meta.z → lives_at ss p b ≡ true → parent p ≢ top
quiet_below es ss tree top b quiet p below live up =
    let meta = tree.places p (live_there (spot_of ss p) b live) in
    let quarter = child-parent p below meta.x_eights meta.y_eights in
    let own : child quarter.0 top ≡ p = sym (ap (child quarter.0) up) ∙ quarter.2 in
    let still : lives_at ss p b ≡ false = sym (ap (λ (x : Key). lives_at ss x b) own) ∙ quiet quarter.0 quarter.1 in
    let never : true ≡ false = sym live ∙ still in
    cc

-- a place that is not live stays so
pub still_quiet : (old new : List (Key × Spot)) → Quieter old new → (p : Key) (b : ℕ) → lives_at old p b ≡ false → lives_at new p b ≡ false
still_quiet old new quieter p b still = false_from_ne_true (lives_at new p b) (λ live. let never : true ≡ false = sym (quieter p b live) ∙ still in cc)

-- a walk from a quarter
pub quarter_walks : {a b : NodeTable} {m : ℕ} (top r : Key) (mask j : ℕ) → r ≡ child j top → Walks (under_bits (18 - r.meta.z) r mask) a b m → Walks (under_bits (17 - top.meta.z) (child j top) mask) a b m
quarter_walks {a} {b} {m} top r mask j is w =
    let depth : 18 - (top.meta.z + 1) ≡ 17 - top.meta.z = omega arith in
    subst (λ n. Walks (under_bits n (child j top) mask) a b m) depth (subst (λ (x : Key). Walks (under_bits (18 - x.meta.z) x mask) a b m) is w)

five_masks : (p q r s own has : Bool) → (((((p && has) || (q && has)) || (r && has)) || (s && has)) || (own && has)) ≡ (((((p || q) || r) || s) || own) && has)
five_masks p q r s own has = grind arith

-- the four quarters and the place itself
pub all_below : {a b : NodeTable} {m : ℕ} (top : Key) (mask : ℕ) → top.meta.z < 18 →
    Walks (λ k. (((under_bits (17 - top.meta.z) (child 0 top) mask k || under_bits (17 - top.meta.z) (child 1 top) mask k) || under_bits (17 - top.meta.z) (child 2 top) mask k) || under_bits (17 - top.meta.z) (child 3 top) mask k) || at_bits top mask k) a b m →
    Walks (under_bits (18 - top.meta.z) top mask) a b m
unfolding is_under
all_below {a} {b} {m} top mask above w =
    let depth : suc (17 - top.meta.z) ≡ 18 - top.meta.z = omega (arith, above) in
    subst (λ n. Walks (under_bits n top mask) a b m) depth
    (walks_agree (under_bits (suc (17 - top.meta.z)) top mask) (each-all _ (shown_of a.entries) (λ s clean. five_masks _ _ _ _ (same_key top (place_of s.key)) (has_bit mask (bit_of s.key)))) w)
