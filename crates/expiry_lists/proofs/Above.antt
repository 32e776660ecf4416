-- Walks up to the root.
use Rattle.std.proofs.Common.{◌≡◌, ℕ, suc, ◌+◌, ◌-◌, ◌<◌, ◌||◌, ◌&&◌, refl, subst, arith, sym}
use Rattle.std.proofs.Math.Bool.{and-or_distrib_right}
use Rattle.farm_history.specs.declared.keys.Key.{Key}
use Rattle.farm_history.specs.Plans.{same_key}
use Rattle.farm_history.proofs.Lists.{each-all}
use Rattle.expiry_lists.specs.inner.Nodes.{NodeTable, parent, place_of, bit_of, has_bit, at_bits, shown_of, IsTree}
use Rattle.expiry_lists.specs.inner.Walks.{is_above, above_bits, Walks}
use Rattle.expiry_lists.proofs.Walked.{walks_then, walks_agree, walks_none}

-- nothing is above by no zoom
pub none_above : (a : NodeTable) (low : Key) (mask : ℕ) → IsTree a.entries a.spots → Walks (above_bits 0 low mask) a a 0
unfolding is_above
none_above a low mask tree = walks_none (above_bits 0 low mask) a (each-all _ (shown_of a.entries) (λ s clean. refl)) tree

-- what is above the place above, and that place
pub above_walks : {a b c : NodeTable} {m n : ℕ} (low up : Key) (mask : ℕ) → up ≡ parent low → 3 < low.meta.z → Walks (above_bits (up.meta.z - 3) up mask) a b m → Walks (at_bits up mask) b c n →
    Walks (above_bits (low.meta.z - 3) low mask) a c (m + n)
unfolding is_above
above_walks {a} {b} {c} {m} {n} low up mask is deep above own =
    let depth : suc (low.meta.z - 1 - 3) ≡ low.meta.z - 3 = omega (arith, deep) in
    let both = walks_agree (λ k. (is_above (up.meta.z - 3) up (place_of k) || same_key up (place_of k)) && has_bit mask (bit_of k))
    (each-all _ (shown_of a.entries) (λ s clean. sym (and-or_distrib_right (is_above (up.meta.z - 3) up (place_of s.key)) (same_key up (place_of s.key)) (has_bit mask (bit_of s.key))))) (walks_then above own) in
    subst (λ d. Walks (above_bits d low mask) a c (m + n)) depth
    (subst (λ (x : Key). Walks (λ k. (is_above (x.meta.z - 3) x (place_of k) || same_key x (place_of k)) && has_bit mask (bit_of k)) a c (m + n)) is both)
