use Rattle.std.proofs.Common.{◌≡◌, ℕ, ◌+◌, ◌-◌, ◌<◌, false, ◌||◌, sym, ap, ◌∙◌, subst, arith}
use Rattle.farm_history.specs.declared.keys.Key.{Key}
use Rattle.expiry_lists.specs.inner.Nodes.{lives_at}
use Rattle.expiry_lists.specs.inner.Walks.{child, is_under, under_bits, Walks}
use Rattle.expiry_lists.proofs.Bits.{none_live}
use Rattle.expiry_lists.proofs.Walked.{walks_then, walks_none, walks_few}
use Rattle.expiry_lists.proofs.Live.{node_on_grid, none_under, quiet_below, still_quiet, live_there, four, quarter_walks, all_below}
use Rattle.expiry_lists.proofs.walks.+mark_below_dirty.Goals as goal
use Rattle.expiry_lists.proofs.walks.+mark_below_dirty.Goals.{After-settle_place-own}

pub settle_place-requires-clause-quiet_below : goal.settle_place-requires-clause-quiet_below
settle_place-requires-clause-quiet_below t c = λ p b deep masked live up. absurd (omega (arith, (c.requires.tree.places p (live_there _ b live)).z_fits, deep, c.if-top-eq-LAST_ZOOM.true, ap (λ (x : Key). x.meta.z) up))

pub returns-then-top-eq-LAST_ZOOM-clause-walks : goal.returns-then-top-eq-LAST_ZOOM-clause-walks
unfolding is_under
returns-then-top-eq-LAST_ZOOM-clause-walks t c =
    let depth : 0 ≡ 18 - c.args.top.meta.z = omega (arith, c.if-top-eq-LAST_ZOOM.true) in
    subst (λ n. Walks (under_bits n c.args.top c.args.mask) c.args.nodes.now c.settle_place.new.nodes c.settle_place.result) depth c.settle_place.ensures.walks

pub returns-then-not-is_live-clause-walks : goal.returns-then-not-is_live-clause-walks
returns-then-not-is_live-clause-walks t c =
    walks_none _ c.args.nodes.now
    (none_under c.args.nodes.now.entries c.args.nodes.now.spots c.len-count.ensures.unique c.requires.tree _ c.args.top c.args.mask (node_on_grid c.args.top c.requires.node) (none_live _ c.args.mask (sym c.is_live.ensures ∙ c.if-not-is_live.true)))
    c.requires.tree

pub returns-then-not-is_live-clause-quiet : goal.returns-then-not-is_live-clause-quiet
returns-then-not-is_live-clause-quiet t c = none_live _ c.args.mask (sym c.is_live.ensures ∙ c.if-not-is_live.true)

-- none of the four quarters is live when the place itself is settled
pub settle_place-own-requires-clause-quiet_below : goal.settle_place-own-requires-clause-quiet_below
settle_place-own-requires-clause-quiet_below t c = λ p b deep masked live.
    let top = c.args.top in
    let first = c.mark_below_dirty-first.new.nodes.spots in
    let second = c.mark_below_dirty-second.new.nodes.spots in
    let third = c.mark_below_dirty-third.new.nodes.spots in
    let fourth = c.mark_below_dirty-fourth.new.nodes.spots in
    let quiet_0 : lives_at first (child 0 top) b ≡ false = sym (ap (λ (x : Key). lives_at first x b) c.child.ensures.value) ∙ c.mark_below_dirty-first.ensures.quiet b masked in
    let quiet_1 : lives_at second (child 1 top) b ≡ false = sym (ap (λ (x : Key). lives_at second x b) c.child-2.ensures.value) ∙ c.mark_below_dirty-second.ensures.quiet b masked in
    let quiet_2 : lives_at third (child 2 top) b ≡ false = sym (ap (λ (x : Key). lives_at third x b) c.child-3.ensures.value) ∙ c.mark_below_dirty-third.ensures.quiet b masked in
    let quiet_3 : lives_at fourth (child 3 top) b ≡ false = sym (ap (λ (x : Key). lives_at fourth x b) c.child-4.ensures.value) ∙ c.mark_below_dirty-fourth.ensures.quiet b masked in
    let after_1 = c.mark_below_dirty-second.ensures.walks.quieter in
    let after_2 = c.mark_below_dirty-third.ensures.walks.quieter in
    let after_3 = c.mark_below_dirty-fourth.ensures.walks.quieter in
    quiet_below c.mark_below_dirty-fourth.new.nodes.entries fourth c.mark_below_dirty-fourth.ensures.walks.tree top b
    (four (λ j. lives_at fourth (child j top) b ≡ false)
    (still_quiet third fourth after_3 (child 0 top) b (still_quiet second third after_2 (child 0 top) b (still_quiet first second after_1 (child 0 top) b quiet_0)))
    (still_quiet third fourth after_3 (child 1 top) b (still_quiet second third after_2 (child 1 top) b quiet_1))
    (still_quiet third fourth after_3 (child 2 top) b quiet_2)
    quiet_3) p deep live

module _ (t : ℕ) (c : After-settle_place-own t) where
  two : Walks (λ k. under_bits (17 - c.args.top.meta.z) (child 0 c.args.top) c.args.mask k || under_bits (17 - c.args.top.meta.z) (child 1 c.args.top) c.args.mask k) c.args.nodes.now c.mark_below_dirty-second.new.nodes (c.mark_below_dirty-first.result + c.mark_below_dirty-second.result)
  two = walks_then
      (quarter_walks c.args.top c.child.result c.args.mask 0 c.child.ensures.value c.mark_below_dirty-first.ensures.walks)
      (quarter_walks c.args.top c.child-2.result c.args.mask 1 c.child-2.ensures.value c.mark_below_dirty-second.ensures.walks)

  three : Walks (λ k. (under_bits (17 - c.args.top.meta.z) (child 0 c.args.top) c.args.mask k || under_bits (17 - c.args.top.meta.z) (child 1 c.args.top) c.args.mask k) || under_bits (17 - c.args.top.meta.z) (child 2 c.args.top) c.args.mask k)
      c.args.nodes.now c.mark_below_dirty-third.new.nodes (c.mark_below_dirty-first.result + c.mark_below_dirty-second.result + c.mark_below_dirty-third.result)
  three = walks_then two (quarter_walks c.args.top c.child-3.result c.args.mask 2 c.child-3.ensures.value c.mark_below_dirty-third.ensures.walks)

  all : Walks (λ k. ((under_bits (17 - c.args.top.meta.z) (child 0 c.args.top) c.args.mask k || under_bits (17 - c.args.top.meta.z) (child 1 c.args.top) c.args.mask k) || under_bits (17 - c.args.top.meta.z) (child 2 c.args.top) c.args.mask k) || under_bits (17 - c.args.top.meta.z) (child 3 c.args.top) c.args.mask k)
      c.args.nodes.now c.mark_below_dirty-fourth.new.nodes (c.mark_below_dirty-first.result + c.mark_below_dirty-second.result + c.mark_below_dirty-third.result + c.mark_below_dirty-fourth.result)
  all = walks_then three (quarter_walks c.args.top c.child-4.result c.args.mask 3 c.child-4.ensures.value c.mark_below_dirty-fourth.ensures.walks)

  above : c.args.top.meta.z < 18
  above = omega (arith, c.requires.node.meta.z_fits, c.if-top-eq-LAST_ZOOM.false)

  whole : Walks (under_bits (18 - c.args.top.meta.z) c.args.top c.args.mask) c.args.nodes.now c.settle_place-own.new.nodes (c.mark_below_dirty-first.result + c.mark_below_dirty-second.result + c.mark_below_dirty-third.result + c.mark_below_dirty-fourth.result + c.settle_place-own.result)
  whole = all_below c.args.top c.args.mask above (walks_then all c.settle_place-own.ensures.walks)

pub overflow_add-result : goal.overflow_add-result
overflow_add-result t c = omega (arith, walks_few (two t c), c.len-count.ensures.small, c.len-count.ensures.len)

pub overflow_add-result-2 : goal.overflow_add-result-2
overflow_add-result-2 t c = omega (arith, walks_few (three t c), c.len-count.ensures.small, c.len-count.ensures.len)

pub overflow_add-result-3 : goal.overflow_add-result-3
overflow_add-result-3 t c = omega (arith, walks_few (all t c), c.len-count.ensures.small, c.len-count.ensures.len)

pub overflow_add-result-4 : goal.overflow_add-result-4
overflow_add-result-4 t c = omega (arith, walks_few (whole t c), c.len-count.ensures.small, c.len-count.ensures.len)

pub returns-clause-walks : goal.returns-clause-walks
returns-clause-walks t c = whole t c
