use Rattle.std.proofs.Common.{◌≡◌, ◌-◌, subst, arith}
use Rattle.expiry_lists.specs.inner.Walks.{above_bits, Walks}
use Rattle.expiry_lists.proofs.Walked.{walks_few}
use Rattle.expiry_lists.proofs.Above.{above_walks, none_above}
use Rattle.expiry_lists.proofs.walks.+mark_above_dirty.Goals as goal

pub returns-then-low-eq-ROOT_ZOOM : goal.returns-then-low-eq-ROOT_ZOOM
returns-then-low-eq-ROOT_ZOOM t c =
    let depth : 0 ≡ c.args.low.meta.z - 3 = omega (arith, c.if-low-eq-ROOT_ZOOM.true) in
    let old = c.args.nodes.now in
    record { walks = subst (λ n. Walks (above_bits n c.args.low c.args.mask) old old 0) depth (none_above old c.args.low c.args.mask c.requires.tree) }

pub mark_place_dirty-requires : goal.mark_place_dirty-requires
mark_place_dirty-requires t c = c.mark_above_dirty-above.ensures.walks.tree

pub overflow_add-result : goal.overflow_add-result
overflow_add-result t c =
    let few = walks_few (above_walks c.args.low c.parent-up.result c.args.mask c.parent-up.ensures.value (omega (arith, c.requires.node.deep, c.if-low-eq-ROOT_ZOOM.false)) c.mark_above_dirty-above.ensures.walks c.mark_place_dirty.ensures.walks) in
    omega (arith, few, c.len-count.ensures.small, c.len-count.ensures.len)

pub returns : goal.returns
returns t c = record {
  walks = above_walks c.args.low c.parent-up.result c.args.mask c.parent-up.ensures.value (omega (arith, c.requires.node.deep, c.if-low-eq-ROOT_ZOOM.false)) c.mark_above_dirty-above.ensures.walks c.mark_place_dirty.ensures.walks;
}
