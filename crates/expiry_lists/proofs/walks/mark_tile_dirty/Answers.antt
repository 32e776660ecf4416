use Rattle.std.proofs.Common.{◌+◌, ◌-◌, ◌^◌, ◌&&◌, ◌||◌, arith}
use Rattle.farm_history.specs.Plans.{overlaps}
use Rattle.expiry_lists.specs.Marks.{is_of_map}
use Rattle.expiry_lists.specs.inner.Nodes.{bit_of, has_bit, place_of}
use Rattle.expiry_lists.specs.inner.Tiles.{is_flat}
use Rattle.expiry_lists.specs.inner.Walks.{under_bits, above_bits, Walks}
use Rattle.expiry_lists.proofs.Walked.{walks_then, walks_agree, walks_few}
use Rattle.expiry_lists.proofs.Tiles.{agree_metas, tile_bits}
use Rattle.expiry_lists.proofs.walks.mark_tile_dirty.Goals as goal
use Rattle.expiry_lists.proofs.walks.mark_tile_dirty.Goals.{After-mark_below_dirty-below}

module _ (c : After-mark_below_dirty-below) where
  two : Walks (λ k. (is_flat c.args.group (place_of k) && has_bit (2 ^ 64 - 1) (bit_of k)) || above_bits (c.key_over-top.result.meta.z - 3) c.key_over-top.result (2 ^ 64 - 1) k) c.args.nodes.now c.mark_above_dirty-above.new.nodes (c.mark_flat_dirty-flat.result + c.mark_above_dirty-above.result)
  two = walks_then c.mark_flat_dirty-flat.ensures.walks c.mark_above_dirty-above.ensures.walks

  three : Walks (λ k. ((is_flat c.args.group (place_of k) && has_bit (2 ^ 64 - 1) (bit_of k)) || above_bits (c.key_over-top.result.meta.z - 3) c.key_over-top.result (2 ^ 64 - 1) k) || under_bits (18 - c.key_over-top.result.meta.z) c.key_over-top.result (2 ^ 64 - 1) k)
      c.args.nodes.now c.mark_below_dirty-below.new.nodes (c.mark_flat_dirty-flat.result + c.mark_above_dirty-above.result + c.mark_below_dirty-below.result)
  three = walks_then two c.mark_below_dirty-below.ensures.walks

pub mark_above_dirty-above-requires-clause-tree : goal.mark_above_dirty-above-requires-clause-tree
mark_above_dirty-above-requires-clause-tree c = c.mark_flat_dirty-flat.ensures.walks.tree

pub mark_below_dirty-below-requires-clause-tree : goal.mark_below_dirty-below-requires-clause-tree
mark_below_dirty-below-requires-clause-tree c = c.mark_above_dirty-above.ensures.walks.tree

pub overflow_add-result : goal.overflow_add-result
overflow_add-result c = omega (arith, walks_few (two c), c.len-count.ensures.small, c.len-count.ensures.len)

pub overflow_add-result-2 : goal.overflow_add-result-2
overflow_add-result-2 c = omega (arith, walks_few (three c), c.len-count.ensures.small, c.len-count.ensures.len)

pub returns : goal.returns
returns c = record {
  walks = walks_agree (λ k. is_of_map c.args.group (place_of k) && overlaps c.args.t k)
      (agree_metas c.args.nodes.now.entries c.args.nodes.now.spots c.len-count.ensures.unique c.requires.tree _ (λ k. is_of_map c.args.group (place_of k) && overlaps c.args.t k)
      (λ k meta. tile_bits c.args.group c.args.t c.key_over-top.result k c.key_over-top.ensures.value c.key_over-top.ensures.node c.requires.tile meta))
      (three c);
}
