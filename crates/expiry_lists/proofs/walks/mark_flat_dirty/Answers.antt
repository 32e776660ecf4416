use Rattle.std.proofs.Common.{◌+◌, ◌||◌, ◌&&◌, arith}
use Rattle.farm_history.proofs.Lists.{each-all}
use Rattle.expiry_lists.specs.inner.Nodes.{at_bits, bit_of, has_bit, place_of, shown_of}
use Rattle.expiry_lists.specs.inner.Tiles.{world_key, is_flat}
use Rattle.expiry_lists.specs.inner.Walks.{Walks}
use Rattle.expiry_lists.proofs.Walked.{walks_then, walks_agree, walks_few}
use Rattle.expiry_lists.proofs.Tiles.{flat_masks}
use Rattle.expiry_lists.proofs.Spots.{place_told}
use Rattle.expiry_lists.proofs.walks.mark_flat_dirty.Goals as goal
use Rattle.expiry_lists.proofs.walks.mark_flat_dirty.Goals.{After-mark_place_dirty-third}

module _ (c : After-mark_place_dirty-third) where
  two : Walks (λ k. at_bits (world_key c.args.group 0) c.args.mask k || at_bits (world_key c.args.group 1) c.args.mask k) c.args.nodes.now c.mark_place_dirty-second.new.nodes (c.mark_place_dirty-first.result + c.mark_place_dirty-second.result)
  two = walks_then (place_told c.world_key.result (world_key c.args.group 0) c.args.mask c.world_key.ensures c.mark_place_dirty-first.ensures.walks) (place_told c.world_key-2.result (world_key c.args.group 1) c.args.mask c.world_key-2.ensures c.mark_place_dirty-second.ensures.walks)

  three : Walks (λ k. is_flat c.args.group (place_of k) && has_bit c.args.mask (bit_of k)) c.args.nodes.now c.mark_place_dirty-third.new.nodes (c.mark_place_dirty-first.result + c.mark_place_dirty-second.result + c.mark_place_dirty-third.result)
  three = walks_agree (λ k. is_flat c.args.group (place_of k) && has_bit c.args.mask (bit_of k)) (each-all _ (shown_of c.args.nodes.now.entries) (λ s clean. flat_masks c.args.group c.args.mask s.key))
      (walks_then two (place_told c.world_key-3.result (world_key c.args.group 2) c.args.mask c.world_key-3.ensures c.mark_place_dirty-third.ensures.walks))

pub overflow_add-result : goal.overflow_add-result
overflow_add-result c = omega (arith, walks_few (two c), c.len-count.ensures.small, c.len-count.ensures.len)

pub overflow_add-result-2 : goal.overflow_add-result-2
overflow_add-result-2 c = omega (arith, walks_few (three c), c.len-count.ensures.small, c.len-count.ensures.len)

pub returns : goal.returns
returns c = record { walks = three c }
