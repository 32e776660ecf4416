use Rattle.std.proofs.Common.{◌+◌, ◌-◌, ◌*◌, ◌/◌, ◌%◌, ◌^◌, ◌||◌, ◌&&◌, subst, arith}
use Rattle.farm_history.specs.declared.keys.Key.{Key}
use Rattle.expiry_lists.specs.Marks.{is_of_map}
use Rattle.expiry_lists.specs.inner.Nodes.{bit_of, has_bit, place_of}
use Rattle.expiry_lists.specs.inner.Tiles.{world_key, is_flat}
use Rattle.expiry_lists.specs.inner.Walks.{under_bits, Walks}
use Rattle.expiry_lists.proofs.Walked.{walks_then, walks_agree, walks_few}
use Rattle.expiry_lists.proofs.Tiles.{agree_metas, map_bits}
use Rattle.expiry_lists.proofs.walks.mark_map_dirty.Goals as goal
use Rattle.expiry_lists.proofs.walks.mark_map_dirty.Goals.{After-mark_below_dirty-below}

both : (c : After-mark_below_dirty-below) → Walks (λ k. (is_flat (c.args.map / 64) (place_of k) && has_bit (1 * 2 ^ (c.args.map % 64) % 2 ^ 64) (bit_of k)) || under_bits 15 (world_key (c.args.map / 64) 3) (1 * 2 ^ (c.args.map % 64) % 2 ^ 64) k)
    c.args.nodes.now c.mark_below_dirty-below.new.nodes (c.mark_flat_dirty-flat.result + c.mark_below_dirty-below.result)
both c =
    walks_then c.mark_flat_dirty-flat.ensures.walks
    (subst (λ (x : Key). Walks (under_bits (18 - x.meta.z) x (1 * 2 ^ (c.args.map % 64) % 2 ^ 64)) c.mark_flat_dirty-flat.new.nodes c.mark_below_dirty-below.new.nodes c.mark_below_dirty-below.result) c.world_key.ensures c.mark_below_dirty-below.ensures.walks)

pub mark_below_dirty-below-requires-clause-tree : goal.mark_below_dirty-below-requires-clause-tree
mark_below_dirty-below-requires-clause-tree c = c.mark_flat_dirty-flat.ensures.walks.tree

pub overflow_add-result : goal.overflow_add-result
overflow_add-result c = omega (arith, walks_few (both c), c.len-count.ensures.small, c.len-count.ensures.len)

pub returns : goal.returns
returns c = record {
  walks = walks_agree (is_of_map c.args.map) (agree_metas c.args.nodes.now.entries c.args.nodes.now.spots c.len-count.ensures.unique c.requires _ (is_of_map c.args.map) (λ k meta. map_bits c.args.map k meta)) (both c);
}
