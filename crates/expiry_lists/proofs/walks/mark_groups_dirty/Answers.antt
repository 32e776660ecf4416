use Rattle.std.proofs.Common.{arith, rules}
use Rattle.farm_history.specs.Plans.{overlaps}
use Rattle.expiry_lists.proofs.Walked.{walks_few}
use Rattle.expiry_lists.proofs.Tiles.{walks_group, walks_no_group}
use Rattle.expiry_lists.proofs.walks.mark_groups_dirty.Goals as goal

pub loop-group-init : goal.loop-group-init
loop-group-init c = record { walks = walks_no_group (overlaps c.args.t) c.args.nodes.now c.requires.tree }

pub mark_tile_dirty-count-requires-clause-tree : goal.mark_tile_dirty-count-requires-clause-tree
mark_tile_dirty-count-requires-clause-tree c = c.loop-group.invariant.walks.tree

pub overflow_add-count : goal.overflow_add-count
overflow_add-count c =
    let both = walks_group (overlaps c.args.t) c.args.groups.now c.loop-group.group-index _ (search rules) (search rules) c.loop-group.invariant.walks c.mark_tile_dirty-count.ensures.walks in
    omega (arith, walks_few both, c.len-count.ensures.small, c.len-count.ensures.len)

pub loop-group-preserved : goal.loop-group-preserved
loop-group-preserved c = record {
  walks = walks_group (overlaps c.args.t) c.args.groups.now c.loop-group.group-index _ (search rules) (search rules) c.loop-group.invariant.walks c.mark_tile_dirty-count.ensures.walks;
}
