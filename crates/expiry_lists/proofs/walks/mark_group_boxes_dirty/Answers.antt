use Rattle.std.proofs.Common.{◌-◌, ◌&&◌, subst, arith}
use Rattle.farm_history.specs.declared.keys.Key.{Key}
use Rattle.expiry_lists.specs.Marks.{is_of_map, is_near_zooms}
use Rattle.expiry_lists.specs.inner.Nodes.{bit_of, has_bit, place_of}
use Rattle.expiry_lists.specs.inner.Walks.{Walks}
use Rattle.expiry_lists.proofs.Walked.{walks_then, walks_agree, four_few}
use Rattle.expiry_lists.proofs.Tiles.{agree_metas}
use Rattle.expiry_lists.proofs.Near.{near_under, group_near}
use Rattle.expiry_lists.proofs.walks.mark_group_boxes_dirty.Goals as goal

pub mark_world_dirty-second-requires-clause-tree : goal.mark_world_dirty-second-requires-clause-tree
mark_world_dirty-second-requires-clause-tree c = c.mark_world_dirty-first.ensures.walks.tree

pub mark_world_dirty-third-requires-clause-tree : goal.mark_world_dirty-third-requires-clause-tree
mark_world_dirty-third-requires-clause-tree c = c.mark_world_dirty-second.ensures.walks.tree

pub mark_boxes_dirty-below-requires-clause-tree : goal.mark_boxes_dirty-below-requires-clause-tree
mark_boxes_dirty-below-requires-clause-tree c = c.mark_world_dirty-third.ensures.walks.tree

pub overflow_add-result : goal.overflow_add-result
overflow_add-result c =
    let few = four_few c.mark_world_dirty-first.ensures.walks c.mark_world_dirty-second.ensures.walks c.mark_world_dirty-third.ensures.walks c.mark_boxes_dirty-below.ensures.walks in
    omega (arith, few, c.len-count.ensures.small, c.len-count.ensures.len)

pub overflow_add-result-2 : goal.overflow_add-result-2
overflow_add-result-2 c =
    let few = four_few c.mark_world_dirty-first.ensures.walks c.mark_world_dirty-second.ensures.walks c.mark_world_dirty-third.ensures.walks c.mark_boxes_dirty-below.ensures.walks in
    omega (arith, few, c.len-count.ensures.small, c.len-count.ensures.len)

pub overflow_add-result-3 : goal.overflow_add-result-3
overflow_add-result-3 c =
    let few = four_few c.mark_world_dirty-first.ensures.walks c.mark_world_dirty-second.ensures.walks c.mark_world_dirty-third.ensures.walks c.mark_boxes_dirty-below.ensures.walks in
    omega (arith, few, c.len-count.ensures.small, c.len-count.ensures.len)

pub returns-clause-walks : goal.returns-clause-walks
returns-clause-walks c =
    let boxes = c.args.boxes.now in
    let test = λ (k : Key). (is_of_map c.args.at.group (place_of k) && has_bit c.args.at.mask (bit_of k)) && is_near_zooms c.args.size boxes k in
    let below = subst (λ (x : Key). Walks (near_under (18 - x.meta.z) c.args.size boxes x c.args.at.mask) c.mark_world_dirty-third.new.nodes c.mark_boxes_dirty-below.new.nodes c.mark_boxes_dirty-below.result) c.world_key.ensures c.mark_boxes_dirty-below.ensures.walks in
    walks_agree test (agree_metas c.args.nodes.now.entries c.args.nodes.now.spots c.len-count.ensures.unique c.requires.tree _ test (λ k meta. group_near c.args.at.group c.args.at.mask c.args.size boxes k meta))
    (walks_then (walks_then (walks_then c.mark_world_dirty-first.ensures.walks c.mark_world_dirty-second.ensures.walks) c.mark_world_dirty-third.ensures.walks) below)
