use Rattle.std.proofs.Common.{◌&&◌, ap}
use Rattle.farm_history.proofs.Lists.{each-all}
use Rattle.expiry_lists.specs.Marks.{is_near_boxes, is_near_zooms}
use Rattle.expiry_lists.specs.inner.Nodes.{shown_of}
use Rattle.expiry_lists.proofs.Walked.{walks_agree}
use Rattle.expiry_lists.proofs.Tiles.{map_masked}
use Rattle.expiry_lists.proofs.walks.mark_map_boxes_dirty.Goals as goal

pub returns-clause-walks : goal.returns-clause-walks
returns-clause-walks c =
    walks_agree (is_near_boxes c.args.map c.args.size c.args.boxes.now) (each-all _ (shown_of c.args.nodes.now.entries) (λ s clean. ap (λ x. x && is_near_zooms c.args.size c.args.boxes.now s.key) (map_masked c.args.map s.key)))
    c.mark_group_boxes_dirty.ensures.walks
