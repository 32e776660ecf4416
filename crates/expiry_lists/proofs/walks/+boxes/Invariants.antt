-- A walk with all boxes goes on to the same key with those that come near it, and that one to the quarters.
use Rattle.std.proofs.Common.{◌+◌, ◌-◌, ◌*◌}
use Rattle.expiry_lists.proofs.walks.+boxes.Given as goal

abbrev pub decreases-mark_boxes_dirty : goal.decreases-mark_boxes_dirty
decreases-mark_boxes_dirty l = 2 * (18 - l.top.meta.z) + 1

abbrev pub decreases-mark_near_dirty : goal.decreases-mark_near_dirty
decreases-mark_near_dirty l = 2 * (18 - l.top.meta.z)
