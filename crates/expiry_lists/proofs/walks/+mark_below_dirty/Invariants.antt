use Rattle.std.proofs.Common.{◌-◌}
use Rattle.expiry_lists.proofs.walks.+mark_below_dirty.Given as goal

abbrev pub decreases-mark_below_dirty : goal.decreases-mark_below_dirty
decreases-mark_below_dirty l = 18 - l.top.meta.z
