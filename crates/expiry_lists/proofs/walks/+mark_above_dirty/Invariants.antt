use Rattle.expiry_lists.proofs.walks.+mark_above_dirty.Given as goal

abbrev pub decreases-mark_above_dirty : goal.decreases-mark_above_dirty
decreases-mark_above_dirty l = l.low.meta.z
