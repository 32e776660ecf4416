use Rattle.expiry_lists.proofs.waking.+wake.Given as goal

abbrev pub decreases-wake : goal.decreases-wake
decreases-wake l = l.place.meta.z
