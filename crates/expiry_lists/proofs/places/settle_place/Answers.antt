use Rattle.expiry_lists.proofs.Spots.{settle_walks, masked_dirty}
use Rattle.expiry_lists.proofs.places.settle_place.Goals as goal

pub hush-requires-clause-tree : goal.hush-requires-clause-tree
hush-requires-clause-tree c = c.mark_place_dirty-count.ensures.walks.tree

pub hush-requires-clause-dirty : goal.hush-requires-clause-dirty
hush-requires-clause-dirty c = masked_dirty c.args.place c.args.mask c.len-before.ensures.unique c.len-after.ensures.unique c.mark_place_dirty-count.ensures.walks

pub hush-requires-clause-quiet_below : goal.hush-requires-clause-quiet_below
hush-requires-clause-quiet_below c = λ p b deep masked live. c.requires.quiet_below p b deep masked (c.mark_place_dirty-count.ensures.walks.quieter p b live)

pub returns-clause-walks : goal.returns-clause-walks
returns-clause-walks c =
    settle_walks c.args.place c.args.mask c.mark_place_dirty-count.ensures.walks c.hush.ensures.entries c.hush.ensures.tree c.hush.ensures.quieter c.hush.ensures.room c.hush.ensures.free c.hush.ensures.there
