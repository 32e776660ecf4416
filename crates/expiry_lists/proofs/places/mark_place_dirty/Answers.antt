use Rattle.std.proofs.Common.{rules}
use Rattle.expiry_lists.proofs.Spots.{spotless}
use Rattle.expiry_lists.proofs.places.mark_place_dirty.Goals as goal

pub returns-in-None-clause-walks : goal.returns-in-None-clause-walks
returns-in-None-clause-walks c = spotless c.args.nodes.now c.args.place c.args.mask c.len-count.ensures.unique c.requires (search rules)
