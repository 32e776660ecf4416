use Rattle.std.proofs.Common.{ap, ◌∙◌}
use Rattle.std.specs.Map.{keys_of}
use Rattle.std.proofs.lemmas.Map.{keys-set_value}
use Rattle.farm_history.specs.Plans.{same_key}
use Rattle.expiry_lists.proofs.Spots.{taken, taken_walks}
use Rattle.expiry_lists.proofs.places.mark_spot_dirty.Goals as goal

pub returns-clause-walks : goal.returns-clause-walks
returns-clause-walks c =
    taken_walks c.args.nodes.now c.take_own-count.new.self c.args.place c.args.spot c.args.mask c.take_own-count.result c.ranges.mask.fits c.len-before.ensures.unique c.len-after.ensures.unique
    c.requires.tree c.requires.found c.take_own-count.ensures.dirties c.take_own-count.ensures.keys c.take_own-count.ensures.spots c.take_own-count.ensures.room c.take_own-count.ensures.free

pub returns-clause-places : goal.returns-clause-places
returns-clause-places c = ap keys_of c.take_own-count.ensures.spots ∙ keys-set_value (same_key c.args.place) c.args.nodes.now.spots (taken c.args.spot c.args.mask)
