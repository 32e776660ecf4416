use Rattle.std.proofs.Common.{rules}
use Rattle.expiry_lists.proofs.Spots.{one_walks}
use Rattle.expiry_lists.proofs.places.mark_one_dirty.Goals as goal

pub returns-clause-walks : goal.returns-clause-walks
returns-clause-walks c = one_walks c.args.key c.place_of.result c.bit_of.result (search rules) (search rules) c.mark_place_dirty.ensures.walks
