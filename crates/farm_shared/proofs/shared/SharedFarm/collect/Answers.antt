use Rattle.farm_shared.proofs.Given.{replies_given}
use Rattle.farm_shared.proofs.shared.SharedFarm.collect.Goals as goal

pub returns-clause-own : goal.returns-clause-own
returns-clause-own g c = replies_given g.D.TileStore.state c.args.self.now _ c.args.seat.now c.turn.new.seat c.turn.result c.requires.front c.turn.ensures.same.0 c.turn.ensures.known.0 c.turn.ensures.took
