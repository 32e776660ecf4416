use Rattle.farm_shared.proofs.Given.{claims_given}
use Rattle.farm_shared.proofs.shared.SharedFarm.claim.Goals as goal

pub returns-clause-job : goal.returns-clause-job
returns-clause-job g c = claims_given g.D.TileStore.state c.args.self.now _ c.args.seat.now c.turn.new.seat c.turn.result c.turn.ensures.same.0 c.turn.ensures.took
