use Rattle.farm_shared.proofs.Given.{legal_given}
use Rattle.farm_shared.proofs.shared.SharedFarm.turn.Goals as goal

pub returns-clause-took : goal.returns-clause-took
returns-clause-took g c = rw (← c.self.view_is, ← c.seat.view_is) c.turn.ensures.turn

pub returns-clause-legal : goal.returns-clause-legal
returns-clause-legal g c = rw (← c.self.view_is) (legal_given g.D.TileStore.state c.self.inside.cell _ _ c.seat.inside.seat c.turn.new.seat c.turn.result c.turn.ensures.turn)
