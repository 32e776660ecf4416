use Rattle.farm_shared.proofs.Given.{closed_given}
use Rattle.farm_shared.proofs.shared.SharedFarm.close.Goals as goal

pub returns-clause-farm : goal.returns-clause-farm
returns-clause-farm g c = rw (← c.self.view_is, ← c.seat.view_is) (closed_given g.D.TileStore.state c.self.inside.cell c.seat.inside.seat _ _ c.close.ensures.value c.into_value-farm.ensures)
