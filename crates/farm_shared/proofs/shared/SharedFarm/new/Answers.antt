use Rattle.farm_shared.proofs.Beginning.{after_nothing}
use Rattle.farm_shared.proofs.shared.SharedFarm.new.Goals as goal

pub new-requires-clause-stands : goal.new-requires-clause-stands
new-requires-clause-stands g c = after_nothing g.D.TileStore.state _ c.requires.stands c.requires.short
