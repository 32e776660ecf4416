use Rattle.std.proofs.Common.{sym, subst}
use Rattle.farm_call.specs.Beginnings.{Begins}
use Rattle.farm_call.proofs.Beginning.{begun_new}
use Rattle.farm_call.proofs.begun.begin.Goals as goal

pub returns-else-resume : goal.returns-else-resume
returns-else-resume g c = subst (λ r. Begins g.D.TileStore.state c.args.plan r c.args.store c.start.result) (sym c.if-resume.false) (begun_new g.D.TileStore.state c.args.plan c.args.store c.start.result c.start.ensures)
