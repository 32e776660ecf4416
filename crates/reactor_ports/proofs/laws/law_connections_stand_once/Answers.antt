use Rattle.reactor_ports.proofs.Once.{once_put, once_without, once_added}
use Rattle.reactor_ports.proofs.laws.law_connections_stand_once.Goals as goal

pub returns : goal.returns
returns c = λ box conn rest h. (once_put box conn rest h, once_without box conn h, once_added box conn h)
