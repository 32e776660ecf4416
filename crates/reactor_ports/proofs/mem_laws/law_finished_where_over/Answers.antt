use Rattle.reactor_ports.proofs.Hearing.{finished_where_over}
use Rattle.reactor_ports.proofs.mem_laws.law_finished_where_over.Goals as goal

pub returns : goal.returns
returns c = finished_where_over
