use Rattle.reactor_ports.specs.Held.{with_end}
use Rattle.reactor_ports.proofs.Changes.{set_is_change}
use Rattle.reactor_ports.proofs.peers.end.Goals as goal

pub returns : goal.returns
returns c = set_is_change with_end c.args.peers.now c.args.conn _ c.end.new.self c.requires c.end.ensures
