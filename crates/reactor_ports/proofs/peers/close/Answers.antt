use Rattle.reactor_ports.specs.Held.{closed}
use Rattle.reactor_ports.proofs.Changes.{set_is_change}
use Rattle.reactor_ports.proofs.peers.close.Goals as goal

pub returns : goal.returns
returns c = set_is_change closed c.args.peers.now c.args.conn _ c.close.new.self c.requires c.close.ensures
