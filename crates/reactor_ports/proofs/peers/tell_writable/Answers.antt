use Rattle.reactor_ports.specs.Playing.{writable_told}
use Rattle.reactor_ports.proofs.Changes.{set_is_change}
use Rattle.reactor_ports.proofs.peers.tell_writable.Goals as goal

pub returns : goal.returns
returns c = set_is_change writable_told c.args.peers.now c.args.conn _ c.tell_writable.new.self c.requires c.tell_writable.ensures
