use Rattle.std.proofs.Common.{Some, ap}
use Rattle.reactor_ports.proofs.Telling.{send_told}
use Rattle.reactor_ports.proofs.mem_ports.MemPortsPorts.send.Goals as goal

pub returns-clause-told : goal.returns-clause-told
returns-clause-told c =
    ap Some (send_told c.args.self.now c.take_in.new.self c.args.conn c.args.bytes.now c.take_in.result c.requires c.take_in.ensures)
