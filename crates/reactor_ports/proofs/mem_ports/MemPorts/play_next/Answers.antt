use Rattle.reactor_ports.proofs.Hearing.{ready_live}
use Rattle.reactor_ports.proofs.mem_ports.MemPorts.play_next.Goals as goal

pub play-requires-clause-live : goal.play-requires-clause-live
play-requires-clause-live c = ready_live c.args.self.now c.settle.new.self c.settle.ensures
