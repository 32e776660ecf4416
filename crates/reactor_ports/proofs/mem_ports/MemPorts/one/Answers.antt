use Rattle.std.proofs.Common.{[]}
use Rattle.reactor_ports.proofs.Overs.{valid_pieces}
use Rattle.reactor_ports.proofs.mem_ports.MemPorts.one.Goals as goal

pub new-requires-3 : goal.new-requires-3
new-requires-3 c = valid_pieces [] c.args.steps.items c.requires
