-- No failure was counted yet.
use Rattle.std.proofs.Common.{◌≡◌}
use Rattle.reactor_ports.proofs.socket_ports.SocketPortsPorts.next.Given as goal

abbrev pub invariant-loop : goal.invariant-loop
invariant-loop g l = l.self.faults ≡ l.fn.self.faults
