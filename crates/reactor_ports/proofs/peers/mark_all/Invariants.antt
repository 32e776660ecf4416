-- Those so far are marked.
use Rattle.std.proofs.Common.{◌≡◌, ◌++◌, map, take, drop}
use Rattle.reactor_ports.specs.Playing.{marked}
use Rattle.reactor_ports.proofs.peers.mark_all.Given as goal

abbrev pub invariant-loop-place : goal.invariant-loop-place
invariant-loop-place l = l.peers ≡ map marked (take l.place l.fn.peers) ++ drop l.place l.fn.peers
