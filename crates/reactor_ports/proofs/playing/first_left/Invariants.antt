-- The steps so far are passed over.
use Rattle.std.proofs.Common.{drop}
use Rattle.reactor_ports.specs.Playing.{Passed}
use Rattle.reactor_ports.proofs.playing.first_left.Given as goal

abbrev pub invariant-loop-place : goal.invariant-loop-place
invariant-loop-place l = Passed l.fn.peers (drop l.fn.from l.fn.steps) (drop l.place l.fn.steps) l.reached
