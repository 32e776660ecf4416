-- The rests so far are those of the pairs so far, and there is room for the others.
use Rattle.std.proofs.Common.{◌≡◌, ◌+◌, ◌≤◌, map}
use Rattle.std.specs.Vec.{vec_len, vec_capacity}
use Rattle.std.specs.Vec.Iter.{into_iter_len}
use Rattle.reactor_ports.specs.Boxes.{as_rest}
use Rattle.reactor_ports.proofs.outbox.Outbox.into_rests.Given as goal

abbrev pub invariant-loop-pending : goal.invariant-loop-pending
invariant-loop-pending l =
    (l.rests.items ≡ map (as_rest l.front) l.yielded)
    × (vec_len l.rests + into_iter_len l.pending-iterator ≤ vec_capacity l.rests)
