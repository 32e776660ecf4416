use Rattle.std.proofs.Common.{◌≤◌, Option}
use Rattle.reactor_ports.specs.Told.{PortsTold}
use Rattle.front_loop.specs.Calls.{SameSeat}
use Rattle.front_loop.specs.inner.Stages.{CanGo}
use Rattle.front_loop.specs.inner.Moments.{at, world}
use Rattle.front_loop.proofs.rounds.run.Given as goal

abbrev pub invariant-loop : goal.invariant-loop
invariant-loop g l =
    let R = g.F.Front.rules l.work.front.now (g.M.Farm.map_at l.work.farm.now) in
    let seats = g.M.Farm.seats l.work.farm.now in
    record {
      seat : SameSeat seats l.fn.seat l.seat;
      count : (g.P.Ports.state l.fn.ports).faults ≤ (g.P.Ports.state l.ports).faults;
      goes : (start : Option PortsTold) → CanGo R g.F.Front.knows start (world R g.F.Front.knows seats (at (g.P.Ports.state l.fn.ports) l.fn.seat l.fn.table))
          → CanGo R g.F.Front.knows start (world R g.F.Front.knows seats (at (g.P.Ports.state l.ports) l.seat l.table));
    }
