use Rattle.std.proofs.Common.{◌≡◌, Bool, Option, length}
use Rattle.reactor_ports.specs.Told.{PortsTold}
use Rattle.reactor_ports.specs.declared.events.PortEvent.{PortEvent}
use Rattle.front_loop.specs.Calls.{SameSeat}
use Rattle.front_loop.specs.inner.Stages.{CanLeave}
use Rattle.front_loop.specs.inner.Moments.{at, world}
use Rattle.front_loop.proofs.closing.close_all.Given as goal

abbrev pub invariant-loop-place : goal.invariant-loop-place
invariant-loop-place g l =
    let R = g.F.Front.rules l.work.front.now (g.M.Farm.map_at l.work.farm.now) in
    let seats = g.M.Farm.seats l.work.farm.now in
    record {
      seat : SameSeat seats l.fn.seat l.seat;
      count : (g.P.Ports.state l.ports).faults ≡ (g.P.Ports.state l.fn.ports).faults;
      goes : (e : PortEvent) (stopped : Bool) (start : Option PortsTold)
          → CanLeave R g.F.Front.knows e stopped start (world R g.F.Front.knows seats (at (g.P.Ports.state l.fn.ports) l.fn.seat l.fn.table))
          → CanLeave R g.F.Front.knows e stopped start (world R g.F.Front.knows seats (at (g.P.Ports.state l.ports) l.seat l.table));
    }

abbrev pub decreases-loop-place : goal.decreases-loop-place
decreases-loop-place g l = length l.table.sessions.items
