use Rattle.std.proofs.Common.{Option}
use Rattle.farm_base.specs.Outside.{Outside}
use Rattle.reactor_ports.specs.Told.{PortsTold}
use Rattle.reactor_ports.specs.declared.events.PortEvent.{PortEvent}
use Rattle.front_loop.specs.Calls.{SameSeat}
use Rattle.front_loop.specs.inner.Stages.{CanCollect}
use Rattle.front_loop.specs.inner.Moments.{at, world}
use Rattle.front_loop.proofs.collecting.collect_all.Given as goal

abbrev pub invariant-loop : goal.invariant-loop
invariant-loop g l =
    let R = g.F.Front.rules l.work.front.now (g.M.Farm.map_at l.work.farm.now) in
    let seats = g.M.Farm.seats l.work.farm.now in
    record {
      seat : SameSeat seats l.fn.seat l.seat;
      goes : (o : Outside PortsTold) (e : PortEvent) (start : Option PortsTold)
          → CanCollect R g.F.Front.knows e start (world R g.F.Front.knows seats (at o l.fn.seat l.fn.table))
          → CanCollect R g.F.Front.knows e start (world R g.F.Front.knows seats (at o l.seat l.table));
    }
