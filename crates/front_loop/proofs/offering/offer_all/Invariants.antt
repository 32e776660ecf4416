use Rattle.std.proofs.Common.{◌≡◌, ◌≤◌, Bool, length, take, Option}
use Rattle.farm_history.specs.Lists.{Each}
use Rattle.reactor_ports.specs.Told.{PortsTold}
use Rattle.reactor_ports.specs.declared.events.PortEvent.{PortEvent}
use Rattle.front_loop.specs.inner.Stages.{CanOffer, OwesNone}
use Rattle.front_loop.specs.inner.Moments.{at, world}
use Rattle.front_loop.proofs.offering.offer_all.Given as goal

abbrev pub invariant-loop-place : goal.invariant-loop-place
invariant-loop-place g l =
    let R = g.F.Front.rules l.work.front.now (g.M.Farm.map_at l.work.farm.now) in
    let seats = g.M.Farm.seats l.work.farm.now in
    record {
      goes : (seat : g.row.M-Seat.Denot) (e : PortEvent) (stopped : Bool) (start : Option PortsTold)
          → CanOffer R g.F.Front.knows e stopped start (world R g.F.Front.knows seats (at (g.P.Ports.state l.fn.ports) seat l.fn.table))
          → CanOffer R g.F.Front.knows e stopped start (world R g.F.Front.knows seats (at (g.P.Ports.state l.ports) seat l.table));
      count : (g.P.Ports.state l.fn.ports).faults ≤ (g.P.Ports.state l.ports).faults;
      none : Each OwesNone (take l.place l.table.sessions.items);
      many : length l.table.sessions.items ≡ length l.fn.table.sessions.items;
    }
