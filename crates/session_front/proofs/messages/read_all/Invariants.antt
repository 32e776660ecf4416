use Rattle.std.proofs.Common.{◌≤◌, ◌-◌, length, drop}
use Rattle.front_loop.specs.Calls.{SameSeat}
use Rattle.session_front.specs.inner.Reads.{pairs, Reads}
use Rattle.session_front.proofs.messages.read_all.Given as goal

abbrev pub invariant-messages : goal.invariant-messages
invariant-messages g l = record {
  seat : SameSeat (g.M.Farm.seats l.context.farm.now) l.fn.seat l.seat;
  within : l.used ≤ length l.piece.bytes.now;
  read : Reads l.context.front.now.front (g.M.Farm.map_at l.context.farm.now) l.piece.conn l.piece.bytes.now (drop l.used l.piece.bytes.now) ((g.M.Farm.seats l.context.farm.now).mine l.fn.seat) ((g.M.Farm.seats l.context.farm.now).mine l.seat)
      (pairs l.fn.waits.items) (pairs l.waits.items) l.fn.response.items l.response.items;
}

abbrev pub decreases-messages : goal.decreases-messages
decreases-messages g l = length l.piece.bytes.now - l.used
