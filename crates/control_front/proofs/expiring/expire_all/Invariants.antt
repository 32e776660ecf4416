use Rattle.front_loop.specs.Calls.{SameSeat}
use Rattle.control_front.proofs.Saying.{Expiring}
use Rattle.control_front.proofs.expiring.expire_all.Given as goal

abbrev pub invariant-loop-tile : goal.invariant-loop-tile
invariant-loop-tile g l = record {
  seat : SameSeat (g.M.Farm.seats l.farm) l.fn.seat l.seat;
  expired : Expiring l.tiles l.tile-index ((g.M.Farm.seats l.farm).mine l.fn.seat) ((g.M.Farm.seats l.farm).mine l.seat) l.total;
}
