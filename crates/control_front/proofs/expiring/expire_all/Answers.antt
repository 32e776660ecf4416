use Rattle.std.proofs.Common.{refl}
use Rattle.front_loop.proofs.Seating.{same_trans}
use Rattle.control_front.proofs.Saying.{expiring_none, expiring_more}
use Rattle.control_front.proofs.expiring.expire_all.Goals as goal

pub loop-tile-init : goal.loop-tile-init
loop-tile-init g c = record {
  seat = record { seat = c.requires.seat; number = refl; place = refl };
  expired = expiring_none c.args.tiles.now ((g.M.Farm.seats c.args.farm.now).mine c.args.seat.now);
}

pub loop-tile-preserved : goal.loop-tile-preserved
loop-tile-preserved g c = record {
  seat = same_trans (g.M.Farm.seats c.args.farm.now) c.args.seat.now c.loop-tile.seat c.turn.new.seat c.loop-tile.invariant.seat c.turn.ensures.same;
  expired = expiring_more c.args.tiles.now c.loop-tile.tile-index _ _ _ _ c.loop-tile.total c.in-Ok.count _ c.loop-tile-test.true c.loop-tile.invariant.expired c.in-Ok.ensures.takes
      c.saturating_add-total.ensures;
}
