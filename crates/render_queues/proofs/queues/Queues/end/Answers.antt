use Rattle.std.proofs.Common.{arith}
use Rattle.render_queues.specs.Tables.{Tables}
use Rattle.render_queues.proofs.Sound.{sound_ended}
use Rattle.render_queues.proofs.queues.Queues.end.Goals as goal

pub invariant_of-self : goal.invariant_of-self
invariant_of-self c =
    let t : Tables = record { lines = c.self.inside.lines; workers = c.self.inside.workers; taken = c.self.inside.taken.items; asks = c.self.inside.asks.items; ended = c.self.inside.ended.items } in
    record {
      taken_room = omega (arith, c.drop_key.ensures.room, c.self.invariant.taken_room);
      asks_room = omega (arith, c.drop_asks_on.ensures.room, c.self.invariant.asks_room);
      ended_room = omega (arith, c.reply_all.ensures.room, c.self.invariant.ended_room);
      sound = rw (c.drop_key.ensures.keys, c.reply_all.ensures.replies, c.drop_asks_on.ensures.asks, c.as_slice.ensures.value) (sound_ended t c.args.key c.args.outcome c.self.invariant.sound);
    }
