use Rattle.std.proofs.Common.{arith}
use Rattle.render_queues.specs.Tables.{Tables, is_of_front}
use Rattle.render_queues.proofs.Sound.{sound_collected}
use Rattle.render_queues.proofs.queues.Queues.collect.Goals as goal

pub invariant_of-self : goal.invariant_of-self
invariant_of-self c =
    let t : Tables = record { lines = c.self.inside.lines; workers = c.self.inside.workers; taken = c.self.inside.taken.items; asks = c.self.inside.asks.items; ended = c.self.inside.ended.items } in
    record {
      taken_room = c.self.invariant.taken_room;
      asks_room = c.self.invariant.asks_room;
      ended_room = omega (arith, c.first_reply.ensures.room, c.self.invariant.ended_room);
      sound = rw c.first_reply.ensures.rest (sound_collected t (is_of_front c.args.front) c.self.invariant.sound);
    }
