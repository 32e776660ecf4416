use Rattle.std.proofs.Common.{rules, ◌≡◌, ◌<◌, true, None, subst, sym, arith}
use Rattle.std.specs.Prelude.{IsSome}
use Rattle.render_queues.specs.OneQueue.{is_below}
use Rattle.render_queues.specs.Tables.{Tables, line_of, after_place, standing, open_count}
use Rattle.render_queues.proofs.Sound.{sound_placed, sound_joined, placed_stands}
use Rattle.render_queues.proofs.queues.Queues.place.Goals as goal

pub invariant_of-self : goal.invariant_of-self
invariant_of-self c =
    let t : Tables = record { lines = c.self.inside.lines; workers = c.self.inside.workers; taken = c.self.inside.taken.items; asks = c.self.inside.asks.items; ended = c.self.inside.ended.items } in
    let is : t ≡ c.args.self.now = c.self.view_is in
    let new = subst (λ (s : Tables). standing s c.args.key ≡ None) (sym is) c.requires.new in
    let few : IsSome c.args.waiter → open_count t < 4096 = λ some. subst (λ (s : Tables). open_count s < 4096) (sym is) (c.requires.few some) in
    let below : is_below (line_of t.lines c.args.queue) ≡ true = search rules in
    record {
      taken_room = c.self.invariant.taken_room;
      asks_room = omega (arith, c.add_ask.ensures.room, c.self.invariant.asks_room);
      ended_room = c.self.invariant.ended_room;
      sound = rw (c.push.ensures, c.add_ask.ensures.asks) (sound_joined (after_place t c.args.queue c.args.key) c.args.key c.args.waiter (placed_stands t c.args.queue c.args.key) few
          (sound_placed t c.args.queue c.args.key new below c.self.invariant.sound));
    }
