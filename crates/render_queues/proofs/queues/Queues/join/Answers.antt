use Rattle.std.proofs.Common.{◌≡◌, ◌<◌, Some, subst, sym, arith}
use Rattle.std.specs.Prelude.{IsSome}
use Rattle.render_queues.specs.Tables.{Tables, standing, open_count}
use Rattle.render_queues.proofs.Counted.{stands_somewhere}
use Rattle.render_queues.proofs.Sound.{sound_joined}
use Rattle.render_queues.proofs.queues.Queues.join.Goals as goal

pub invariant_of-self : goal.invariant_of-self
invariant_of-self c =
    let t : Tables = record { lines = c.self.inside.lines; workers = c.self.inside.workers; taken = c.self.inside.taken.items; asks = c.self.inside.asks.items; ended = c.self.inside.ended.items } in
    let is : t ≡ c.args.self.now = c.self.view_is in
    let stands = stands_somewhere t c.args.key (subst (λ (s : Tables). IsSome (standing s c.args.key)) (sym is) c.requires.stands) in
    let few : IsSome (Some c.args.waiter) → open_count t < 4096 = λ _. subst (λ (s : Tables). open_count s < 4096) (sym is) c.requires.few in
    record {
      taken_room = c.self.invariant.taken_room;
      asks_room = omega (arith, c.add_ask.ensures.room, c.self.invariant.asks_room);
      ended_room = c.self.invariant.ended_room;
      sound = rw c.add_ask.ensures.asks (sound_joined t c.args.key (Some c.args.waiter) stands few c.self.invariant.sound);
    }
