use Rattle.std.proofs.Common.{rules, ◌≡◌, ◌<◌, true, Some, cond, ap, subst, sym, ◌∙◌, arith}
use Rattle.std.specs.Prelude.{IsSome}
use Rattle.render_queues.specs.OneQueue.{is_below}
use Rattle.render_queues.specs.Tables.{Tables, line_of, after_join, after_lift, standing, is_liftable, open_count}
use Rattle.render_queues.proofs.Counted.{out_lifted, out_nowhere}
use Rattle.render_queues.proofs.Sound.{sound_lifted, sound_joined, lifted_stands, same_line}
use Rattle.render_queues.proofs.queues.Queues.lift.Goals as goal

pub push-requires-clause-new : goal.push-requires-clause-new
push-requires-clause-new c = rw c.remove.ensures (out_nowhere c.self.inside.lines c.args.key)

pub push-requires-clause-room : goal.push-requires-clause-room
push-requires-clause-room c =
    let t : Tables = record { lines = c.self.inside.lines; workers = c.self.inside.workers; taken = c.self.inside.taken.items; asks = c.self.inside.asks.items; ended = c.self.inside.ended.items } in
    let is : t ≡ c.args.self.now = c.self.view_is in
    let waits = subst (λ (s : Tables). is_liftable (standing s c.args.key) ≡ true) (sym is) c.requires.waits in
    let below : is_below (line_of t.lines c.args.queue) ≡ true = search rules in
    rw (c.remove.ensures, out_lifted t c.args.key waits) (ap is_below (same_line t.lines c.args.queue c.args.key c.requires.queue) ∙ below)

pub invariant_of-self : goal.invariant_of-self
invariant_of-self c =
    let t : Tables = record { lines = c.self.inside.lines; workers = c.self.inside.workers; taken = c.self.inside.taken.items; asks = c.self.inside.asks.items; ended = c.self.inside.ended.items } in
    let is : t ≡ c.args.self.now = c.self.view_is in
    let waits = subst (λ (s : Tables). is_liftable (standing s c.args.key) ≡ true) (sym is) c.requires.waits in
    let few : IsSome (Some c.args.waiter) → open_count t < 4096 = λ _. subst (λ (s : Tables). open_count s < 4096) (sym is) c.requires.few in
    let below : is_below (line_of t.lines c.args.queue) ≡ true = search rules in
    record {
      taken_room = c.self.invariant.taken_room;
      asks_room = omega (arith, c.add_ask.ensures.room, c.self.invariant.asks_room);
      ended_room = c.self.invariant.ended_room;
      sound = rw (c.push.ensures, c.remove.ensures, out_lifted t c.args.key waits, c.add_ask.ensures.asks) (sound_joined (after_lift t c.args.queue c.args.key) c.args.key (Some c.args.waiter) (lifted_stands t c.args.queue c.args.key) few
          (sound_lifted t c.args.queue c.args.key waits c.requires.queue below c.self.invariant.sound));
    }

pub returns-clause-tables : goal.returns-clause-tables
returns-clause-tables c =
    let t : Tables = record { lines = c.self.inside.lines; workers = c.self.inside.workers; taken = c.self.inside.taken.items; asks = c.self.inside.asks.items; ended = c.self.inside.ended.items } in
    let is : t ≡ c.args.self.now = c.self.view_is in
    let waits = subst (λ (s : Tables). is_liftable (standing s c.args.key) ≡ true) (sym is) c.requires.waits in
    let below : is_below (line_of t.lines c.args.queue) ≡ true = search rules in
    rw (c.push.ensures, c.remove.ensures, out_lifted t c.args.key waits, c.add_ask.ensures.asks) (ap (λ b. cond b (after_join (after_lift t c.args.queue c.args.key) c.args.key (Some c.args.waiter)) t) (sym below))
    ∙ ap (λ (s : Tables). cond (is_below (line_of s.lines c.args.queue)) (after_join (after_lift s c.args.queue c.args.key) c.args.key (Some c.args.waiter)) s) is
