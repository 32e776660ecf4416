use Rattle.std.proofs.Common.{rules, ◌≡◌, ◌<◌, length, Some, ap, subst, sym, ◌∙◌, arith}
use Rattle.std.specs.Prelude.{option_map}
use Rattle.render_queues.specs.Tables.{Tables, AreSound, after_take, next_of}
use Rattle.render_queues.proofs.Sound.{next_out, sound_next}
use Rattle.render_queues.proofs.queues.Queues.take.Goals as goal

pub invariant_of-self : goal.invariant_of-self
invariant_of-self c =
    let t : Tables = record { lines = c.self.inside.lines; workers = c.self.inside.workers; taken = c.self.inside.taken.items; asks = c.self.inside.asks.items; ended = c.self.inside.ended.items } in
    let is : t ≡ c.args.self.now = c.self.view_is in
    let few = subst (λ (s : Tables). length s.taken < s.workers) (sym is) c.requires in
    let next : option_map (λ w. w.key) (next_of t.lines) ≡ Some c.in_ok-first.first = search rules in
    record {
      taken_room = omega (arith, c.push_reserved.ensures.capacity, c.self.invariant.taken_room);
      asks_room = c.self.invariant.asks_room;
      ended_room = c.self.invariant.ended_room;
      sound = rw (c.remove.ensures, c.push_reserved.ensures.items) (subst AreSound (sym (next_out t c.in_ok-first.first next c.self.invariant.sound)) (sound_next t few c.self.invariant.sound));
    }

pub returns-clause-tables : goal.returns-clause-tables
returns-clause-tables c =
    let t : Tables = record { lines = c.self.inside.lines; workers = c.self.inside.workers; taken = c.self.inside.taken.items; asks = c.self.inside.asks.items; ended = c.self.inside.ended.items } in
    let is : t ≡ c.args.self.now = c.self.view_is in
    let next : option_map (λ w. w.key) (next_of t.lines) ≡ Some c.in_ok-first.first = search rules in
    rw (c.remove.ensures, c.push_reserved.ensures.items) (next_out t c.in_ok-first.first next c.self.invariant.sound) ∙ ap (λ (s : Tables). after_take s (next_of s.lines)) is
