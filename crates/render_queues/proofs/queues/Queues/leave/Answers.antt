use Rattle.std.proofs.Common.{rules, ◌≡◌, not, filter, ap, arith}
use Rattle.std.proofs.lemmas.Fn.{filter_same}
use Rattle.render_queues.specs.Tables.{Tables, after_leave, asked_by, replies_to_conn}
use Rattle.render_queues.proofs.Sound.{sound_left}
use Rattle.render_queues.proofs.queues.Queues.leave.Goals as goal
use Rattle.render_queues.proofs.queues.Queues.leave.Goals.{After-retain, After-retain-2}

asks : (c : After-retain) → c.retain.new.self.items ≡ filter (λ a. not (asked_by c.args.conn a)) c.self.inside.asks.items
asks c = filter_same _ (λ a. not (asked_by c.args.conn a)) _ (λ x b f' k. search rules) _ _ c.retain.ensures.filtered

ended : (c : After-retain-2) → c.retain-2.new.self.items ≡ filter (λ r. not (replies_to_conn c.args.conn r)) c.self.inside.ended.items
ended c = filter_same _ (λ r. not (replies_to_conn c.args.conn r)) _ (λ x b f' k. search rules) _ _ c.retain-2.ensures.filtered

pub invariant_of-self : goal.invariant_of-self
invariant_of-self c =
    let t : Tables = record { lines = c.self.inside.lines; workers = c.self.inside.workers; taken = c.self.inside.taken.items; asks = c.self.inside.asks.items; ended = c.self.inside.ended.items } in
    record {
      taken_room = c.self.invariant.taken_room;
      asks_room = omega (arith, c.retain.ensures.capacity, c.self.invariant.asks_room);
      ended_room = omega (arith, c.retain-2.ensures.capacity, c.self.invariant.ended_room);
      sound = rw (asks (goal.at.invariant_of-self c).After-retain, ended (goal.at.invariant_of-self c).After-retain-2) (sound_left t c.args.conn c.self.invariant.sound);
    }

pub returns-clause-tables : goal.returns-clause-tables
returns-clause-tables c = rw (asks (goal.at.returns-clause-tables c).After-retain, ended (goal.at.returns-clause-tables c).After-retain-2) (ap (λ (s : Tables). after_leave s c.args.conn) c.self.view_is)
