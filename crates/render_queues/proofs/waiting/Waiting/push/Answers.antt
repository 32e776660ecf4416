use Rattle.std.proofs.Common.{rules, ◌≡◌, true, None, Some, [], ◌∷◌, ◌++◌, length, ap, sym, ◌∙◌, arith}
use Rattle.std.proofs.lemmas.List.{length-append}
use Rattle.farm_history.specs.Plans.{is_in}
use Rattle.render_queues.specs.OneQueue.{Line, Lines, is_below}
use Rattle.render_queues.specs.Tables.{line_of, waits_where, with_last}
use Rattle.render_queues.specs.inner.Entries.{lines_in, twice_room}
use Rattle.render_queues.proofs.Entries.{counted_last, goes_last, in_no_queue, line_in, lines_last, none_there, one_fits, one_left}
use Rattle.render_queues.proofs.waiting.Waiting.push.Goals as goal

pub make_place-requires-clause-fits : goal.make_place-requires-clause-fits
make_place-requires-clause-fits c =
    let below : is_below (line_of (lines_in c.self.inside.limits c.self.inside.live.entries) c.args.queue) ≡ true = ap (λ (ls : Lines). is_below (line_of ls c.args.queue)) c.self.view_is ∙ c.requires.room in
    let one = one_left c.self.inside.limits c.self.inside.left c.self.inside.live.entries c.args.queue c.self.invariant.counts below in
    let fits = one_fits c.self.inside.limits c.self.inside.left c.self.inside.live.entries c.args.queue c.self.invariant.counts one in
    omega (arith, fits, c.self.invariant.other_room)

pub make_place-requires-clause-new : goal.make_place-requires-clause-new
make_place-requires-clause-new c =
    let nowhere : waits_where (lines_in c.self.inside.limits c.self.inside.live.entries) c.args.key ≡ None = ap (λ (ls : Lines). waits_where ls c.args.key) c.self.view_is ∙ c.requires.new in
    none_there c.args.key c.self.inside.live.entries (λ q.
    ap (λ (l : Line). is_in c.args.key l.keys) (sym (line_in c.self.inside.limits c.self.inside.live.entries q)) ∙ in_no_queue (lines_in c.self.inside.limits c.self.inside.live.entries) c.args.key nowhere q)

put : (c : goal.After-unwrap) → c.insert.new.self.entries ≡ c.make_place.new.live.entries ++ (c.args.key, Some c.args.queue) ∷ []
put c = search (rules, c.insert.ensures.entries, c.unwrap.ensures) ∙ goes_last c.make_place.new.live.entries c.args.key (Some c.args.queue) c.make_place.ensures.new

pub invariant_of-self : goal.invariant_of-self
invariant_of-self c =
    let long = ap length (put c) ∙ length-append c.make_place.new.live.entries ((c.args.key, Some c.args.queue) ∷ []) in
    let room = c.make_place.ensures.room (twice_room c.self.inside.limits) c.self.invariant.other_room c.self.invariant.live_room in
    let below : is_below (line_of (lines_in c.self.inside.limits c.self.inside.live.entries) c.args.queue) ≡ true = ap (λ (ls : Lines). is_below (line_of ls c.args.queue)) c.self.view_is ∙ c.requires.room in
    let one = one_left c.self.inside.limits c.self.inside.left c.self.inside.live.entries c.args.queue c.self.invariant.counts below in
    record {
      empty = c.make_place.ensures.empty;
      other_room = room.0;
      live_room = omega (arith, long, c.insert.ensures.spare, room.1);
      counts = rw (put c, c.with_limit-self-inside.ensures, c.limit_of-left.ensures) (counted_last c.self.inside.limits c.self.inside.left c.self.inside.live.entries c.make_place.new.live.entries c.args.key c.args.queue _ c.make_place.ensures.same c.self.invariant.counts (omega (arith, one)));
    }

pub returns : goal.returns
returns c = rw (put c) (lines_last c.self.inside.limits c.self.inside.live.entries c.make_place.new.live.entries c.args.key c.args.queue c.make_place.ensures.same) ∙ ap (λ (ls : Lines). with_last ls c.args.queue c.args.key) c.self.view_is
