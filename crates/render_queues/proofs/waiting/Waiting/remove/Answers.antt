use Rattle.std.proofs.Common.{rules, ◌≡◌, None, Some, ap, subst, ◌∙◌, slice_get, arith}
use Rattle.std.specs.Prelude.{position}
use Rattle.std.specs.Map.{keys_of, values_of, lookup}
use Rattle.indexmap.specs.IndexMap.{set_value_at}
use Rattle.indexmap.specs.Layout.{length-set_value_at}
use Rattle.farm_history.specs.Plans.{same_key}
use Rattle.render_queues.specs.OneQueue.{Lines}
use Rattle.render_queues.specs.Tables.{out_of_all}
use Rattle.render_queues.proofs.Entries.{counted_less, joined, left_less, lines_out, nothing_out, set_none}
use Rattle.render_queues.proofs.waiting.Waiting.remove.Goals as goal

pub overflow_add-left : goal.overflow_add-left
overflow_add-left c =
    let at : slice_get (values_of c.self.inside.live.entries) c.in-Some.place ≡ Some (Some c.in-Some-index.queue) = search rules in
    let fewer = left_less c.self.inside.limits c.self.inside.left c.self.inside.live.entries c.in-Some.place c.in-Some-index.queue at c.self.invariant.counts in
    search (rules, fewer)

pub invariant_of-self : goal.invariant_of-self
invariant_of-self c =
    let at : slice_get (values_of c.self.inside.live.entries) c.in-Some.place ≡ Some (Some c.in-Some-index.queue) = search rules in
    record {
      empty = c.self.invariant.empty;
      other_room = c.self.invariant.other_room;
      live_room = omega (arith, c.self.invariant.live_room, length-set_value_at c.self.inside.live.entries c.in-Some.place None);
      counts = rw (c.with_limit-self-inside.ensures, c.limit_of-left.ensures) (counted_less c.self.inside.limits c.self.inside.left c.self.inside.live.entries c.in-Some.place c.in-Some-index.queue at c.self.invariant.counts);
    }

pub returns-in-Some-index : goal.returns-in-Some-index
returns-in-Some-index c =
    let at : position (same_key c.args.key) (keys_of c.self.inside.live.entries) ≡ Some c.in-Some.place = search rules in
    lines_out c.self.inside.limits c.self.inside.live.entries (set_value_at c.self.inside.live.entries c.in-Some.place None) c.args.key (set_none c.args.key c.self.inside.live.entries c.in-Some.place c.get_index_of.ensures.unique at)
    ∙ ap (λ (ls : Lines). out_of_all ls c.args.key) c.self.view_is

pub returns-in_default-index : goal.returns-in_default-index
returns-in_default-index c =
    let none : joined (lookup (same_key c.args.key) c.self.inside.live.entries) ≡ None = search rules in
    subst (λ (ls : Lines). ls ≡ out_of_all ls c.args.key) c.self.view_is (lines_out c.self.inside.limits c.self.inside.live.entries c.self.inside.live.entries c.args.key (nothing_out c.args.key c.self.inside.live.entries c.get_index_of.ensures.unique none))

pub returns-in_default : goal.returns-in_default
returns-in_default c =
    let none : joined (lookup (same_key c.args.key) c.self.inside.live.entries) ≡ None = search rules in
    subst (λ (ls : Lines). ls ≡ out_of_all ls c.args.key) c.self.view_is (lines_out c.self.inside.limits c.self.inside.live.entries c.self.inside.live.entries c.args.key (nothing_out c.args.key c.self.inside.live.entries c.get_index_of.ensures.unique none))
