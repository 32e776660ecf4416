use Rattle.std.proofs.Common.{rules, ◌≡◌, Option, None, Some, ap, sym, ◌∙◌}
use Rattle.std.specs.Prelude.{option_map}
use Rattle.std.specs.Map.{lookup}
use Rattle.farm_history.specs.declared.queues.Queue.{Queue}
use Rattle.farm_history.specs.Plans.{same_key}
use Rattle.render_queues.specs.OneQueue.{Lines}
use Rattle.render_queues.specs.Tables.{waits_where}
use Rattle.render_queues.specs.declared.standing.Standing.TheVariants.{Waits as InLine}
use Rattle.render_queues.proofs.Entries.{joined, where_is}
use Rattle.render_queues.proofs.waiting.Waiting.find.Goals as goal

pub returns-in_err-get : goal.returns-in_err-get
returns-in_err-get c =
    let at = ap (λ (ls : Lines). waits_where ls c.args.key) (sym c.self.view_is) ∙ where_is c.self.inside.limits c.args.key c.self.inside.live.entries c.len-count.ensures.unique in
    let none : c.from_residual.result ≡ None = search rules in
    let got : lookup (same_key c.args.key) c.self.inside.live.entries ≡ None = search rules in
    none ∙ sym (at ∙ ap (λ (o : Option (Option Queue)). option_map InLine (joined o)) got)

pub returns-in_err-queue : goal.returns-in_err-queue
returns-in_err-queue c =
    let at = ap (λ (ls : Lines). waits_where ls c.args.key) (sym c.self.view_is) ∙ where_is c.self.inside.limits c.args.key c.self.inside.live.entries c.len-count.ensures.unique in
    let none : c.from_residual-in_err-queue.result ≡ None = search rules in
    let got : lookup (same_key c.args.key) c.self.inside.live.entries ≡ Some None = search rules in
    none ∙ sym (at ∙ ap (λ (o : Option (Option Queue)). option_map InLine (joined o)) got)

pub returns : goal.returns
returns c =
    let at = ap (λ (ls : Lines). waits_where ls c.args.key) (sym c.self.view_is) ∙ where_is c.self.inside.limits c.args.key c.self.inside.live.entries c.len-count.ensures.unique in
    let got : lookup (same_key c.args.key) c.self.inside.live.entries ≡ Some (Some c.in_ok-queue.queue) = search rules in
    sym (at ∙ ap (λ (o : Option (Option Queue)). option_map InLine (joined o)) got)
