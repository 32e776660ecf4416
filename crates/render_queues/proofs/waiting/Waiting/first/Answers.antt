use Rattle.std.proofs.Common.{rules, ◌≡◌, ◌+◌, suc, take, [], true, false, Some, ap, sym, subst, ◌∙◌, slice_get, arith}
use Rattle.render_queues.specs.OneQueue.{Line, Lines}
use Rattle.render_queues.specs.Tables.{line_of}
use Rattle.render_queues.specs.inner.Entries.{is_there, keys_in}
use Rattle.render_queues.proofs.Entries.{first_found, none_more, line_in}
use Rattle.render_queues.proofs.waiting.Waiting.first.Goals as goal

pub returns-then-is_there : goal.returns-then-is_there
returns-then-is_there c =
    let at : slice_get c.self.inside.live.entries c.loop-place.place ≡ Some (c.unwrap.result.0.now, c.unwrap.result.1.now) = search rules in
    let is : is_there c.unwrap.result.1.now c.args.queue ≡ true = search rules in
    sym (first_found c.args.queue c.self.inside.live.entries c.loop-place.place (c.unwrap.result.0.now, c.unwrap.result.1.now) at c.loop-place.invariant is)
    ∙ (sym (ap (λ (l : Line). slice_get l.keys 0) (line_in c.self.inside.limits c.self.inside.live.entries c.args.queue))
    ∙ ap (λ (ls : Lines). slice_get (line_of ls c.args.queue).keys 0) c.self.view_is)

pub loop-place-preserved : goal.loop-place-preserved
loop-place-preserved c =
    let at : slice_get c.self.inside.live.entries c.loop-place.place ≡ Some (c.unwrap.result.0.now, c.unwrap.result.1.now) = search rules in
    let is : is_there c.unwrap.result.1.now c.args.queue ≡ false = search rules in
    let next : suc c.loop-place.place ≡ c.loop-place.place + 1 = omega arith in
    subst (λ n. keys_in c.args.queue (take n c.self.inside.live.entries) ≡ []) next (none_more c.args.queue c.self.inside.live.entries c.loop-place.place (c.unwrap.result.0.now, c.unwrap.result.1.now) at c.loop-place.invariant is)
