use Rattle.std.proofs.Common.{◌∙◌, sym}
use Rattle.farm_history.specs.declared.keys.Kept.{Kept}
use Rattle.render_jobs.specs.declared.faults.ResumeFault.TheVariants.{Kept as NotKept}
use Rattle.render_jobs.specs.Faults.{can_show}
use Rattle.render_jobs.proofs.Checked.{failing_more, failing_here, failing_none}
use Rattle.render_jobs.proofs.faults.check_clean.Goals as goal

pub returns-then-not-can_show : goal.returns-then-not-can_show
returns-then-not-can_show c =
    sym (c.loop-place.invariant ∙ failing_here (λ place (x : Kept). can_show c.args.setup.now x.key) (λ place. NotKept place) c.args.clean.now c.loop-place.place _ c.loop-place-test.true (sym c.if-not-can_show.ensures))

pub loop-place-preserved : goal.loop-place-preserved
loop-place-preserved c =
    c.loop-place.invariant ∙ failing_more (λ place (x : Kept). can_show c.args.setup.now x.key) (λ place. NotKept place) c.args.clean.now c.loop-place.place _ c.loop-place-test.true (sym c.if-not-can_show.ensures)

pub returns : goal.returns
returns c = sym (c.loop-place.invariant ∙ failing_none (λ place (x : Kept). can_show c.args.setup.now x.key) (λ place. NotKept place) c.args.clean.now c.loop-place.place c.loop-place-test.false)
