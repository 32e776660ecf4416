use Rattle.std.proofs.Common.{◌∙◌, ◌+◌, nat_lt, length, sym}
use Rattle.farm_history.specs.declared.saved.Past.{Past}
use Rattle.farm_history.specs.Replays.{past_number}
use Rattle.render_jobs.specs.declared.faults.ResumeFault.TheVariants.{Number}
use Rattle.render_jobs.proofs.Checked.{failing_more, failing_here, failing_none}
use Rattle.render_jobs.proofs.faults.check_updates.Goals as goal

pub returns-then-not-has_update : goal.returns-then-not-has_update
returns-then-not-has_update c =
    sym (c.loop-place.invariant ∙ failing_here (λ place (p : Past). nat_lt (past_number p) (length c.args.setup.now.updates)) (λ place. Number (c.args.styles + place)) c.args.updates.now c.loop-place.place _ c.loop-place-test.true (sym c.if-not-has_update.ensures))

pub loop-place-preserved : goal.loop-place-preserved
loop-place-preserved c =
    c.loop-place.invariant ∙ failing_more (λ place (p : Past). nat_lt (past_number p) (length c.args.setup.now.updates)) (λ place. Number (c.args.styles + place)) c.args.updates.now c.loop-place.place _ c.loop-place-test.true (sym c.if-not-has_update.ensures)

pub returns : goal.returns
returns c = sym (c.loop-place.invariant ∙ failing_none (λ place (p : Past). nat_lt (past_number p) (length c.args.setup.now.updates)) (λ place. Number (c.args.styles + place)) c.args.updates.now c.loop-place.place c.loop-place-test.false)
