use Rattle.std.proofs.Common.{◌∙◌, sym}
use Rattle.render_jobs.specs.declared.faults.ResumeFault.TheVariants.{Number}
use Rattle.render_jobs.specs.Faults.{is_style_at}
use Rattle.render_jobs.proofs.Checked.{failing_more, failing_here, failing_none}
use Rattle.render_jobs.proofs.faults.check_styles.Goals as goal

pub returns-then-not-is_style_at : goal.returns-then-not-is_style_at
returns-then-not-is_style_at c =
    sym (c.loop-map.invariant ∙ failing_here (is_style_at c.args.setup.now) (λ place. Number place) c.args.styles.now c.loop-map.map _ c.loop-map-test.true (sym c.if-not-is_style_at.ensures))

pub loop-map-preserved : goal.loop-map-preserved
loop-map-preserved c =
    c.loop-map.invariant ∙ failing_more (is_style_at c.args.setup.now) (λ place. Number place) c.args.styles.now c.loop-map.map _ c.loop-map-test.true (sym c.if-not-is_style_at.ensures)

pub returns : goal.returns
returns c = sym (c.loop-map.invariant ∙ failing_none (is_style_at c.args.setup.now) (λ place. Number place) c.args.styles.now c.loop-map.map c.loop-map-test.false)
