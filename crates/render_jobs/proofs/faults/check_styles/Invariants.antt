-- Those so far pass.
use Rattle.std.proofs.Common.{◌≡◌, drop}
use Rattle.render_jobs.specs.Faults.{is_style_at, first_failing}
use Rattle.render_jobs.specs.inner.Faults.{styles_fault}
use Rattle.render_jobs.specs.declared.faults.ResumeFault.TheVariants.{Number}
use Rattle.render_jobs.proofs.faults.check_styles.Given as goal

abbrev pub invariant-loop-map : goal.invariant-loop-map
invariant-loop-map l = styles_fault l.setup l.styles ≡ first_failing (is_style_at l.setup) (λ place. Number place) l.map (drop l.map l.styles)
