use Rattle.std.proofs.Common.{ap, sym, ◌∙◌, length}
use Rattle.std.specs.Prelude.{◌==◌}
use Rattle.exit_status.proofs.Reported.{report_none}
use Rattle.exit_status.proofs.sinks.report.Goals as goal

pub returns-then-is_empty : goal.returns-then-is_empty
returns-then-is_empty g c = report_none _ _ _ (ap (λ n. length n == 0) (sym c.err_line-line.ensures) ∙ sym c.is_empty.ensures ∙ c.if-is_empty.true) c.status_of-status.ensures
