use Rattle.std.proofs.Common.{refl}
use Rattle.farm_history.specs.Entries as entry
use Rattle.script_text.proofs.Saying.{line_said}
use Rattle.script_text.proofs.events.leave.Goals as goal

pub returns-clause-step : goal.returns-clause-step
returns-clause-step g c = λ told h s. record {
  e = entry.Leave c.conn_at.result c.leave-count.result;
  is_entry = (c.leave-count.result, λ i. entry.Leave (c.conn_at.ensures i) c.leave-count.result);
  stands = c.leave-count.ensures.step told h s;
  said = line_said _ _ _ _ _ _ c.said.ensures refl refl c.leave_line.ensures;
}
