use Rattle.std.proofs.Common.{refl}
use Rattle.farm_history.specs.Entries as entry
use Rattle.script_text.proofs.Saying.{line_said}
use Rattle.script_text.proofs.events.collect.Goals as goal

pub returns-clause-step : goal.returns-clause-step
returns-clause-step g c = λ told h s. record {
  e = entry.Collect c.args.front c.collect-answer.result;
  is_entry = (c.collect-answer.result, refl);
  stands = c.collect-answer.ensures.step told h s;
  said = line_said _ _ _ _ _ _ c.said.ensures refl refl c.collect_line.ensures;
}
