use Rattle.std.proofs.Common.{refl}
use Rattle.farm_history.specs.Entries as entry
use Rattle.script_text.proofs.Saying.{some_said}
use Rattle.script_text.proofs.events.update.Goals as goal

pub returns-clause-step : goal.returns-clause-step
returns-clause-step g c = λ told h s. record {
  e = entry.Update c.args.number c.update-answer.result;
  is_entry = (c.update-answer.result, refl);
  stands = c.update-answer.ensures.step told h s;
  said = some_said _ _ _ _ _ c.said.ensures refl c.update_line.ensures;
}
