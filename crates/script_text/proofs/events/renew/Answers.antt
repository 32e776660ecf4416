use Rattle.std.proofs.Common.{refl}
use Rattle.farm_history.specs.Entries as entry
use Rattle.script_text.proofs.Saying.{some_said}
use Rattle.script_text.proofs.events.renew.Goals as goal

pub returns-clause-step : goal.returns-clause-step
returns-clause-step g c = λ told h s. record {
  e = entry.Renew c.args.number c.renew-answer.result;
  is_entry = (c.renew-answer.result, refl);
  stands = c.renew-answer.ensures.step told h s;
  said = some_said _ _ _ _ _ c.said.ensures refl c.renew_line.ensures;
}
