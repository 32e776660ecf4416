use Rattle.std.proofs.Common.{refl}
use Rattle.farm_history.specs.Entries as entry
use Rattle.script_text.proofs.Saying.{line_said}
use Rattle.script_text.proofs.events.look.Goals as goal

pub returns-clause-step : goal.returns-clause-step
returns-clause-step g c = λ told h s. record {
  e = entry.Look c.spot_at-spot.result c.look-answer.result;
  is_entry = (c.look-answer.result, λ i. entry.Look (c.spot_at-spot.ensures i) c.look-answer.result);
  stands = c.look-answer.ensures.step told h s;
  said = line_said _ _ _ _ _ _ c.said.ensures refl refl c.look_line.ensures;
}
