use Rattle.std.proofs.Common.{refl}
use Rattle.farm_history.specs.Entries as entry
use Rattle.script_text.proofs.Saying.{line_said}
use Rattle.script_text.proofs.events.ask.Goals as goal

pub returns-clause-step : goal.returns-clause-step
returns-clause-step g c = λ told h s. record {
  e = entry.Ask c.conn_at.result c.args.cmd c.spot_at-spot.result c.ask-answer.result;
  is_entry = (c.ask-answer.result, λ i. entry.Ask (c.conn_at.ensures i) c.args.cmd (c.spot_at-spot.ensures i) c.ask-answer.result);
  stands = c.ask-answer.ensures.step told h s;
  said = line_said _ _ _ _ _ _ c.said.ensures refl refl c.ask_line.ensures;
}
