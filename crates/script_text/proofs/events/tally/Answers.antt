use Rattle.std.proofs.Common.{refl}
use Rattle.farm_history.specs.Entries as entry
use Rattle.script_text.proofs.Saying.{line_said}
use Rattle.script_text.proofs.events.tally.Goals as goal

pub returns-clause-step : goal.returns-clause-step
returns-clause-step g c = λ told h s. record {
  e = entry.Tally c.tally-totals.result;
  is_entry = (c.tally-totals.result, refl);
  stands = c.tally-totals.ensures.step told h s;
  said = line_said _ _ _ _ _ _ c.said.ensures refl refl c.tally_line.ensures;
}
