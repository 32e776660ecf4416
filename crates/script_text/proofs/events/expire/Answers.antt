use Rattle.std.proofs.Common.{refl}
use Rattle.farm_history.specs.Entries as entry
use Rattle.script_text.proofs.Saying.{line_said}
use Rattle.script_text.proofs.events.expire.Goals as goal

pub returns-clause-step : goal.returns-clause-step
returns-clause-step g c = λ told h s. record {
  e = entry.Expire c.args.t c.expire-count.result;
  is_entry = (c.expire-count.result, refl);
  stands = c.expire-count.ensures.step told h s;
  said = line_said _ _ _ _ _ _ c.said.ensures refl refl c.expire_line.ensures;
}
