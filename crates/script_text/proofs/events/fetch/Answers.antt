use Rattle.farm_history.specs.Entries as entry
use Rattle.script_text.proofs.Saying.{both_said, fetch_failed}
use Rattle.script_text.proofs.events.fetch.Goals as goal

pub returns-clause-step : goal.returns-clause-step
returns-clause-step g c = λ told h s. record {
  e = entry.Fetch c.spot_at-spot.result c.fetch-answer.result;
  is_entry = (c.fetch-answer.result, λ i. entry.Fetch (c.spot_at-spot.ensures i) c.fetch-answer.result);
  stands = c.fetch-answer.ensures.step told h s;
  said = both_said _ _ _ _ c.fetch_said.ensures.text c.fetch_said.ensures.failed (fetch_failed c.spot_at-spot.result c.fetch-answer.result);
}
