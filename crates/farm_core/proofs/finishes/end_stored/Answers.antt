use Rattle.std.proofs.Common.{◌∙◌, ap}
use Rattle.farm_history.specs.declared.queues.Outcome.{Outcome}
use Rattle.render_queues.specs.Tables.{Tables, standing}
use Rattle.farm_core.proofs.Standing.{ended_nowhere}
use Rattle.farm_core.proofs.finishes.end_stored.Goals as goal

pub place-requires-clause-new : goal.place-requires-clause-new
place-requires-clause-new c = ap (λ (t : Tables). standing t c.args.key) c.end.ensures ∙ ended_nowhere _ _ Outcome.Done c.law_sound.ensures c.requires
