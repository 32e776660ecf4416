use Rattle.std.proofs.Common.{Some, None, subst}
use Rattle.farm_refinement.specs.Seen.{FarmSeen}
use Rattle.farm_core.specs.inner.Effects.{Collects}
use Rattle.farm_core.proofs.Told.{collect_none, collect_reply}
use Rattle.farm_core.proofs.farm.Farm.collect.Goals as goal

pub returns-in-Some-clause-step : goal.returns-in-Some-clause-step
returns-in-Some-clause-step g c = λ told h s.
    collect_reply g.D.TileStore.state told _ _ h _ _
    (subst (λ (f : FarmSeen g.row.D.Denot). Collects f c.take_reply.new.self c.args.front (Some c.in-Some.reply)) c.count_turn.ensures.turned c.in-Some.ensures) s

pub returns-in-None-clause-step : goal.returns-in-None-clause-step
returns-in-None-clause-step g c = λ told h s.
    collect_none g.D.TileStore.state told _ _ h _ _
    (subst (λ (f : FarmSeen g.row.D.Denot). Collects f c.take_reply.new.self c.args.front None) c.count_turn.ensures.turned c.in-None.ensures) c.no_reply.ensures s
