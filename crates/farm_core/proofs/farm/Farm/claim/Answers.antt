use Rattle.std.proofs.Common.{◌∷◌, Some, None, sym, ap, ◌∙◌, subst}
use Rattle.farm_history.specs.declared.answers.ClaimAnswer.{ClaimAnswer}
use Rattle.farm_history.specs.Entries.{Claim}
use Rattle.render_queues.specs.Tables.{AreSound}
use Rattle.farm_refinement.specs.Seen.{FarmSeen}
use Rattle.farm_refinement.specs.Stands.{StandsFor}
use Rattle.farm_core.specs.inner.Effects.{Claims, is_crowded}
use Rattle.farm_core.specs.inner.Rooms.{AreKeysOf}
use Rattle.farm_core.proofs.Given.{valid_job}
use Rattle.farm_core.proofs.Told.{claim_stopped, claim_crowded, claim_idle, claim_job}
use Rattle.farm_core.proofs.farm.Farm.claim.Goals as goal

pub returns-then-self-clause-step : goal.returns-then-self-clause-step
returns-then-self-clause-step g c = λ told h s.
    let turned = c.self.view_is ∙ c.count_turn.ensures.turned in
    let stopped = ap {A = FarmSeen g.row.D.Denot} (λ f. f.counts.stopped) (sym turned) ∙ c.if-self.true in
    subst (λ (f : FarmSeen g.row.D.Denot). StandsFor g.D.TileStore.state told f (Claim c.args.worker ClaimAnswer.Stopped ∷ h)) (sym c.count_turn.ensures.turned)
    (claim_stopped g.D.TileStore.state told c.args.self.now h c.args.worker stopped s)

pub returns-then-is_crowded-clause-step : goal.returns-then-is_crowded-clause-step
returns-then-is_crowded-clause-step g c = λ told h s.
    let turned = c.self.view_is ∙ c.count_turn.ensures.turned in
    let running = ap {A = FarmSeen g.row.D.Denot} (λ f. f.counts.stopped) (sym turned) ∙ c.if-self.false in
    let crowded = ap {A = FarmSeen g.row.D.Denot} (λ f. is_crowded f) (sym c.count_turn.ensures.turned) ∙ sym c.if-is_crowded.ensures.crowded in
    let sound = subst (λ (f : FarmSeen g.row.D.Denot). AreSound f.queues) c.count_turn.ensures.turned c.is_crowded.ensures.sound in
    subst (λ (f : FarmSeen g.row.D.Denot). StandsFor g.D.TileStore.state told f (Claim c.args.worker ClaimAnswer.Crowded ∷ h)) (sym c.count_turn.ensures.turned)
    (claim_crowded g.D.TileStore.state told c.args.self.now h c.args.worker running crowded sound s)

pub returns-in-Some-clause-step : goal.returns-in-Some-clause-step
returns-in-Some-clause-step g c = λ told h s.
    let turned = c.self.view_is ∙ c.count_turn.ensures.turned in
    let running = ap {A = FarmSeen g.row.D.Denot} (λ f. f.counts.stopped) (sym turned) ∙ c.if-self.false in
    let free = ap {A = FarmSeen g.row.D.Denot} (λ f. is_crowded f) (sym c.count_turn.ensures.turned) ∙ sym c.if-is_crowded.ensures.crowded in
    let sound = subst (λ (f : FarmSeen g.row.D.Denot). AreSound f.queues) c.count_turn.ensures.turned c.is_crowded.ensures.sound in
    claim_job g.D.TileStore.state told c.args.self.now c.take_job.new.self h c.args.worker c.in-Some.job running free sound
    (subst (λ (f : FarmSeen g.row.D.Denot). Claims f c.take_job.new.self c.args.worker (Some c.in-Some.job)) c.count_turn.ensures.turned c.in-Some.ensures) s

pub returns-in-Some-clause-job : goal.returns-in-Some-clause-job
returns-in-Some-clause-job g c =
    let keys = subst (λ (f : FarmSeen g.row.D.Denot). AreKeysOf f.plan f.queues) c.self.view_is c.self.invariant.waiting in
    (valid_job c.count_turn.new.self c.take_job.new.self c.args.worker c.in-Some.job keys c.in-Some.ensures, c.in-Some.ensures.1.worker_is)

pub returns-in-None-clause-step : goal.returns-in-None-clause-step
returns-in-None-clause-step g c = λ told h s.
    let turned = c.self.view_is ∙ c.count_turn.ensures.turned in
    let running = ap {A = FarmSeen g.row.D.Denot} (λ f. f.counts.stopped) (sym turned) ∙ c.if-self.false in
    let free = ap {A = FarmSeen g.row.D.Denot} (λ f. is_crowded f) (sym c.count_turn.ensures.turned) ∙ sym c.if-is_crowded.ensures.crowded in
    let sound = subst (λ (f : FarmSeen g.row.D.Denot). AreSound f.queues) c.count_turn.ensures.turned c.is_crowded.ensures.sound in
    claim_idle g.D.TileStore.state told c.args.self.now c.take_job.new.self h c.args.worker running free sound
    (subst (λ (f : FarmSeen g.row.D.Denot). Claims f c.take_job.new.self c.args.worker None) c.count_turn.ensures.turned c.in-None.ensures) s
