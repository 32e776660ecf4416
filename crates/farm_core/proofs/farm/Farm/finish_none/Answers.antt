use Rattle.std.proofs.Common.{sym, ap, ◌∙◌, subst}
use Rattle.farm_history.specs.declared.keys.Key.{Key}
use Rattle.farm_history.specs.declared.queues.Outcome.{Outcome}
use Rattle.render_queues.specs.Tables.{after_end}
use Rattle.farm_refinement.specs.Seen.{FarmSeen}
use Rattle.farm_refinement.specs.inner.Events.{untaken}
use Rattle.farm_core.specs.inner.Effects.{IsTaken, turn}
use Rattle.farm_core.proofs.Flown.{flight_taken, taken_turned}
use Rattle.farm_core.proofs.Told.{finish_cut}
use Rattle.farm_core.proofs.farm.Farm.finish_none.Goals as goal

pub release-requires : goal.release-requires
release-requires g c =
    subst (λ (f : FarmSeen g.row.D.Denot). IsTaken f c.args.job) (sym c.count_turn.ensures.turned)
    (taken_turned c.args.self.now c.args.job (flight_taken g.D.TileStore.state c.requires.flight.0 c.args.self.now c.requires.flight.1 c.args.job c.requires.flight.2 c.requires.flight.3))

pub returns-clause-step : goal.returns-clause-step
returns-clause-step g c = λ told h s flight.
    let released = c.release.ensures.farm ∙ ap {A = FarmSeen g.row.D.Denot} (λ f. record f { taken = untaken c.args.job.ticket f.taken }) c.count_turn.ensures.turned in
    let cut = c.cut.ensures ∙ ap {A = FarmSeen g.row.D.Denot} (λ f. record f { queues = after_end f.queues c.key-key.result Outcome.Cut }) released
    ∙ ap {B = FarmSeen g.row.D.Denot} (λ (k : Key). record (turn c.args.self.now) { taken = untaken c.args.job.ticket c.args.self.now.taken; queues = after_end c.args.self.now.queues k Outcome.Cut }) c.key-key.ensures in
    (finish_cut g.D.TileStore.state told c.args.self.now c.cut.new.self h c.args.job flight cut s)

pub returns-clause-puts : goal.returns-clause-puts
returns-clause-puts g c =
    let released = c.release.ensures.farm ∙ ap {A = FarmSeen g.row.D.Denot} (λ f. record f { taken = untaken c.args.job.ticket f.taken }) c.count_turn.ensures.turned in
    let cut = c.cut.ensures ∙ ap {A = FarmSeen g.row.D.Denot} (λ f. record f { queues = after_end f.queues c.key-key.result Outcome.Cut }) released in
    (ap {A = FarmSeen g.row.D.Denot} (λ f. g.D.TileStore.state f.store) cut)
