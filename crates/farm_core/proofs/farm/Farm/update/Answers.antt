use Rattle.std.proofs.Common.{◌≡◌, ◌≢◌, length, sym, ap, ◌∙◌, subst}
use Rattle.std.specs.Prelude.{Err, nat_lt}
use Rattle.farm_base.specs.declared.faults.ApplyFault.{ApplyFault}
use Rattle.plain_shapes.specs.Data.{update_result}
use Rattle.farm_history.specs.declared.saved.Past.{Past}
use Rattle.farm_plan.specs.Drawings.{update_of}
use Rattle.farm_refinement.specs.Seen.{FarmSeen}
use Rattle.farm_core.specs.inner.Effects.{Advances}
use Rattle.farm_core.proofs.Told.{update_told, update_refused, update_unknown}
use Rattle.farm_core.proofs.farm.Farm.update.Goals as goal

pub returns-then-not-has_update-clause-step : goal.returns-then-not-has_update-clause-step
returns-then-not-has_update-clause-step g c = λ told h s.
    let lt = ap {A = FarmSeen g.row.D.Denot} (λ f. nat_lt c.args.number (length f.plan.updates)) (sym c.count_turn.ensures.turned) ∙ sym c.if-not-has_update.ensures in
    update_unknown g.D.TileStore.state told c.args.self.now c.count_turn.new.self h c.args.number lt c.count_turn.ensures.turned s

pub returns-in-Ok-clause-step : goal.returns-in-Ok-clause-step
returns-in-Ok-clause-step g c = λ told h s.
    let lt = ap {A = FarmSeen g.row.D.Denot} (λ f. nat_lt c.args.number (length f.plan.updates)) (sym c.count_turn.ensures.turned) ∙ sym c.if-not-has_update.ensures in
    update_told g.D.TileStore.state told c.args.self.now c.advance.new.self h c.args.number c.version.result lt
    (subst (λ (f : FarmSeen g.row.D.Denot). Advances f c.advance.new.self c.args.number (Past.Update c.args.number)) c.count_turn.ensures.turned c.in-Ok.ensures.done) c.version.ensures s

pub returns-in-Err-clause-step : goal.returns-in-Err-clause-step
returns-in-Err-clause-step g c = λ told h s.
    let lt = ap {A = FarmSeen g.row.D.Denot} (λ f. nat_lt c.args.number (length f.plan.updates)) (sym c.count_turn.ensures.turned) ∙ sym c.if-not-has_update.ensures in
    update_refused g.D.TileStore.state told c.args.self.now c.advance.new.self h c.args.number c.in-Err.fault lt
    (subst (λ (f : FarmSeen g.row.D.Denot). c.in-Err.fault ≢ ApplyFault.NoMemory → update_result (update_of f.plan c.args.number) f.data_now ≡ Err c.in-Err.fault) c.count_turn.ensures.turned c.in-Err.ensures.refused)
    (c.in-Err.ensures.same ∙ c.count_turn.ensures.turned) s
