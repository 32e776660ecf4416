-- A renew, from its parts to the history with it.
use Rattle.std.proofs.Common.{◌≡◌, ◌≢◌, length, sym, ap, ◌∙◌, subst}
use Rattle.std.specs.Prelude.{Err, nat_lt}
use Rattle.farm_base.specs.declared.faults.ApplyFault.{ApplyFault}
use Rattle.plain_shapes.specs.Data.{update_result}
use Rattle.farm_plan.specs.Drawings.{update_of}
use Rattle.farm_refinement.specs.Seen.{FarmSeen}
use Rattle.farm_core.specs.inner.Renews.{Renews}
use Rattle.farm_core.proofs.Renewing.{renew_told, renew_refused, renew_unknown}
use Rattle.farm_core.proofs.farm.Farm.renew.Goals as goal

pub returns-then-not-has_update-clause-step : goal.returns-then-not-has_update-clause-step
returns-then-not-has_update-clause-step g c = λ told h s.
    let lt = ap {A = FarmSeen g.row.D.Denot} (λ f. nat_lt c.args.number (length f.plan.updates)) (sym c.count_turn.ensures.turned) ∙ sym c.if-not-has_update.ensures in
    renew_unknown g.D.TileStore.state told c.args.self.now c.count_turn.new.self h c.args.number lt c.count_turn.ensures.turned s

pub returns-in-Ok-clause-step : goal.returns-in-Ok-clause-step
returns-in-Ok-clause-step g c = λ told h s.
    let lt = ap {A = FarmSeen g.row.D.Denot} (λ f. nat_lt c.args.number (length f.plan.updates)) (sym c.count_turn.ensures.turned) ∙ sym c.if-not-has_update.ensures in
    renew_told g.D.TileStore.state told c.args.self.now c.renew_data.new.self h c.args.number c.version.result c.in-Ok.count lt
    (subst (λ (f : FarmSeen g.row.D.Denot). Renews f c.renew_data.new.self c.args.number c.in-Ok.count) c.count_turn.ensures.turned c.in-Ok.ensures.done) c.version.ensures c.requires s

pub returns-in-Err-clause-step : goal.returns-in-Err-clause-step
returns-in-Err-clause-step g c = λ told h s.
    let lt = ap {A = FarmSeen g.row.D.Denot} (λ f. nat_lt c.args.number (length f.plan.updates)) (sym c.count_turn.ensures.turned) ∙ sym c.if-not-has_update.ensures in
    renew_refused g.D.TileStore.state told c.args.self.now c.renew_data.new.self h c.args.number c.in-Err.fault lt
    (subst (λ (f : FarmSeen g.row.D.Denot). c.in-Err.fault ≢ ApplyFault.NoMemory → update_result (update_of f.plan c.args.number) f.data_now ≡ Err c.in-Err.fault) c.count_turn.ensures.turned c.in-Err.ensures.refused)
    (c.in-Err.ensures.same ∙ c.count_turn.ensures.turned) s
