use Rattle.std.proofs.Common.{◌≡◌, sym, ap, ◌∙◌, subst}
use Rattle.farm_history.specs.declared.keys.Key.{Key}
use Rattle.farm_history.specs.Plans.{is_servable, key_of, own_queue}
use Rattle.farm_plan.specs.Drawings.{plan_of}
use Rattle.farm_plan.specs.Spots.{IsKeyOf}
use Rattle.farm_refinement.specs.Seen.{FarmSeen}
use Rattle.farm_core.specs.inner.Asks.{Dirtied, noted_tables, rendered_at, rendered_counts}
use Rattle.farm_core.proofs.Asked.{ask_dirty, ask_rendered, if_first}
use Rattle.farm_core.proofs.farm.Farm.ask.Goals as goal

pub returns-then-is_dirty_command-clause-step : goal.returns-then-is_dirty_command-clause-step
returns-then-is_dirty_command-clause-step g c = λ told h s.
    let served = c.spot_key-served.ensures.served ∙ ap {A = FarmSeen g.row.D.Denot} (λ f. is_servable (plan_of f.plan) c.args.spot) c.count_turn.ensures.turned in
    let key = if_first (λ (k : Key). k ≡ key_of c.args.spot) (IsKeyOf c.count_turn.new.self.plan) c.spot_key-served.result c.spot_key-served.ensures.key in
    ask_dirty g.D.TileStore.state told _ _ h _ _ _ c.spot_key-served.result (sym c.is_dirty_command.ensures ∙ c.if-is_dirty_command.true) served key
    (subst (λ (f : FarmSeen g.row.D.Denot). Dirtied f c.mark.new.self c.spot_key-served.result) c.count_turn.ensures.turned c.mark.ensures) s

pub returns-clause-step : goal.returns-clause-step
returns-clause-step g c = λ told h s.
    let served = c.spot_key-served.ensures.served ∙ ap {A = FarmSeen g.row.D.Denot} (λ f. is_servable (plan_of f.plan) c.args.spot) c.count_turn.ensures.turned in
    let key = if_first (λ (k : Key). k ≡ key_of c.args.spot) (IsKeyOf c.count_turn.new.self.plan) c.spot_key-served.result c.spot_key-served.ensures.key in
    let answer = c.rendered-answer.ensures.answer ∙ ap {A = FarmSeen g.row.D.Denot} (λ f. rendered_at f c.args.conn c.args.cmd c.spot_key-served.result) c.count_turn.ensures.turned in
    let counted = c.count_ask.ensures ∙ ap {A = FarmSeen g.row.D.Denot} (λ f. record f { counts = rendered_counts c.rendered-answer.result f.counts }) c.count_turn.ensures.turned in
    let noted = c.note_served.ensures
    ∙ ap {A = FarmSeen g.row.D.Denot} (λ f. record f { queues = noted_tables f.queues (own_queue c.args.cmd) c.args.conn c.spot_key-served.result c.rendered-answer.result }) counted in
    ask_rendered g.D.TileStore.state told _ _ h _ _ _ c.spot_key-served.result _ (sym c.is_dirty_command.ensures ∙ c.if-is_dirty_command.false) served key answer noted s
