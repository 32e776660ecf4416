use Rattle.std.proofs.Common.{ap, ◌∙◌}
use Rattle.render_queues.specs.Tables.{after_leave, open_of}
use Rattle.farm_refinement.specs.Seen.{FarmSeen}
use Rattle.farm_core.proofs.Told.{leave_told}
use Rattle.farm_core.proofs.farm.Farm.leave.Goals as goal

pub returns-clause-step : goal.returns-clause-step
returns-clause-step g c = λ told h s.
    let turned = c.self.view_is ∙ c.count_turn.ensures.turned in
    leave_told g.D.TileStore.state told _ _ h _ _
    (c.leave.ensures.count ∙ ap {A = FarmSeen g.row.D.Denot} (λ f. open_of f.queues c.args.conn) turned)
    (rw c.leave.ensures.tables (ap {A = FarmSeen g.row.D.Denot} (λ f. record f { queues = after_leave f.queues c.args.conn }) turned)) s
