use Rattle.std.proofs.Common.{rules, ◌≡◌, sym, subst}
use Rattle.farm_history.specs.declared.asks.AskAnswer.{AskAnswer}
use Rattle.farm_history.specs.Plans.{own_queue}
use Rattle.render_queues.specs.Tables.{AreSound}
use Rattle.farm_refinement.specs.Seen.{FarmSeen}
use Rattle.farm_core.specs.inner.Asks.{Needs, answer_at}
use Rattle.farm_core.proofs.Asking.{answer_needs}
use Rattle.farm_core.proofs.farm.Farm.answer.Goals as goal

pub returns-clause-needs : goal.returns-clause-needs
returns-clause-needs g c =
    let sound = subst (λ (f : FarmSeen g.row.D.Denot). AreSound f.queues) c.self.view_is c.place_of-place.ensures.sound in
    let is : c.answer_of_waiting.result ≡ answer_at c.args.self.now c.args.conn c.args.cmd c.args.key = search rules in
    subst (λ (a : AskAnswer). Needs c.args.self.now.queues (own_queue c.args.cmd) c.args.key a) (sym is)
    (answer_needs c.args.self.now c.args.conn c.args.cmd c.args.key sound)
