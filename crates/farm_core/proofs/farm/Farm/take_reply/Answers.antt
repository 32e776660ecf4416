use Rattle.std.proofs.Common.{◌≡◌, find, subst, Option, None}
use Rattle.farm_history.specs.declared.queues.Reply.{Reply}
use Rattle.render_queues.specs.Tables.{is_of_front}
use Rattle.farm_refinement.specs.Seen.{FarmSeen}
use Rattle.farm_core.specs.inner.Effects.{TakesFirst}
use Rattle.farm_core.proofs.Replied.{takes_first}
use Rattle.farm_core.proofs.farm.Farm.take_reply.Goals as goal

pub returns-in_err-reply : goal.returns-in_err-reply
returns-in_err-reply g c =
    let none = subst (λ (o : Option Reply). TakesFirst c.self.inside.queues c.collect.new.self c.args.front o) c.in_err-reply.was (takes_first _ _ _ _ c.collect.ensures.first c.collect.ensures.tables) in
    rw c.from_residual.ensures
    (subst (λ (f : FarmSeen g.row.D.Denot). find (is_of_front c.args.front) f.queues.ended ≡ None) c.self.view_is none.0, rw none.1 c.self.view_is)
