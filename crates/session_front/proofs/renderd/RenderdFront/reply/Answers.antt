use Rattle.std.proofs.Common.{◌++◌, find, refl, ap, ◌∙◌}
use Rattle.session_front.specs.Renderd.{outcome_command}
use Rattle.session_front.specs.inner.Reads.{is_wait, pairs, response_for}
use Rattle.session_front.proofs.Hearings.{replied, replied_halts}
use Rattle.session_front.proofs.renderd.RenderdFront.reply.Goals as goal

pub returns-in-Ok-clause-replied : goal.returns-in-Ok-clause-replied
returns-in-Ok-clause-replied g c = λ given ms k.
    replied c.args._context.now.front.now.front (g.M.Farm.map_at c.args._context.now.farm.now) c.args.reply _ c.args.conn_state.now _ _ given ms k
    (c.in-Ok.ensures.response ∙ ap (λ l. l ++ response_for (outcome_command c.args.reply.outcome) (find (is_wait c.args.reply.ask) (pairs c.args.conn_state.now.waits.items))) c.requires.empty)
    c.in-Ok.ensures.waits refl

pub returns-in-Err-clause-replied : goal.returns-in-Err-clause-replied
returns-in-Err-clause-replied g c = λ given ms k. replied_halts c.args._context.now.front.now.front (g.M.Farm.map_at c.args._context.now.farm.now) c.args.reply _ c.args.conn_state.now _ _ given ms k
