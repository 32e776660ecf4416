use Rattle.std.proofs.Common.{◌++◌, ◌∷◌, [], ap, sym, ◌∙◌}
use Rattle.farm_history.specs.Entries.{Ask}
use Rattle.session_front.proofs.Making.{one_made, one_halts}
use Rattle.session_front.proofs.asking.ask.Goals as goal

pub returns-in_default-settle-clause-made : goal.returns-in_default-settle-clause-made
returns-in_default-settle-clause-made g c =
    one_halts c.args.context.now.front.now.front (g.M.Farm.map_at c.args.context.now.farm.now) c.args.conn c.args.request c.in-Ok.answer c.in-Some.cmd _ _ (sym c.command_of.ensures ∙ c.in-Some.is)
    (c.in-Ok.ensures.takes ∙ ap (λ s. (g.M.Farm.seats c.args.context.now.farm.now).mine c.args.seat.now ++ Ask (record { front = c.args.context.now.front.now.front; number = c.args.conn }) c.in-Some.cmd s c.in-Ok.answer ∷ []) c.spot_of-spot.ensures)

pub returns-clause-made : goal.returns-clause-made
returns-clause-made g c =
    one_made c.args.context.now.front.now.front (g.M.Farm.map_at c.args.context.now.farm.now) c.args.conn c.args.request c.in-Ok.answer c.in-Some.cmd _ _ _ _ _ _ (sym c.command_of.ensures ∙ c.in-Some.is)
    (c.in-Ok.ensures.takes ∙ ap (λ s. (g.M.Farm.seats c.args.context.now.farm.now).mine c.args.seat.now ++ Ask (record { front = c.args.context.now.front.now.front; number = c.args.conn }) c.in-Some.cmd s c.in-Ok.answer ∷ []) c.spot_of-spot.ensures)
    c.in-Ok-settle.ensures.waits c.in-Ok-settle.ensures.response
