use Rattle.std.proofs.Common.{refl, sym, ◌∙◌}
use Rattle.tile_front.proofs.Replieds.{replies_none, replies_fetched}
use Rattle.tile_front.proofs.fronts.TilesFront.reply.Goals as goal

pub returns-in_default-clause-replied : goal.returns-in_default-clause-replied
returns-in_default-clause-replied g c =
    replies_none c.args.context.now.front.now.front (g.M.Farm.map_at c.args.context.now.farm.now) c.args.reply ((g.M.Farm.seats c.args.context.now.farm.now).mine c.args.seat.now) c.args.conn_state.now c.args.response.now.items
    (sym c.spot_of_ask.ensures ∙ c.in_default.is) c.requires.empty

pub returns-clause-replied : goal.returns-clause-replied
returns-clause-replied g c =
    replies_fetched c.args.context.now.front.now.front (g.M.Farm.map_at c.args.context.now.farm.now) c.args.reply c.in-Some.spot _ _ c.args.conn_state.now _ _ _ (sym c.spot_of_ask.ensures ∙ c.in-Some.is) refl
    c.fetch_and_say.ensures.fetches
