use Rattle.farm_call.proofs.Steps.{ends_run}
use Rattle.farm_call.proofs.ending.end_run.Goals as goal

pub returns : goal.returns
returns g c =
    ends_run g.D.TileStore.state c.args.resume c.args.run _ _ c.wind_up-end.new.closed c.in_order.result c.is_worn_out.result c.why_ended-why.result _ c.is_worn_out.ensures c.why_ended-why.ensures c.wind_up-end.ensures.history c.in_order.ensures
    c.wind_up-end.ensures.winds
