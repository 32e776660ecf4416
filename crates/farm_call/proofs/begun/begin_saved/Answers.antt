use Rattle.farm_call.proofs.Beginning.{begun_by, found_is}
use Rattle.farm_call.proofs.begun.begin_saved.Goals as goal

pub returns : goal.returns
returns g c = begun_by g.D.TileStore.state c.args.plan c.args.store c.get.new.self c.in-Ok.ensures.0 _ (found_is _ c.in-Ok.found c.in-Ok.ensures.1) _ _ c.in_ok-farm.ensures c.empty_saved.ensures
