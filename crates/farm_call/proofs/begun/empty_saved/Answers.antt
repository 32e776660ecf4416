use Rattle.farm_call.proofs.Beginning.{not_emptied}
use Rattle.farm_call.proofs.begun.empty_saved.Goals as goal

pub returns-in-Err : goal.returns-in-Err
returns-in-Err g c = not_emptied g.D.TileStore.state c.args.farm c.put_beside.new.self _ c.in-Err.fault _ c.in-Err.ensures.store c.into_store.ensures c.stop_of.ensures
