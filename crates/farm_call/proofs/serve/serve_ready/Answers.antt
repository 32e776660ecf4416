use Rattle.control_front.proofs.OwnEntries.{is_front}
use Rattle.farm_call.proofs.Steps.{has_run}
use Rattle.farm_call.proofs.serve.serve_ready.Goals as goal

pub run_farm-requires-clause-control : goal.run_farm-requires-clause-control
run_farm-requires-clause-control g c κs within = is_front c.as_slice.result.now

pub returns-in-Ok : goal.returns-in-Ok
returns-in-Ok g c = has_run g.D.TileStore.state c.args.ready _ _ _ _ _ c.as_slice.ensures.value c.in-Ok.run' c.end_run.result c.in-Ok.ensures.ran c.end_run.ensures
