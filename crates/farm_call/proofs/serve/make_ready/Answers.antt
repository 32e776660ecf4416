use Rattle.std.proofs.Common.{refl, ap}
use Rattle.std.proofs.lemmas.Result.{err_from_is_err_and}
use Rattle.farm_config.specs.Configs.{Config}
use Rattle.farm_runs.specs.Actors.{each_port}
use Rattle.farm_call.proofs.Steps.{not_begun, not_listening, made_ready}
use Rattle.farm_call.proofs.serve.make_ready.Goals as goal

pub returns-in_err-farm-clause-made : goal.returns-in_err-farm-clause-made
returns-in_err-farm-clause-made g c =
    let p = err_from_is_err_and c.from_residual.result c.from_residual.ensures.1 in
    rw (p.1, p.2) (not_begun g.D.TileStore.state _ _ c.served.view_is c.args.store _ c.inputs.view_is _ (ap (λ (k : Config). k.resume) c.config.view_is) _ _ _ c.in_err-farm.ensures)

pub returns-in-Err-clause-made : goal.returns-in-Err-clause-made
returns-in-Err-clause-made g c =
    not_listening g.D.TileStore.state _ _ c.served.view_is c.args.store _ c.inputs.view_is _ (ap (λ (k : Config). k.resume) c.config.view_is) (each_port g.P.Ports.state c.args.ports.now) (each_port g.P.Ports.state c.listen_at.new.ports) _ c.in-Err.stop c.in_ok-farm.farm
    c.in_ok-farm.ensures.0 c.into_store.ensures c.in-Err.ensures

pub returns-clause-made : goal.returns-clause-made
returns-clause-made g c =
    made_ready g.D.TileStore.state _ _ c.served.view_is c.args.store _ c.inputs.view_is _ (ap (λ (k : Config). k.resume) c.config.view_is) (each_port g.P.Ports.state c.args.ports.now) (each_port g.P.Ports.state c.listen_at.new.ports) _ c.in_ok-farm.ensures.0
    c.in_default-listen_at.ensures refl refl
