use Rattle.std.proofs.Common.{refl}
use Rattle.std.specs.Prelude.{Ok}
use Rattle.farm_call.proofs.Steps.{not_served, served}
use Rattle.farm_call.proofs.serve.serve_config.Goals as goal

pub returns-in-Ok-make_ready : goal.returns-in-Ok-make_ready
returns-in-Ok-make_ready g c =
    let is = c.in-Ok-make_ready.ensures.made in
    record {
      made = Ok c.in-Ok.served;
      followed = c.in-Ok.ensures.follows;
      serves = served g.D.TileStore.state c.in-Ok.served c.args.store _ _ _ _ c.in-Ok-make_ready.ready is.resume_is is.lists_are _ is.begun is.listens c.serve_ready.result c.serve_ready.ensures;
    }

pub returns-in-Err-make_ready : goal.returns-in-Err-make_ready
returns-in-Err-make_ready g c =
    let stopped = c.stop_with-in-Err-make_ready in
    record {
      made = Ok c.in-Ok.served;
      followed = c.in-Ok.ensures.follows;
      serves = not_served g.D.TileStore.state c.in-Ok.served c.args.store _ _ _ _ c.in-Err-make_ready.store c.in-Err-make_ready.stop stopped.result stopped.ensures.end stopped.ensures.left stopped.ensures.fronts refl c.in-Err-make_ready.ensures.made;
    }
