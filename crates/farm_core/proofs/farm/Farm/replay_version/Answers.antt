use Rattle.farm_core.proofs.Versions.{version_done}
use Rattle.farm_core.proofs.farm.Farm.replay_version.Goals as goal

pub returns-in-Ok-clause-done : goal.returns-in-Ok-clause-done
returns-in-Ok-clause-done g c =
    let keys = c.in_ok-replay_keys.ensures in
    version_done g.D.TileStore.state c.args.self.now c.replay_keys.new.self c.replay_change.new.self c.args.version c.args.past c.args.clean.now c.requires.version c.requires.known keys.replayed keys.fresh keys.turns keys.same keys.stays c.in-Ok.ensures.done
