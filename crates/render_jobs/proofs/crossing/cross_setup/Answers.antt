use Rattle.render_jobs.proofs.Sendable.{setup_send, setup_sync}
use Rattle.render_jobs.proofs.crossing.cross_setup.Goals as goal

pub returns : goal.returns
returns c = record {
  send = setup_send c.cross_map_plan.ensures.send c.cross_snapshot.ensures.send c.cross_update.ensures.send c.cross_restyle.ensures.send;
  sync = setup_sync c.cross_map_plan.ensures.sync c.cross_snapshot.ensures.sync c.cross_update.ensures.sync c.cross_restyle.ensures.sync;
}
