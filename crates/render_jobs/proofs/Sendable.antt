-- What a share holds crosses threads, since each of its fields does.
use denote.Param.Send.{IsSend, IsSync, struct_send, struct_sync, recorded_send, recorded_sync, view_send, view_sync, sendable}
use denote.Struct.Declared.{shape}
use Rattle.std.proofs.Crossing as any
use Rattle.data_versions.specs.contracts.dataset.Update as update
use Rattle.data_versions.specs.contracts.snapshot.Snapshot as snapshot
use Rattle.farm_plan.specs.contracts.plans.MapPlan as map_plan
use Rattle.farm_plan.specs.contracts.plans.Restyle as restyle
use Rattle.render_jobs.specs.contracts.shares.Setup as setup
use Rattle.render_jobs.specs.contracts.shares.Setup.TheInside as setup_in

pub setup_send : IsSend map_plan.the_row → IsSend snapshot.the_row → IsSend update.the_row → IsSend restyle.the_row → IsSend setup.the_row
setup_send m s u r = view_send _ _ _ _ _ (recorded_send _ _ setup_in.the_type.to setup_in.the_type.to_one
    (struct_send (shape setup_in.the_type) (any.Vec-send _ m, (s, (any.Vec-send _ u, (search sendable, (search sendable depth 14, (any.Vec-send _ r, tt))))))))

pub setup_sync : IsSync map_plan.the_row → IsSync snapshot.the_row → IsSync update.the_row → IsSync restyle.the_row → IsSync setup.the_row
setup_sync m s u r = view_sync _ _ _ _ _ (recorded_sync _ _ setup_in.the_type.to setup_in.the_type.to_one
    (struct_sync (shape setup_in.the_type) (any.Vec-sync _ m, (s, (any.Vec-sync _ u, (search sendable, (search sendable depth 14, (any.Vec-sync _ r, tt))))))))
