-- What a farm holds crosses threads, since each of its fields does.
use denote.Param.Send.{IsSend, struct_send, recorded_send, view_send, sendable}
use denote.Struct.Declared.{shape}
use Rattle.std.specs.Borrow.{RattleType}
use denote.Builtin.{u32}
use Rattle.std.specs.contracts.option.Option as option
use Rattle.std.proofs.Crossing as any
use Rattle.expiry_lists.specs.contracts.marks.Marks as marks
use Rattle.farm_history.specs.contracts.saved.Past as past
use Rattle.farm_history.specs.contracts.saved.Saved as saved
use Rattle.render_jobs.specs.contracts.shares.Share as share
use Rattle.render_jobs.specs.contracts.taken.Taken as taken
use Rattle.render_queues.specs.contracts.queues.Queues as queues
use Rattle.farm_core.specs.contracts.farm.Farm as farm
use Rattle.farm_core.specs.contracts.farm.Farm.TheInside as farm_in

pub farm_send : (D : RattleType) → IsSend D → IsSend share.the_row → IsSend saved.the_row → IsSend past.the_row → IsSend (option.the_row u32) → IsSend taken.the_row → IsSend queues.the_row → IsSend marks.the_row → IsSend (farm.the_row D)
farm_send D s h a p o t q m = view_send _ _ _ _ _ (recorded_send _ _ (farm_in.the_type D).to (farm_in.the_type D).to_one
    (struct_send (shape (farm_in.the_type D)) (
      h,
      (
        any.Vec-send _ h,
        (
          search (sendable, a) depth 14,
          (
            search (sendable, s) depth 14,
            (
              s,
              (
                any.Vec-send _ p,
                (
                  any.Vec-send _ o,
                  (
                    any.Vec-send _ t,
                    (q, (m, (search sendable depth 24, tt))),
                  ),
                ),
              ),
            ),
          ),
        ),
      ),
    )))
