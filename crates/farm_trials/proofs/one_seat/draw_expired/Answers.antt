use Rattle.std.proofs.Common.{refl}
use Rattle.farm_trials.proofs.Turning.{keeps_job}
use Rattle.farm_trials.proofs.one_seat.draw_expired.Goals as goal

pub finish-finished-requires-clause-job : goal.finish-finished-requires-clause-job
finish-finished-requires-clause-job g c =
    let given = rw c.in-Ok-Job.field-0-is at c.in-Ok-Job.ensures.job in
    keeps_job _ _ _ c.ask-asked.result c.expire-expired.new.seat c.ask-asked.new.seat c.in-Ok-Job.job (λ _. refl) c.ask-asked.ensures.same c.ask-asked.ensures.turn
    (keeps_job _ _ _ c.expire-expired.result c.claim.new.seat c.expire-expired.new.seat c.in-Ok-Job.job (λ _. refl) c.expire-expired.ensures.same c.expire-expired.ensures.turn given.2)
