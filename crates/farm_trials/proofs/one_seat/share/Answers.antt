use Rattle.farm_shared.proofs.Shares.{may_share}
use Rattle.farm_trials.proofs.one_seat.share.Goals as goal

pub new-requires-5-clause-stands : goal.new-requires-5-clause-stands
new-requires-5-clause-stands c = may_share _ c.args.plan c.in-Ok.store c.in-Ok-start.farm c.in-Ok-start.ensures.begins
