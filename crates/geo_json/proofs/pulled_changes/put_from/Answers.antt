use Rattle.std.proofs.Common.{◌<◌, length, arith}
use Rattle.geo_json.proofs.GatheredUpdates.{few_more}
use Rattle.geo_json.proofs.pulled_changes.put_from.Goals as goal

pub returns-in-Ok-clause-few : goal.returns-in-Ok-clause-few
returns-in-Ok-clause-few c =
    let room : length c.args.before.now < 1000000 = omega arith in
    few_more c.args.before.now c.in-Ok.feature room
