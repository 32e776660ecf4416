use Rattle.std.proofs.Common.{◌<◌, length, arith}
use Rattle.geo_json.proofs.Gathered.{new_more}
use Rattle.geo_json.proofs.pulled_layers.feature_from.Goals as goal

pub returns-in-Ok-clause-known : goal.returns-in-Ok-clause-known
returns-in-Ok-clause-known c =
    let room : length c.args.before.now < 1000000 = omega arith in
    (c.in-Ok.ensures.known, new_more c.args.before.now c.in-Ok.feature room c.requires.1 c.in-Ok.ensures.apart)
