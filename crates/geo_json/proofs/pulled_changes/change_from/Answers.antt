use Rattle.std.proofs.Common.{◌<◌, length, arith}
use Rattle.std.specs.Prelude.{option_map}
use Rattle.serde_json.specs.Data.{object}
use Rattle.geo_json.proofs.GatheredUpdates.{change_more}
use Rattle.geo_json.proofs.pulled_changes.change_from.Goals as goal

pub returns-in-Some-clause-value : goal.returns-in-Some-clause-value
returns-in-Some-clause-value c =
    let room : length c.args.before.now < 1000000 = omega arith in
    let found = c.in_ok-pull_object.ensures.value in
    let g = c.pull_object.new.gathered in
    let is = c.in-Some.ensures in
    let more = change_more c.args.units c.args.before.now g.layer (option_map (λ v. v.items) g.remove) (option_map (λ v. v.items) g.put) c.in-Some.change found.0 room is.0 is.1 is.2 found.2 c.requires in
    (object found.0, found.1, more.0, more.1)
