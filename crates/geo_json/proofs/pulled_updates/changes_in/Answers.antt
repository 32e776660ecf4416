use Rattle.std.specs.Prelude.{option_map}
use Rattle.geo_json.proofs.GatheredUpdates.{changes_gathered}
use Rattle.geo_json.proofs.pulled_updates.changes_in.Goals as goal

pub returns-in-Some-changes_of : goal.returns-in-Some-changes_of
returns-in-Some-changes_of c =
    let found = c.in-Some.ensures in
    let g = c.pull_text.new.gathered in
    let is = c.in-Some-changes_of.ensures in
    changes_gathered c.args.bytes.now c.args.units g.told (option_map (λ v. v.items) g.changes) c.in-Some-changes_of.changes.items found.0 found.1 is.0 is.1 found.2
