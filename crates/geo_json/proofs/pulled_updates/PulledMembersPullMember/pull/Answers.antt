use Rattle.std.proofs.Common.{◌≡◌, rules}
use Rattle.std.specs.Prelude.{codes, option_map}
use Rattle.serde_json.specs.Data.{string, array}
use Rattle.geo_json.proofs.GatheredUpdates.{update_told, update_filled}
use Rattle.geo_json.proofs.pulled_updates.PulledMembersPullMember.pull.Goals as goal

pub returns-then-are_same-clause-value : goal.returns-then-are_same-clause-value
returns-then-are_same-clause-value c =
    let key : c.args.key.now ≡ codes "units" = search rules in
    let g = c.args.gathered.now in
    let told = c.in_ok-told-in-units.ensures.value in
    let same : c.in_ok-told-in-units.told ≡ c.args.self.now.units = search rules in
    λ before parts. (string told.0, told.1 c.args.depth, rw key (update_told c.args.self.now.units g.told (option_map (λ v. v.items) g.changes) told.0 before (rw same at told.2) parts))

pub returns-in_ok-pull_list-in-changes-clause-value : goal.returns-in_ok-pull_list-in-changes-clause-value
returns-in_ok-pull_list-in-changes-clause-value c =
    let key : c.args.key.now ≡ codes "changes" = search rules in
    let g = c.args.gathered.now in
    let found = c.in_ok-pull_list-in-changes.ensures in
    let cs = c.in_ok-pull_list-in-changes.field-0.items in
    λ before parts. (array found.value.0, found.value.1, rw key (update_filled c.args.self.now.units g.told (option_map (λ v. v.items) g.changes) cs found.value.0 before found.value.2 found.known parts))
