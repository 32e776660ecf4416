use Rattle.std.proofs.Common.{◌≡◌, rules}
use Rattle.std.specs.Prelude.{codes, option_map}
use Rattle.serde_json.specs.Data.{string, array}
use Rattle.geo_json.proofs.GatheredUpdates.{change_named, change_removes, change_puts}
use Rattle.geo_json.proofs.pulled_changes.PulledMembersPullMember.pull.Goals as goal

pub returns-in_ok-name_from-in-layer-clause-value : goal.returns-in_ok-name_from-in-layer-clause-value
returns-in_ok-name_from-in-layer-clause-value c =
    let key : c.args.key.now ≡ codes "layer" = search rules in
    let g = c.args.gathered.now in
    let place = c.args.self.now.place in
    let n = c.in_ok-name_from-in-layer.field-0 in
    let done = c.in_ok-name_from-in-layer.ensures in
    λ before parts. (string n, done.value c.args.depth, rw key (change_named place.units place.part g.layer (option_map (λ v. v.items) g.remove) (option_map (λ v. v.items) g.put) n before done.fits parts))

pub returns-in_ok-pull_list-in-remove-clause-value : goal.returns-in_ok-pull_list-in-remove-clause-value
returns-in_ok-pull_list-in-remove-clause-value c =
    let key : c.args.key.now ≡ codes "remove" = search rules in
    let g = c.args.gathered.now in
    let place = c.args.self.now.place in
    let found = c.in_ok-pull_list-in-remove.ensures in
    let ids = c.in_ok-pull_list-in-remove.field-0.items in
    λ before parts. (array found.value.0, found.value.1, rw key (change_removes place.units place.part g.layer (option_map (λ v. v.items) g.remove) (option_map (λ v. v.items) g.put) ids found.value.0 before found.value.2 parts))

pub returns-in_ok-pull_list-in-put-clause-value : goal.returns-in_ok-pull_list-in-put-clause-value
returns-in_ok-pull_list-in-put-clause-value c =
    let key : c.args.key.now ≡ codes "put" = search rules in
    let g = c.args.gathered.now in
    let place = c.args.self.now.place in
    let found = c.in_ok-pull_list-in-put.ensures in
    let fs = c.in_ok-pull_list-in-put.field-0.items in
    λ before parts. (array found.value.0, found.value.1, rw key (change_puts place.units place.part g.layer (option_map (λ v. v.items) g.remove) (option_map (λ v. v.items) g.put) fs found.value.0 before found.value.2 found.known parts))
