use Rattle.std.proofs.Common.{◌≡◌, rules}
use Rattle.std.specs.Prelude.{codes, option_map}
use Rattle.serde_json.specs.Data.{string, array}
use Rattle.geo_json.proofs.Gathered.{layer_named, layer_filled}
use Rattle.geo_json.proofs.pulled_layers.PulledMembersPullMember.pull.Goals as goal

pub returns-in_ok-name_from-in-name-clause-value : goal.returns-in_ok-name_from-in-name-clause-value
returns-in_ok-name_from-in-name-clause-value c =
    let key : c.args.key.now ≡ codes "name" = search rules in
    let g = c.args.gathered.now in
    let place = c.args.self.now.place in
    let n = c.in_ok-name_from-in-name.field-0 in
    let done = c.in_ok-name_from-in-name.ensures in
    λ before parts. (string n, done.value c.args.depth, rw key (layer_named place.units place.part g.name (option_map (λ v. v.items) g.features) n before done.fits parts))

pub returns-in_ok-pull_list-in-features-clause-value : goal.returns-in_ok-pull_list-in-features-clause-value
returns-in_ok-pull_list-in-features-clause-value c =
    let key : c.args.key.now ≡ codes "features" = search rules in
    let g = c.args.gathered.now in
    let place = c.args.self.now.place in
    let found = c.in_ok-pull_list-in-features.ensures in
    let fs = c.in_ok-pull_list-in-features.field-0.items in
    λ before parts. (array found.value.0, found.value.1, rw key (layer_filled place.units place.part g.name (option_map (λ v. v.items) g.features) fs found.value.0 before found.value.2 found.known.1 parts))
