use Rattle.std.specs.Prelude.{option_map}
use Rattle.geo_json.proofs.Gathered.{text_gathered}
use Rattle.geo_json.proofs.pulled_data.layers_in.Goals as goal

pub returns-in-Some-layers_of : goal.returns-in-Some-layers_of
returns-in-Some-layers_of c =
    let found = c.in-Some.ensures in
    let g = c.pull_text.new.gathered in
    let is = c.in-Some-layers_of.ensures in
    text_gathered c.args.bytes.now c.args.units g.told (option_map (λ v. v.items) g.layers) c.in-Some-layers_of.layers.items found.0 found.1 is.0 is.1 found.2
