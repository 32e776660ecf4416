-- Where the layer is not there, what is put is all that is named.
use Rattle.std.proofs.Common.{◌≡◌, ◌∙◌, List, [], Option, sym, ap, subst}
use Rattle.std.specs.Prelude.{OnOk, unwrap_or}
use Rattle.plain_shapes.specs.Features.{Feature, Layer}
use Rattle.plain_shapes.specs.Data.{Change}
use Rattle.farm_plan.specs.Drawings.{features_in}
use Rattle.data_versions.proofs.Named.{named_place, unnamed}
use Rattle.reach_box.specs.inner.Lookups.{Adds, met_by}
use Rattle.reach_box.proofs.Adding.{met_new}
use Rattle.reach_box.proofs.boxes.add_named.Goals as goal

pub returns-in_ok-expect-in-Some-clause-added : goal.returns-in_ok-expect-in-Some-clause-added
returns-in_ok-expect-in-Some-clause-added c =
    let name : c.as_str.result.now ≡ c.args.change.now.layer = c.as_str.ensures ∙ ap (λ (ch : Change). ch.layer) c.change.view_is in
    let found = named_place c.args.layers.now c.in-Some.at c.index-layers-at.result c.as_str.result.now (sym c.place_named.ensures ∙ c.in-Some.is) in
    let same : c.expect.new.self.features ≡ features_in c.args.layers.now c.args.change.now.layer =
    ap (λ (l : Layer). l.features) c.expect.ensures ∙ (sym (ap (λ (o : Option (List Feature)). unwrap_or o []) found) ∙ ap (features_in c.args.layers.now) name) in
    subst (λ (fs : List Feature). OnOk c.add_changed.result (Adds (met_by fs c.args.change.now) c.args.boxes.now.items c.add_changed.new.boxes.items)) same c.add_changed.ensures

pub returns-in-None-clause-added : goal.returns-in-None-clause-added
returns-in-None-clause-added c =
    let name : c.as_str.result.now ≡ c.args.change.now.layer = c.as_str.ensures ∙ ap (λ (ch : Change). ch.layer) c.change.view_is in
    let missing = unnamed c.args.layers.now c.as_str.result.now (sym c.place_named.ensures ∙ c.in-None.is) in
    let none : [] ≡ features_in c.args.layers.now c.args.change.now.layer = sym (ap (λ (o : Option (List Feature)). unwrap_or o []) missing) ∙ ap (features_in c.args.layers.now) name in
    let puts : c.as_slice.result.now ≡ c.args.change.now.put = c.as_slice.ensures.value ∙ ap (λ (ch : Change). ch.put) c.change.view_is in
    subst (λ (fs : List Feature). OnOk c.add_new.result (Adds fs c.args.boxes.now.items c.add_new.new.boxes.items)) (puts ∙ (met_new c.args.change.now ∙ ap (λ (old : List Feature). met_by old c.args.change.now) none)) c.add_new.ensures
