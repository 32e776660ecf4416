use Rattle.std.proofs.Common.{refl, sym, ◌∙◌}
use Rattle.data_versions.proofs.Named.{named_place, unnamed}
use Rattle.data_versions.proofs.updates.change_one.Goals as goal

pub returns-in-Some-clause-refused : goal.returns-in-Some-clause-refused
returns-in-Some-clause-refused c =
    let named = named_place c.args.edited_layers.now c.in-Some.at c.index-edited_layers-at.result c.change.inside.layer (rw c.as_str.ensures at (sym c.place_named.ensures ∙ c.in-Some.is)) in
    rw (← c.change.view_is, named) (rw (← c.change.view_is) at c.change-in-Some.ensures.refused)

pub returns-in-None-clause-refused : goal.returns-in-None-clause-refused
returns-in-None-clause-refused c = λ _.
    rw (← c.change.view_is) (rw (unnamed c.args.edited_layers.now c.change.inside.layer (rw c.as_str.ensures at (sym c.place_named.ensures ∙ c.in-None.is))) refl)
