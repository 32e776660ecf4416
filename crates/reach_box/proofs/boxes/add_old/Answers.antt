-- The feature at the place of the id is the one of the id.
use Rattle.std.proofs.Common.{◌≡◌, ◌∙◌, List, Some, sym, ap, subst}
use Rattle.std.specs.Prelude.{OnOk, slice_get}
use Rattle.std.specs.Option.{option_copied}
use Rattle.plain_shapes.specs.Features.{Feature}
use Rattle.reach_box.specs.inner.Lookups.{Adds}
use Rattle.reach_box.proofs.Adding.{adds_none, placed, unplaced}
use Rattle.reach_box.proofs.boxes.add_old.Goals as goal

pub returns-in-Some : goal.returns-in-Some
returns-in-Some c =
    let read : Some c.unwrap.result.now ≡ slice_get c.args.layer.now.features c.in-Some.place = sym (ap option_copied c.unwrap.ensures) ∙ c.get.ensures in
    subst (λ (fs : List Feature). OnOk c.add_box.result (Adds fs c.args.boxes.now.items c.add_box.new.boxes.items)) (placed c.args.layer.now.features c.args.id c.in-Some.place c.unwrap.result.now c.in-Some.ensures read) c.add_box.ensures

pub returns-in-None : goal.returns-in-None
returns-in-None c = subst (λ (fs : List Feature). Adds fs c.args.boxes.now.items c.args.boxes.now.items) (unplaced c.args.layer.now.features c.args.id c.in-None.ensures) (adds_none c.args.boxes.now.items)
