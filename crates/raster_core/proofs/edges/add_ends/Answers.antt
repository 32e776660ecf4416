use Rattle.std.proofs.Common.{◌∷◌, [], ◌++◌, List, ap, ◌∙◌}
use Rattle.raster_core.specs.declared.columns.Corner.{Corner}
use Rattle.raster_core.specs.inner.Columns.{corner}
use Rattle.raster_core.proofs.Corners.{ends_added, ends_outside}
use Rattle.raster_core.proofs.edges.add_ends.Goals as goal

pub returns-then-run-w : goal.returns-then-run-w
returns-then-run-w c = ends_outside c.args.w c.args.run _ c.if-run-w.true

pub returns : goal.returns
returns c = ends_added c.args.w c.args.run _ _ c.requires
    (c.in_ok-push-2.ensures.items ∙ ap (λ (cs : List Corner). cs ++ corner c.args.run.column c.args.run.bottom ∷ []) c.in_ok-push.ensures.items)
