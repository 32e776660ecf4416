use Rattle.std.proofs.Common.{◌∙◌, ap, ◌&&◌}
use Rattle.std.specs.Prelude.{find}
use Rattle.std.specs.Str.{bytes_eq}
use Rattle.tile_render.specs.inner.Nearby.{serves}
use Rattle.tile_render.proofs.Keeping.{kept_found}
use Rattle.tile_render.proofs.nearby.NearData.kept.Goals as goal

pub returns : goal.returns
returns c =
    kept_found c.self.inside.snapshot.now c.self.inside.around c.args.self.now c.args.name.now c.args.asked c.self.inside.kept.items c.find_layer.result c.self.view_is c.self.invariant
    (c.find_layer.ensures ∙ ap (find (λ k. bytes_eq k.name.now c.args.name.now && serves k.asked c.args.asked)) c.as_slice.ensures.value)
