use Rattle.std.proofs.Common.{◌≡◌, subst}
use Rattle.std.specs.Prelude.{OnOk}
use Rattle.plain_shapes.specs.inner.Canvas.{stepped}
use Rattle.plain_drawing.specs.declared.style.Symbolizer.TheVariants as paint
use Rattle.plain_drawing.specs.Drawing.{raster_over}
use Rattle.tile_render.specs.inner.Canvases.{Canvas}
use Rattle.tile_render.proofs.canvas.Canvas.blend_grid.Goals as goal

pub returns-clause-blended : goal.returns-clause-blended
returns-clause-blended c =
    subst (λ (m : Canvas). OnOk c.blend_grid.result (c.blend_grid.new.image ≡ stepped m.window (λ p d. raster_over c.args.grid.now p d (paint.Raster c.args.opacity)) m.image))
    c.self.view_is c.blend_grid.ensures.blended
