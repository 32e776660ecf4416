use Rattle.std.proofs.Common.{◌∙◌, ap}
use Rattle.plain_shapes.specs.declared.colour.Colour.{Colour}
use Rattle.plain_drawing.specs.Drawing.{painted_over}
use Rattle.tile_render.proofs.Painted.{nothing_over}
use Rattle.tile_render.proofs.symbolizers.paint_of.Goals as goal

pub returns-in-Raster-clause-value : goal.returns-in-Raster-clause-value
returns-in-Raster-clause-value c d =
    let black : Colour = record { r = 0; g = 0; b = 0 } in
    ap (painted_over d) c.in-Raster.is ∙ nothing_over black d
