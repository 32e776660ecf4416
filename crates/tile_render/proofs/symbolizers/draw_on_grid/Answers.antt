use Rattle.std.proofs.Common.{ap}
use Rattle.std.proofs.lemmas.Result.{on_ok_weaker}
use Rattle.plain_drawing.specs.Drawing.{raster, symbolizer_at}
use Rattle.tile_render.proofs.Painted.{untouched, grid_step}
use Rattle.tile_render.proofs.symbolizers.draw_on_grid.Goals as goal

pub returns-in-Polygon-clause-drawn : goal.returns-in-Polygon-clause-drawn
returns-in-Polygon-clause-drawn c =
    untouched c.args.canvas.now.window (raster c.args.grid.now) c.args.canvas.now.image c.args.symbolizer
    (λ p d. ap (symbolizer_at c.args.canvas.now.window.pixel (raster c.args.grid.now) p d) c.in-Polygon.is)

pub returns-in-Line-clause-drawn : goal.returns-in-Line-clause-drawn
returns-in-Line-clause-drawn c =
    untouched c.args.canvas.now.window (raster c.args.grid.now) c.args.canvas.now.image c.args.symbolizer
    (λ p d. ap (symbolizer_at c.args.canvas.now.window.pixel (raster c.args.grid.now) p d) c.in-Line.is)

pub returns-in-Markers-clause-drawn : goal.returns-in-Markers-clause-drawn
returns-in-Markers-clause-drawn c =
    untouched c.args.canvas.now.window (raster c.args.grid.now) c.args.canvas.now.image c.args.symbolizer
    (λ p d. ap (symbolizer_at c.args.canvas.now.window.pixel (raster c.args.grid.now) p d) c.in-Markers.is)

pub returns-in-Raster-clause-drawn : goal.returns-in-Raster-clause-drawn
returns-in-Raster-clause-drawn c =
    on_ok_weaker c.blend_grid.result
    (grid_step c.args.canvas.now.window c.args.grid.now c.args.canvas.now.image c.blend_grid.new.self.image c.in-Raster.opacity c.args.symbolizer c.in-Raster.is)
    c.blend_grid.ensures.blended
