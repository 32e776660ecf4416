use Rattle.tiled_image.proofs.JoinedSteps.{raster_of}
use Rattle.tiled_image.proofs.tiled_image.TiledImage.cols.Goals as goal

pub returns-clause-raster : goal.returns-clause-raster
returns-clause-raster c =
    raster_of c.self.inside.grid.shift c.self.inside.grid.across c.self.inside.texts c.args.self.now c.self.invariant c.self.view_is
