use Rattle.tiled_image.proofs.JoinedSteps.{found_in, pixel_found}
use Rattle.tiled_image.proofs.tiled_image.TiledImage.pixel.Goals as goal

pub returns : goal.returns
returns c =
    let t = c.self.inside.texts in
    let shift = c.self.inside.grid.shift in
    let across = c.self.inside.grid.across in
    pixel_found shift across c.args.i c.args.j c.tile_at-tile.result c.place_at-place.result t c.args.self.now c.at.result c.self.invariant c.self.view_is
    (found_in shift across c.args.i c.args.j c.tile_at-tile.result c.place_at-place.result t c.args.self.now c.self.invariant c.self.view_is c.requires.col c.requires.row
    c.tile_at-tile.ensures c.place_at-place.ensures)
    c.at.ensures
