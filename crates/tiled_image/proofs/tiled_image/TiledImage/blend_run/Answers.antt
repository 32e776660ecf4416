use Rattle.std.proofs.Common.{ap, ◌∙◌, min}
use Rattle.plain_shapes.specs.Blending.{blend}
use Rattle.tiled_image.proofs.JoinedSteps.{next_found, reached_more}
use Rattle.tiled_image.proofs.tiled_image.TiledImage.blend_run.Goals as goal

pub paint_run-requires-clause-tile : goal.paint_run-requires-clause-tile
paint_run-requires-clause-tile c =
    let inside = c.loop-from.self-inside in
    (next_found (blend c.args.c c.args.opacity) c.args.j c.args.start c.loop-from.from c.args.end inside.grid.shift inside.grid.across c.tile_at-tile.result c.place_at-place.result c.args.self.now inside.texts
    c.loop-from.invariant c.loop-from-test.true c.requires.cols c.requires.row c.tile_at-tile.ensures c.place_at-place.ensures).tile_in

pub loop-from-preserved : goal.loop-from-preserved
loop-from-preserved c =
    let inside = c.loop-from.self-inside in
    let f = blend c.args.c c.args.opacity in
    reached_more f c.args.j c.args.start c.loop-from.from c.min-until.result c.args.end inside.grid.shift inside.grid.across c.tile_at-tile.result c.place_at-place.result c.args.self.now inside.texts
    c.paint_run.new.self c.loop-from.invariant
    (next_found f c.args.j c.args.start c.loop-from.from c.args.end inside.grid.shift inside.grid.across c.tile_at-tile.result c.place_at-place.result c.args.self.now inside.texts
    c.loop-from.invariant c.loop-from-test.true c.requires.cols c.requires.row c.tile_at-tile.ensures c.place_at-place.ensures)
    c.loop-from-test.true (c.min-until.ensures ∙ ap (min c.args.end) c.tile_end.ensures) c.paint_run.ensures
