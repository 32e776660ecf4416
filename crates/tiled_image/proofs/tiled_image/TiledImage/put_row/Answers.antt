use Rattle.std.proofs.Common.{◌≡◌, ◌+◌, ◌-◌, ◌*◌, ◌++◌, take, drop, min, flat_map, ap, ◌∙◌, arith}
use Rattle.plain_shapes.specs.Ppm.{pixel_bytes}
use Rattle.tiled_image.proofs.JoinedSteps.{found_in, put_more}
use Rattle.tiled_image.proofs.tiled_image.TiledImage.put_row.Goals as goal

pub run-requires-clause-tile : goal.run-requires-clause-tile
run-requires-clause-tile c =
    (found_in c.self.inside.grid.shift c.self.inside.grid.across c.loop-from.from c.args.j c.tile_at-tile.result c.place_at-place.result c.self.inside.texts c.args.self.now c.self.invariant c.self.view_is
    (omega (arith, c.loop-from-test.true, c.requires.cols)) c.requires.row c.tile_at-tile.ensures c.place_at-place.ensures).tile_in

pub loop-from-preserved : goal.loop-from-preserved
loop-from-preserved c =
    let t = c.self.inside.texts in
    let shift = c.self.inside.grid.shift in
    let across = c.self.inside.grid.across in
    put_more c.args.j c.args.start c.loop-from.from c.min-to.result c.args.end shift across c.tile_at-tile.result c.place_at-place.result c.args.self.now t c.args.out.now.items c.loop-from.out.items _ c.run.result.now
    c.self.invariant c.self.view_is
    (found_in shift across c.loop-from.from c.args.j c.tile_at-tile.result c.place_at-place.result t c.args.self.now c.self.invariant c.self.view_is
    (omega (arith, c.loop-from-test.true, c.requires.cols)) c.requires.row c.tile_at-tile.ensures c.place_at-place.ensures)
    c.loop-from.invariant.0 c.loop-from-test.true (c.min-to.ensures ∙ ap (min c.args.end) c.tile_end.ensures) c.run.ensures c.loop-from.invariant.2 c.in_ok-extend_from_slice.ensures.items

pub returns : goal.returns
returns c =
    let all : c.loop-from.from - c.args.start ≡ c.args.end - c.args.start = omega (arith, c.loop-from-test.false, c.loop-from.invariant.1) in
    c.loop-from.invariant.2 ∙ ap (λ n. c.args.out.now.items ++ flat_map pixel_bytes (take n (drop (c.args.j * c.args.self.now.cols + c.args.start) c.args.self.now.pixels))) all
