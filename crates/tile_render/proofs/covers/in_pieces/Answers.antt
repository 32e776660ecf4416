use Rattle.std.proofs.Common.{Bool}
use Rattle.plain_world.specs.declared.world.Point.{Point}
use Rattle.plain_drawing.specs.Drawing.{covers}
use Rattle.tile_render.proofs.Joining.{pieces_made}
use Rattle.tile_render.proofs.covers.in_pieces.Goals as goal

pub returns : goal.returns
returns c =
    let member : Point → Bool = λ p. covers c.args.w.pixel c.args.feature.now.geometry p c.args.symbolizer in
    let found = c.in_ok-found.ensures in
    pieces_made c.args.w member c.no_pieces-pieces.result c.cover_on.new.surface c.in_ok-found.found.items c.no_pieces-pieces.ensures.cols c.no_pieces-pieces.ensures.rows
    c.no_pieces-pieces.ensures.none c.in_ok-cover_on.ensures.drawn found.whole found.same found.apart found.inside
