use Rattle.std.proofs.Common.{arith}
use Rattle.plain_shapes.specs.Rings.{counts_down}
use Rattle.raster_core.specs.declared.edges.Edge.{Edge}
use Rattle.raster_core.proofs.Corners.{parts_start, parts_more, parts_end}
use Rattle.raster_core.proofs.edges.cross_down.Goals as goal

pub loop-from-init : goal.loop-from-init
loop-from-init c =
    let e : Edge = c.edge_down-edge.result in record { low = omega arith; turned = parts_start c.args.w (counts_down e.a e.b) e.top c.args.crossed.now }

pub loop-from-preserved : goal.loop-from-preserved
loop-from-preserved c =
    let e : Edge = c.edge_down-edge.result in record {
      low = omega (arith, c.loop-from.invariant.low, c.min-to.ensures, c.loop-from-test.true);
      turned = parts_more c.args.w (counts_down e.a e.b) e.top c.loop-from.from c.min-to.result _ _ _ c.loop-from.invariant.low (omega (arith, c.min-to.ensures, c.loop-from-test.true))
          c.loop-from.invariant.turned c.in_ok-cross_part.ensures;
    }

pub returns : goal.returns
returns c =
    let e : Edge = c.edge_down-edge.result in
    let edge = c.edge_down-edge.ensures.edge in
    rw (c.edge_down-edge.ensures.a, c.edge_down-edge.ensures.b) at
    (parts_end c.args.w e.a e.b e.top e.bottom c.loop-from.from _ _ edge.top edge.bottom c.loop-from-test.false c.loop-from.invariant.turned)

pub returns-then-bottom-top : goal.returns-then-bottom-top
returns-then-bottom-top c =
    parts_end c.args.w c.args.a c.args.b c.first_row-top.result c.first_row-bottom.result c.first_row-top.result _ _ c.first_row-top.ensures.first c.first_row-bottom.ensures.first
    (omega arith) (parts_start c.args.w (counts_down c.args.a c.args.b) c.first_row-top.result c.args.crossed.now)
