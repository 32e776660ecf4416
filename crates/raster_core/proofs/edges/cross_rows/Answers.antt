use Rattle.std.proofs.Common.{arith}
use Rattle.plain_shapes.specs.Rings.{counts_down}
use Rattle.raster_core.proofs.Corners.{part_start, part_row, part_end, upper_at, lower_at}
use Rattle.raster_core.proofs.edges.cross_rows.Goals as goal

pub loop-j-init : goal.loop-j-init
loop-j-init c = record { low = omega arith; rows = part_start c.args.w (counts_down c.args.e.a c.args.e.b) c.args.from c.args.to _ }

pub cross_row-requires-clause-upper : goal.cross_row-requires-clause-upper
cross_row-requires-clause-upper c = upper_at c.args.w c.args.e c.loop-j.j c.requires.edge (omega (arith, c.loop-j.invariant.low, c.requires.top)) (omega (arith, c.loop-j-test.true, c.requires.bottom, c.requires.edge.few_rows))

pub cross_row-requires-clause-lower : goal.cross_row-requires-clause-lower
cross_row-requires-clause-lower c = lower_at c.args.w c.args.e c.loop-j.j c.requires.edge (omega (arith, c.loop-j-test.true, c.requires.bottom)) (omega (arith, c.loop-j-test.true, c.requires.bottom, c.requires.edge.few_rows))

pub loop-j-preserved : goal.loop-j-preserved
loop-j-preserved c = record {
  low = omega (arith, c.loop-j.invariant.low);
  rows = part_row c.args.w (counts_down c.args.e.a c.args.e.b) c.args.from c.args.to c.loop-j.j _ _ _ c.loop-j.invariant.low c.loop-j-test.true c.loop-j.invariant.rows c.in_ok-cross_row.ensures;
}

pub returns : goal.returns
returns c = part_end c.args.w (counts_down c.args.e.a c.args.e.b) c.args.from c.args.to c.loop-j.j _ _ c.loop-j-test.false c.loop-j.invariant.rows
