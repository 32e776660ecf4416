use Rattle.std.proofs.Common.{refl, ◌∙◌}
use Rattle.plain_shapes.specs.Strokes.{on_ring}
use Rattle.plain_image.proofs.Marking.{marks_start, marks_more, marks_all}
use Rattle.stroke_core.proofs.outlines.stroke_rings.Goals as goal

pub loop-ring-init : goal.loop-ring-init
loop-ring-init g c = record {
  marks = marks_start g.K.Surface.shows (on_ring c.args.half) c.args.rings.now c.args.w c.args.mask.now;
  cols = refl;
  rows = refl;
}

pub loop-ring-preserved : goal.loop-ring-preserved
loop-ring-preserved g c = record {
  marks = marks_more g.K.Surface.shows (on_ring c.args.half) c.args.rings.now c.loop-ring.ring-index c.ring-item.result c.ring-item.result
      c.args.w c.args.mask.now c.loop-ring.mask c.stroke_ring.new.mask
      c.loop-ring-test.true c.ring-item.is c.loop-ring.invariant.marks c.stroke_ring.ensures.marks;
  cols = c.stroke_ring.ensures.cols ∙ c.loop-ring.invariant.cols;
  rows = c.stroke_ring.ensures.rows ∙ c.loop-ring.invariant.rows;
}

pub returns-clause-drawn : goal.returns-clause-drawn
returns-clause-drawn g c =
    marks_all g.K.Surface.shows (on_ring c.args.half) c.args.rings.now c.loop-ring.ring-index c.args.w c.args.mask.now c.loop-ring.mask c.loop-ring-test.false c.loop-ring.invariant.marks
