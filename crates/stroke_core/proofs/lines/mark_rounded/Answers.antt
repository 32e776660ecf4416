use Rattle.std.proofs.Common.{◌||◌, refl, ◌∙◌}
use Rattle.plain_shapes.specs.Strokes.{on_sides, on_disks}
use Rattle.plain_image.proofs.Marking.{remains_start, remains_more, remains_end}
use Rattle.stroke_core.proofs.Sides.{rounded_step, rounded_none}
use Rattle.stroke_core.proofs.lines.mark_rounded.Goals as goal

pub loop-p-init : goal.loop-p-init
loop-p-init g c = record {
  within = c.requires.first;
  left = remains_start g.K.Surface.shows (λ p. on_sides c.args.half c.args.first c.args.rest.now p || on_disks c.args.half c.args.rest.now p) c.args.w c.args.mask.now;
  cols = refl;
  rows = refl;
}

pub loop-p-preserved : goal.loop-p-preserved
loop-p-preserved g c = record {
  within = c.requires.rest c.loop-p.p-index _ c.loop-p-test.true;
  left = remains_more g.K.Surface.shows _ _ _ _ c.args.w c.args.mask.now c.loop-p.mask c.mark_part.new.mask
      (rounded_step c.args.half c.loop-p.before c.args.rest.now c.loop-p.p-index _ c.loop-p-test.true)
      c.mark_part.ensures.marks c.loop-p.invariant.left;
  cols = c.mark_part.ensures.cols ∙ c.loop-p.invariant.cols;
  rows = c.mark_part.ensures.rows ∙ c.loop-p.invariant.rows;
}

pub returns-clause-marks : goal.returns-clause-marks
returns-clause-marks g c =
    remains_end g.K.Surface.shows _ _ c.args.w c.args.mask.now c.loop-p.mask (rounded_none c.args.half c.loop-p.before c.args.rest.now c.loop-p.p-index c.loop-p-test.false) c.loop-p.invariant.left
