use Rattle.std.proofs.Common.{refl, ◌∙◌, arith}
use Rattle.plain_image.proofs.Marking.{becomes_none, becomes_both, becomes_same}
use Rattle.centre_spans.proofs.Rows.{rows_start, rows_end, next_row}
use Rattle.centre_spans.proofs.marking.mark_within.Goals as goal

pub loop-j-init : goal.loop-j-init
loop-j-init g c = record {
  reached = becomes_none g.K.Surface.shows _ c.args.mask.now (λ old.
      rows_start (g.S.Shape.holds c.args.shape.now) c.args.w c.args.down c.first_at-top.result old
      c.requires.window c.first_at-top.ensures.within c.first_at-top.ensures.splits c.requires.heights);
  cols = refl;
  rows = refl;
  within = c.first_at-top.ensures.within;
}

pub loop-j-preserved : goal.loop-j-preserved
loop-j-preserved g c = record {
  reached = becomes_both g.K.Surface.shows _ _ _ c.args.mask.now c.loop-j.mask c.mark_row.new.mask
      (λ old now next before step. next_row _ _ _ _ _ (step old before)) c.loop-j.invariant.reached c.mark_row.ensures.reached;
  cols = c.mark_row.ensures.cols ∙ c.loop-j.invariant.cols;
  rows = c.mark_row.ensures.rows ∙ c.loop-j.invariant.rows;
  within = omega (arith, c.first_at-bottom.ensures.within);
}

pub returns-clause-marks : goal.returns-clause-marks
returns-clause-marks g c =
    becomes_same g.K.Surface.shows _ _ c.args.mask.now c.loop-j.mask
    (λ old now reached. rows_end (g.S.Shape.holds c.args.shape.now) c.args.w c.args.down c.loop-j.j c.first_at-bottom.result old now
    c.requires.window c.loop-j-test.false c.loop-j.invariant.within c.first_at-bottom.ensures.splits c.requires.heights reached) c.loop-j.invariant.reached
