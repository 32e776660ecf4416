use Rattle.std.proofs.Common.{refl, take, sym, subst, ◌∙◌}
use Rattle.plain_shapes.specs.Images.{Bits}
use Rattle.plain_shapes.specs.inner.Canvas.{SetsSome}
use Rattle.plain_shapes.specs.Strokes.{on_line, on_stroke}
use Rattle.plain_image.specs.Surfaces.{Becomes}
use Rattle.plain_image.proofs.Marking.{becomes_same, marks_start, marks_more, marks_all}
use Rattle.stroke_core.proofs.Sides.{any_take, on_err}
use Rattle.stroke_core.proofs.lines.stroke_lines.Goals as goal

pub loop-line-init : goal.loop-line-init
loop-line-init g c = record {
  marks = marks_start g.K.Surface.shows (on_line c.args.half c.args.cap) c.args.lines.now c.args.w c.args.mask.now;
  cols = refl;
  rows = refl;
}

pub loop-line-preserved : goal.loop-line-preserved
loop-line-preserved g c = record {
  marks = marks_more g.K.Surface.shows (on_line c.args.half c.args.cap) c.args.lines.now c.loop-line.line-index c.line-item.result c.line-item.result
      c.args.w c.args.mask.now c.loop-line.mask c.stroke_line.new.mask
      c.loop-line-test.true c.line-item.is c.loop-line.invariant.marks c.in_ok-stroke_line.ensures.drawn;
  cols = c.stroke_line.ensures.cols ∙ c.loop-line.invariant.cols;
  rows = c.stroke_line.ensures.rows ∙ c.loop-line.invariant.rows;
}

pub returns-in_err-stroke_line-clause-refused : goal.returns-in_err-stroke_line-clause-refused
returns-in_err-stroke_line-clause-refused g c =
    let some : Bits → Bits → Type 0 = SetsSome (on_stroke c.args.lines.now c.args.half c.args.cap) c.args.w in
    on_err _ _
    (subst (λ now. Becomes g.K.Surface.shows some c.args.mask.now now) (sym c.in_err-stroke_line.ensures.refused)
    (becomes_same g.K.Surface.shows _ some c.args.mask.now c.loop-line.mask (λ old now is. record {
      chosen = on_stroke (take c.loop-line.line-index c.args.lines.now) c.args.half c.args.cap;
      belongs = λ p. any_take (on_line c.args.half c.args.cap p) c.loop-line.line-index c.args.lines.now;
      is = is;
    }) c.loop-line.invariant.marks))

pub returns-clause-drawn : goal.returns-clause-drawn
returns-clause-drawn g c =
    marks_all g.K.Surface.shows (on_line c.args.half c.args.cap) c.args.lines.now c.loop-line.line-index c.args.w c.args.mask.now c.loop-line.mask
    c.loop-line-test.false c.loop-line.invariant.marks
