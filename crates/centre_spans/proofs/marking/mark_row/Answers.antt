use Rattle.std.proofs.Common.{max, arith}
use Rattle.centre_spans.proofs.Rows.{row_start, run_more, member_at, row_end, held_in}
use Rattle.centre_spans.proofs.marking.mark_row.Goals as goal

pub returns-clause-reached : goal.returns-clause-reached
returns-clause-reached g c over bits shown =
    let member = g.S.Shape.holds c.args.shape.now in
    let s = c.columns-across.result in
    let left = c.first_at-left.result in
    let right = c.first_at-right.result in
    let p = c.cover.ensures.bits over bits shown in
    record {
      bits = p.bits;
      shown = p.shown;
      is = λ start before.
          row_end member c.args.w s c.args.j (max left right) right start p.bits
          c.requires.window c.requires.row (omega arith) (omega (arith, c.first_at-left.ensures.within, c.first_at-right.ensures.within)) c.first_at-right.ensures.splits
          (held_in member s _ c.columns-across.ensures)
          (run_more member c.args.w c.args.j (g.K.Surface.cols c.args.mask.now) left right start bits p.bits c.requires.cols c.first_at-right.ensures.within c.requires.row
          (λ i low high. member_at member c.args.w s c.args.j i left right c.requires.window (omega (arith, c.first_at-right.ensures.within)) c.requires.row low high
          c.first_at-left.ensures.splits c.first_at-right.ensures.splits c.columns-across.ensures)
          p.is
          (row_start member c.args.w s c.args.j left start bits
          c.requires.window c.requires.row c.first_at-left.ensures.within c.first_at-left.ensures.splits (held_in member s _ c.columns-across.ensures) before));
    }
