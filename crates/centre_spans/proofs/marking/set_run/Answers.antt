use Rattle.std.proofs.Common.{refl, sym, ◌∙◌, arith}
use Rattle.centre_spans.proofs.Rows.{run_more}
use Rattle.centre_spans.proofs.marking.set_run.Goals as goal

pub returns-clause-reached : goal.returns-clause-reached
returns-clause-reached c member w start cols rows members before =
    let p = c.cover.ensures.bits c.args.mask.now c.args.mask.now refl in
    run_more member w c.args.j c.args.mask.now.cols c.args.from c.args.end start c.args.mask.now c.cover.new.self
    (sym cols) (omega (arith, c.requires.end, cols)) (omega (arith, c.requires.row, rows)) members (p.shown ∙ p.is) before
