use Rattle.std.proofs.Common.{◌≡◌, ◌+◌, ◌*◌, false, List, Bool, get_or, ap, sym, ◌∙◌, inl, inr, arith}
use Rattle.std.proofs.lemmas.Bool.{cases_lt, le-leb, lt-leb, leb-true, leb-false}
use Rattle.plain_world.specs.World.{centre}
use Rattle.centre_spans.proofs.Rows.{centre_in}
use Rattle.centre_spans.proofs.Rounds.{all_kept}
use Rattle.centre_spans.proofs.known.is_known.Goals as goal

pub loop-j-preserved : goal.loop-j-preserved
loop-j-preserved g c = record {
  known = λ k low high start bits shown i col inside. elim (cases_lt k c.loop-j.j) [
    | inl lt ↦ c.loop-j.invariant.known k low lt start bits shown i col inside
    | inr ge ↦ (
        let e : c.loop-j.j ≡ k = omega arith in
        ap (λ n. get_or bits.bits (n * c.args.w.cols + i) false) (sym e)
        ∙ c.is_row_known.ensures c.if-not-is_row_known.false start bits shown i col (rw e inside))
  ];
}

pub returns : goal.returns
returns g c all member height near start bits shown = record {
  bits = bits;
  shown = shown;
  is = ap (λ (bs : List Bool). record bits { bits = bs }) (sym (all_kept member c.args.w bits.bits c.requires.window.some_col (λ j i col row held.
      (let inside = centre_in c.args.w i j c.requires.window col row in
      let at = height (centre c.args.w i j) inside held in
      let from = leb-true c.first_at-top.result j (c.first_at-top.ensures.splits j row ∙ le-leb c.args.down.start _ at.from_start) in
      let before = leb-false c.first_at-bottom.result j (c.first_at-bottom.ensures.splits j row ∙ lt-leb c.args.down.end _ at.before_end) in
      c.loop-j.invariant.known j from (omega (arith, c.loop-j-test.false)) start bits shown i col (near (centre c.args.w i j) inside held)))));
}
