use Rattle.std.proofs.Common.{sym, ◌∙◌, arith}
use Rattle.std.proofs.lemmas.List.Sorted.{IsPermutation-trans}
use Rattle.expiry_lists.specs.Boxes.{comes_near}
use Rattle.expiry_lists.proofs.Near.{parted_more, parted_other}
use Rattle.expiry_lists.proofs.boxes.gather.Goals as goal
use Rattle.expiry_lists.proofs.boxes.gather.Goals.{then-comes_near, else-comes_near}

pub loop-i-preserved : goal.loop-i-preserved
loop-i-preserved c = elim c.if-comes_near.branch [
  | then-comes_near w ↦ rw (w.boxes-is, w.near-is) (record {
    moved = IsPermutation-trans c.args.boxes.now c.loop-i.boxes _ c.loop-i.invariant.moved w.swap.ensures.permutation;
    long = w.swap.ensures.len ∙ c.loop-i.invariant.long;
    low = omega (arith, c.loop-i.invariant.low);
    parts =
        parted_more (λ b. comes_near b c.args.margin c.args.s) c.loop-i.near c.loop-i.i c.loop-i.boxes _ _ c.loop-i.invariant.low (omega (arith, c.loop-i-test.true, c.loop-i.invariant.long))
        (sym c.comes_near.ensures.value ∙ w.if-comes_near.true) w.swap.ensures.after c.loop-i.invariant.parts;
  })
  | else-comes_near w ↦ rw (w.boxes-is, w.near-is) (record {
    moved = c.loop-i.invariant.moved;
    long = c.loop-i.invariant.long;
    low = omega (arith, c.loop-i.invariant.low);
    parts =
        parted_other (λ b. comes_near b c.args.margin c.args.s) c.loop-i.near c.loop-i.i c.loop-i.boxes _ (omega (arith, c.loop-i-test.true, c.loop-i.invariant.long))
        (sym c.comes_near.ensures.value ∙ w.if-comes_near.false) c.loop-i.invariant.parts;
  })
]
