use Rattle.attribute_marks.proofs.Bits.{marked_more}
use Rattle.attribute_marks.proofs.marks.marks_of.Goals as goal

pub loop-attr-preserved : goal.loop-attr-preserved
loop-attr-preserved c =
    marked_more c.loop-attr.marks c.args.attrs.now c.loop-attr.attr-index c.mark_of.result c.attr-item.result c.loop-attr-test.true c.attr-item.is c.mark_of.ensures.value c.mark_of.ensures.few
    c.loop-attr.invariant
