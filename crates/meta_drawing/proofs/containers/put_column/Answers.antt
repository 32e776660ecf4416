use Rattle.plain_drawing.specs.inner.PartTexts.{part_text}
use Rattle.meta_drawing.proofs.Texts.{text_behind}
use Rattle.meta_drawing.proofs.containers.put_column.Goals as goal

pub loop-row-preserved : goal.loop-row-preserved
loop-row-preserved c =
    text_behind (λ row. part_text c.args.image.now c.args.size c.args.col row) c.args.out.now.items c.loop-row.out.items c.put_part.new.out.items c.loop-row.row c.loop-row.invariant c.in_ok-put_part.ensures
