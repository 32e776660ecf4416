use Rattle.plain_drawing.specs.inner.PartTexts.{column_texts}
use Rattle.meta_drawing.proofs.Texts.{column_behind}
use Rattle.meta_drawing.proofs.containers.put_tiles.Goals as goal

pub loop-col-preserved : goal.loop-col-preserved
loop-col-preserved c =
    column_behind (column_texts c.args.image.now c.args.size c.args.across) c.args.out.now.items c.loop-col.out.items c.put_column.new.out.items c.loop-col.col c.loop-col.invariant c.in_ok-put_column.ensures
