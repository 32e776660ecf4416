use Rattle.plain_drawing.specs.inner.PartTexts.{column_texts}
use Rattle.tile_render.proofs.Metas.{one_more_column}
use Rattle.tile_render.proofs.metatiles.cut_tiles.Goals as goal

pub loop-col-preserved : goal.loop-col-preserved
loop-col-preserved c =
    one_more_column (column_texts c.args.image.now c.args.size c.args.across) c.loop-col.tiles.items c.cut_column.new.tiles.items c.loop-col.col c.loop-col.invariant
    c.in_ok-cut_column.ensures
