use Rattle.plain_drawing.specs.inner.PartTexts.{part_text}
use Rattle.tile_render.proofs.Metas.{one_more_text}
use Rattle.tile_render.proofs.metatiles.cut_column.Goals as goal

pub loop-row-preserved : goal.loop-row-preserved
loop-row-preserved c =
    one_more_text (λ row. part_text c.args.image.now c.args.size c.args.col row) c.args.tiles.now.items c.loop-row.tiles.items c.push.new.self.items c.loop-row.row c.in_ok-tile.tile
    c.loop-row.invariant c.in_ok-tile.ensures c.in_ok-push.ensures.items
