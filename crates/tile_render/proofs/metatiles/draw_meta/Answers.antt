use Rattle.std.proofs.Common.{◌*◌, ◌∙◌, ap, sym}
use Rattle.plain_drawing.specs.inner.PartTexts.{part_texts}
use Rattle.tile_render.proofs.metatiles.draw_meta.Goals as goal

pub cut_tiles-requires-clause-cols : goal.cut_tiles-requires-clause-cols
cut_tiles-requires-clause-cols c = c.in_ok-image.ensures.cols ∙ ap (λ n. c.args.size * n) (sym c.tiles_across.ensures.value)

pub cut_tiles-requires-clause-rows : goal.cut_tiles-requires-clause-rows
cut_tiles-requires-clause-rows c = c.in_ok-image.ensures.rows ∙ ap (λ n. c.args.size * n) (sym c.tiles_across.ensures.value)

pub returns-clause-tiles : goal.returns-clause-tiles
returns-clause-tiles c = c.in_ok-tiles.ensures ∙ ap (part_texts c.in_ok-image.image c.args.size) c.tiles_across.ensures.value ∙ c.in_ok-image.ensures.tiles
