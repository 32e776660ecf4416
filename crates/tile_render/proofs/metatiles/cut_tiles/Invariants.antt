use Rattle.std.proofs.Common.{◌≡◌}
use Rattle.plain_drawing.specs.inner.PartTexts.{column_texts}
use Rattle.std.proofs.Common.{flat_map}
use Rattle.std.specs.List.{range_with_len}
use Rattle.tile_render.proofs.metatiles.cut_tiles.Given as goal

abbrev pub invariant-loop-col : goal.invariant-loop-col
invariant-loop-col l = l.tiles.items ≡ flat_map (column_texts l.image l.size l.across) (range_with_len 0 l.col)
