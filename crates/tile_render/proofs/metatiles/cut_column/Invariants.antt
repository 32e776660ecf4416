use Rattle.std.proofs.Common.{◌≡◌, ◌++◌}
use Rattle.plain_drawing.specs.inner.PartTexts.{part_text}
use Rattle.std.proofs.Common.{map}
use Rattle.std.specs.List.{range_with_len}
use Rattle.tile_render.proofs.metatiles.cut_column.Given as goal

abbrev pub invariant-loop-row : goal.invariant-loop-row
invariant-loop-row l = l.tiles.items ≡ l.initial.tiles.items ++ map (λ row. part_text l.image l.size l.col row) (range_with_len 0 l.row)
