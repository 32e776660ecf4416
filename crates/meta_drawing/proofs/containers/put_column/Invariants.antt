use Rattle.std.proofs.Common.{◌≡◌, ◌++◌, map}
use Rattle.std.specs.List.{range_with_len}
use Rattle.plain_drawing.specs.inner.PartTexts.{part_text}
use Rattle.meta_container.specs.Container.{tile_bytes}
use Rattle.meta_drawing.proofs.containers.put_column.Given as goal

abbrev pub invariant-loop-row : goal.invariant-loop-row
invariant-loop-row l = l.out.items ≡ l.initial.out.items ++ tile_bytes (map (λ row. part_text l.image l.size l.col row) (range_with_len 0 l.row))
