use Rattle.std.proofs.Common.{◌≡◌, ◌++◌, flat_map}
use Rattle.std.specs.List.{range_with_len}
use Rattle.plain_drawing.specs.inner.PartTexts.{column_texts}
use Rattle.meta_container.specs.Container.{tile_bytes}
use Rattle.meta_drawing.proofs.containers.put_tiles.Given as goal

abbrev pub invariant-loop-col : goal.invariant-loop-col
invariant-loop-col l = l.out.items ≡ l.initial.out.items ++ tile_bytes (flat_map (column_texts l.image l.size l.across) (range_with_len 0 l.col))
