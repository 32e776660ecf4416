use Rattle.std.proofs.Common.{◌≡◌, ◌++◌, drop}
use Rattle.meta_container.specs.Container.{tile_bytes}
use Rattle.meta_container.proofs.writing.encode.Given as goal

abbrev pub invariant-loop-tile : goal.invariant-loop-tile
invariant-loop-tile l = l.out.items ++ tile_bytes (drop l.tile-index l.tiles) ≡ l.initial.out.items ++ tile_bytes l.tiles
