use Rattle.std.proofs.Common.{◌≡◌, ◌++◌, flat_map, replicate}
use Rattle.tiled_image.specs.inner.Blanks.{text_of}
use Rattle.tiled_image.proofs.tile_texts.copies.Given as goal

abbrev pub invariant-loop-copy : goal.invariant-loop-copy
invariant-loop-copy l = l.out.items ≡ replicate l.before 0 ++ flat_map (λ bytes. bytes) (replicate l._copy (text_of l.text))
