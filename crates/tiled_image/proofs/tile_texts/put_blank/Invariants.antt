use Rattle.std.proofs.Common.{◌≡◌, ◌++◌, flat_map, replicate, string_bytes}
use Rattle.tiled_image.proofs.tile_texts.put_blank.Given as goal

abbrev pub invariant-loop-row : goal.invariant-loop-row
invariant-loop-row l = l.out.items ≡ (l.fn.out.items ++ string_bytes l.blank.head) ++ flat_map (λ bytes. bytes) (replicate l._row l.blank.rows.items)
