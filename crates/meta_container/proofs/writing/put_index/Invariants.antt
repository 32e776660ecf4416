use Rattle.std.proofs.Common.{◌≡◌, ◌++◌}
use Rattle.std.specs.List.{flat_map}
use Rattle.meta_container.specs.Container.{span_bytes, index_below}
use Rattle.meta_container.proofs.writing.put_index.Given as goal

abbrev pub invariant-loop-place : goal.invariant-loop-place
invariant-loop-place l = l.out.items ≡ l.fn.out.items ++ flat_map span_bytes (index_below l.across l.tiles l.place)
