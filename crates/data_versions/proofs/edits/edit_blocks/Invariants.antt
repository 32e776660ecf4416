-- The edits that are left do to the blocks that are left what all of them do to all.
use Rattle.std.proofs.Common.{◌≡◌, ◌+◌, ◌++◌, List, length, take, drop}
use Rattle.std.specs.List.{flat_map}
use Rattle.plain_shapes.specs.Features.{Feature}
use Rattle.data_versions.specs.inner.Building.{built}
use Rattle.data_versions.specs.inner.Edits.{edited}
use Rattle.data_versions.proofs.edits.edit_blocks.Given as goal

abbrev pub invariant-loop-block : goal.invariant-loop-block
invariant-loop-block g l = record {
  number : l.start ≡ l.first + length (flat_map g.B.Block.features (take l.block-index l.block-items));
  same : (more : List Feature) → built l.fn.builder ++ edited l.first l.fn.edits (flat_map g.B.Block.features l.block-items ++ more)
      ≡ built l.builder ++ edited l.start l.edits (flat_map g.B.Block.features (drop l.block-index l.block-items) ++ more);
}
