-- The edits that are left do to the features that are left what all of them do to all.
use Rattle.std.proofs.Common.{◌≡◌, ◌+◌, ◌++◌, List, drop}
use Rattle.plain_shapes.specs.Features.{Feature}
use Rattle.data_versions.specs.inner.Building.{built}
use Rattle.data_versions.specs.inner.Edits.{edited}
use Rattle.data_versions.proofs.edits.ChunkEditable.edit_into.Given as goal

abbrev pub invariant-loop-feature : goal.invariant-loop-feature
invariant-loop-feature l = record {
  number : l.number ≡ l.first + l.feature-index;
  same : (more : List Feature) → built l.fn.builder ++ edited l.first l.fn.edits (l.feature-items ++ more)
      ≡ built l.builder ++ edited l.number l.edits (drop l.feature-index l.feature-items ++ more);
}
