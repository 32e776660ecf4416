-- None of the blocks so far has an answer from the place on, and they and the next one reach past the place.
use Rattle.std.proofs.Common.{◌<◌, ◌+◌, length, take}
use Rattle.std.specs.List.{flat_map}
use Rattle.data_versions.specs.inner.Questions.{answers}
use Rattle.data_versions.proofs.Laid.{NoneBefore}
use Rattle.data_versions.proofs.blocks.Blocks.part_from.Given as goal

abbrev pub invariant-loop-at : goal.invariant-loop-at
invariant-loop-at g l = record {
  none : NoneBefore g.B.Block.features (answers l.question) l.self-inside.list.items l.from l.at;
  reach : l.from < length (flat_map g.B.Block.features (take (l.at + 1) l.self-inside.list.items));
}
