-- The first answer from the place on is that from the first place on.
use Rattle.std.proofs.Common.{◌≡◌, ◌-◌}
use Rattle.data_versions.specs.inner.Parts.{next_answer}
use Rattle.data_versions.specs.inner.Questions.{answers}
use Rattle.data_versions.proofs.blocks.Blocks.find.Given as goal

abbrev pub invariant-loop-from : goal.invariant-loop-from
invariant-loop-from g l = next_answer (answers l.question) l.self l.fn.from ≡ next_answer (answers l.question) l.self l.from

abbrev pub decreases-loop-from : goal.decreases-loop-from
decreases-loop-from g l = l.count - l.from
