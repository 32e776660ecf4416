use Rattle.data_versions.proofs.Grids.{none_near}
use Rattle.data_versions.proofs.chunk.ChunkBlock.may_answer.Goals as goal

pub returns-in-IsNear : goal.returns-in-IsNear
returns-in-IsNear c = λ apart.
    rw (c.in-IsNear.is, ← c.self.view_is) (none_near c.self.inside.sieve c.self.inside.features.value.items c.in-IsNear.wanted.around c.self.invariant.1 (c.may_meet.ensures apart))
