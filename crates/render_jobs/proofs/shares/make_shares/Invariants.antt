-- As many shares as steps, all of the same.
use Rattle.std.proofs.Common.{◌≡◌, ◌≤◌, replicate}
use Rattle.std.specs.Vec.{vec_capacity}
use Rattle.render_jobs.proofs.shares.make_shares.Given as goal

abbrev pub invariant-loop-n : goal.invariant-loop-n
invariant-loop-n l = (l.made.items ≡ replicate l._n l.share) × (l.fn.count ≤ vec_capacity l.made)
