use Rattle.std.proofs.Common.{ℕ, ◌<◌, ◌≤◌}
use Rattle.centre_spans.proofs.Rounds.{RowKnown}
use Rattle.centre_spans.proofs.known.is_known.Given as goal

abbrev pub invariant-loop-j : goal.invariant-loop-j
invariant-loop-j g l = record { known : (k : ℕ) → l.top ≤ k → k < l.j → RowKnown g.K.Surface.shows l.round l.w k l.mask }
