-- The bits of the maps so far.
use Rattle.std.proofs.Common.{◌≡◌, ◌==◌, ℕ}
use Rattle.std.specs.Int.{bit_at}
use Rattle.reach_box.proofs.Dirtied.{sized_below}
use Rattle.reach_box.proofs.dirties.word_of.Given as goal

abbrev pub invariant-loop-place : goal.invariant-loop-place
invariant-loop-place l = (m : ℕ) → (bit_at l.word m == 1) ≡ sized_below l.maps l.size l.place m
