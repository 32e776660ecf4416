-- The boxes so far are parted, and none is lost.
use Rattle.std.proofs.Common.{◌≡◌, ◌≤◌, length}
use Rattle.std.specs.Prelude.{IsPermutation}
use Rattle.expiry_lists.specs.Boxes.{comes_near}
use Rattle.expiry_lists.proofs.Near.{Parted}
use Rattle.expiry_lists.proofs.boxes.gather.Given as goal

abbrev pub invariant-loop-i : goal.invariant-loop-i
invariant-loop-i l = record {
  moved : IsPermutation l.initial.boxes l.boxes;
  long : length l.boxes ≡ length l.initial.boxes;
  low : l.near ≤ l.i;
  parts : Parted (λ b. comes_near b l.margin l.s) l.near l.i l.boxes;
}
