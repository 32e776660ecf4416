use Rattle.std.proofs.Common.{◌≡◌, ◌≤◌, drop}
use Rattle.plain_image.specs.PpmText.{digits}
use Rattle.plain_image.proofs.parts.digits.Given as goal

abbrev pub invariant-loop-i : goal.invariant-loop-i
invariant-loop-i l = record {
  value : digits l.value l.i (drop l.i l.bytes) ≡ digits l.first l.at (drop l.at l.bytes);
  some : 1 ≤ l.value;
  few : l.value ≤ 4096;
}
