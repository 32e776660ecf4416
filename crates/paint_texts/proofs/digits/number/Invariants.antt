use Rattle.std.proofs.Common.{◌≡◌, ◌<◌, ◌^◌, drop}
use Rattle.farm_base.specs.Digits.{number_after}
use Rattle.paint_texts.proofs.digits.number.Given as goal

abbrev pub invariant-loop-digit : goal.invariant-loop-digit
invariant-loop-digit l = record {
  value : number_after l.n (drop l.digit-index l.digits) ≡ number_after 0 l.digits;
  bound : l.n < 10 ^ l.digit-index;
}
