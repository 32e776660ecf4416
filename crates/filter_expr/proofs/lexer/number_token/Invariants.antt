use Rattle.std.proofs.Common.{◌≡◌, ◌<◌, ◌^◌, drop}
use Rattle.farm_base.specs.Digits.{number_after}
use Rattle.filter_expr.specs.Spelling.{digits_number}
use Rattle.filter_expr.proofs.lexer.number_token.Given as goal

abbrev pub invariant-loop-digit : goal.invariant-loop-digit
invariant-loop-digit l = record {
  value : number_after l.value (drop l.digit-index l.digits) ≡ digits_number l.digits;
  small : l.value < 2 ^ 63;
}
