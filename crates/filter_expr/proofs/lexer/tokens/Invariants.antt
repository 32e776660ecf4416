use Rattle.std.proofs.Common.{◌≡◌, ◌≤◌, ◌-◌, ◌++◌, drop, length}
use Rattle.filter_expr.specs.Lexing.{tokens_from}
use Rattle.filter_expr.proofs.lexer.tokens.Given as goal

abbrev pub invariant-tokens : goal.invariant-tokens
invariant-tokens l = record {
  read : l.stream.items ++ tokens_from l.at 0 (drop l.at l.bytes) ≡ tokens_from 0 0 l.bytes;
  within : l.at ≤ length l.bytes;
}

abbrev pub decreases-tokens : goal.decreases-tokens
decreases-tokens l = length l.bytes - l.at
