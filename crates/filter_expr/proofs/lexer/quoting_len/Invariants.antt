use Rattle.std.proofs.Common.{◌≡◌, false, drop}
use Rattle.filter_expr.specs.Lexing.{quoting_len}
use Rattle.filter_expr.proofs.Lexes.{further}
use Rattle.filter_expr.proofs.lexer.quoting_len.Given as goal

abbrev pub invariant-loop-i : goal.invariant-loop-i
invariant-loop-i l = further l.i (quoting_len l.quote l.escaped (drop l.i l.bytes)) ≡ quoting_len l.quote false l.bytes
