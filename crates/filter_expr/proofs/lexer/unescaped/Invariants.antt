use Rattle.std.proofs.Common.{◌≡◌, ◌++◌, false, length, string_bytes}
use Rattle.std.specs.Str.{IsUtf8}
use Rattle.filter_expr.specs.Lexing.{quoted_text}
use Rattle.filter_expr.proofs.lexer.unescaped.Given as goal

abbrev pub invariant-escapes : goal.invariant-escapes
invariant-escapes l = record {
  read : string_bytes l.out ++ quoted_text false l.rest ≡ quoted_text false l.content;
  text : IsUtf8 l.rest;
}

abbrev pub decreases-escapes : goal.decreases-escapes
decreases-escapes l = length l.rest
