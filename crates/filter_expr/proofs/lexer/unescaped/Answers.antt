use Rattle.std.proofs.Common.{◌≡◌, ◌≤◌, ◌+◌, ◌++◌, ◌∙◌, ap, false, true, take, drop, length, rules, arith, subst, sym, string_bytes}
use Rattle.std.specs.List.{prefix_len}
use Rattle.std.specs.Str.{IsCharBoundary}
use Rattle.std.proofs.lemmas.List.{take_all}
use Rattle.std.proofs.lemmas.List.Sums.{prefix_len-le-length}
use Rattle.filter_expr.specs.Lexing.{quoted_text}
use Rattle.filter_expr.specs.inner.Runs.{is_plain_byte}
use Rattle.filter_expr.proofs.Lexes.{run_cut, plain_ends, escapes_go, escape_none, escape_past}
use Rattle.filter_expr.proofs.lexer.unescaped.Goals as goal

pub range-requires-clause-end_boundary : goal.range-requires-clause-end_boundary
range-requires-clause-end_boundary c =
    let count : c.run_len-count.result ≡ prefix_len is_plain_byte c.escapes.rest.now = search rules in
    subst (λ n. IsCharBoundary c.escapes.rest.now n) (sym count) (run_cut is_plain_byte plain_ends c.escapes.rest.now)

pub returns-then-count-rest : goal.returns-then-count-rest
returns-then-count-rest c =
    let count : c.run_len-count.result ≡ prefix_len is_plain_byte c.escapes.rest.now = search rules in
    let all : length c.escapes.rest.now ≤ prefix_len is_plain_byte c.escapes.rest.now = omega (arith, count, c.if-count-rest.true) in
    let written : string_bytes c.push_str.new.self ≡ string_bytes c.escapes.out ++ take c.run_len-count.result c.escapes.rest.now = search rules in
    written ∙ ap (λ l. string_bytes c.escapes.out ++ l) (take_all c.run_len-count.result c.escapes.rest.now (omega (arith, c.if-count-rest.true)) ∙ sym (escape_none c.escapes.rest.now all))
    ∙ c.escapes.invariant.read

pub range_from-behind-requires : goal.range_from-behind-requires
range_from-behind-requires c =
    let count : c.run_len-count.result ≡ prefix_len is_plain_byte c.escapes.rest.now = search rules in
    λ _. escape_past c.escapes.rest.now c.run_len-count.result c.escapes.invariant.text count
    (omega (arith, count, prefix_len-le-length is_plain_byte c.escapes.rest.now, c.if-count-rest.false))

pub escapes-preserved : goal.escapes-preserved
escapes-preserved c = record {
  read =
      let count : c.run_len-count.result ≡ prefix_len is_plain_byte c.escapes.rest.now = search rules in
      let written : string_bytes c.push_str.new.self ≡ string_bytes c.escapes.out ++ take c.run_len-count.result c.escapes.rest.now = search rules in
      let kept : string_bytes c.push_str-in-escapes.new.self ≡ string_bytes c.push_str.new.self ++ take c.escaped_len-kept.result c.range_from-behind.result.now = search rules in
      let parts : take c.escaped_len-kept.result c.range_from-behind.result.now ++ quoted_text false c.range_from-rest.result.now ≡ quoted_text true (drop (c.run_len-count.result + 1) c.escapes.rest.now) = search rules in
      escapes_go (string_bytes c.escapes.out) c.escapes.rest.now (take c.escaped_len-kept.result c.range_from-behind.result.now) c.range_from-rest.result.now
      (string_bytes c.push_str.new.self) (string_bytes c.push_str-in-escapes.new.self) (quoted_text false c.args.content.now) c.run_len-count.result c.escapes.invariant.read count
      (omega (arith, count, prefix_len-le-length is_plain_byte c.escapes.rest.now, c.if-count-rest.false)) written kept parts;
  text = c.range_from-rest.utf8;
}
