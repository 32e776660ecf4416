use Rattle.std.proofs.Common.{◌≡◌, rules, subst, sym}
use Rattle.std.specs.List.{prefix_len}
use Rattle.std.specs.Str.{IsCharBoundary}
use Rattle.filter_expr.specs.Spelling.{is_attribute_byte}
use Rattle.filter_expr.proofs.Lexes.{run_cut, name_ends}
use Rattle.filter_expr.proofs.lexer.name_token_at.Goals as goal

pub range-requires-clause-end_boundary : goal.range-requires-clause-end_boundary
range-requires-clause-end_boundary c =
    let count : c.run_len-count.result ≡ prefix_len is_attribute_byte c.args.rest.now = search rules in
    subst (λ n. IsCharBoundary c.args.rest.now n) (sym count) (run_cut is_attribute_byte name_ends c.args.rest.now)
