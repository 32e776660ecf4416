use Rattle.std.proofs.Common.{rules, ◌≡◌, sym, subst}
use Rattle.plain_filters.specs.Filters.{tree_of}
use Rattle.filter_expr.specs.Filters.{FilterOf}
use Rattle.filter_texts.specs.Written.{filter_text}
use Rattle.filter_texts.proofs.Again.{written_again}
use Rattle.filter_texts.proofs.writer.write.Goals as goal

pub returns-clause-again : goal.returns-clause-again
returns-clause-again c =
    let text : c.from_string.result ≡ filter_text (tree_of c.args.e.now) = search rules in
    λ said f. subst (λ w. FilterOf w (tree_of c.args.e.now)) (sym text) (written_again said (tree_of c.args.e.now) f)
