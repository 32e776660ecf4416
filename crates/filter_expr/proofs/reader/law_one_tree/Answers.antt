use Rattle.filter_expr.proofs.Final.{one_tree}
use Rattle.filter_expr.proofs.Texts.{some_tokens, one_token_list}
use Rattle.filter_expr.proofs.reader.law_one_tree.Goals as goal

pub returns : goal.returns
returns c = record { some = some_tokens; tokens = one_token_list; tree = one_tree }
