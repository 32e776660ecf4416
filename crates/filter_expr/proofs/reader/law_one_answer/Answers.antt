use Rattle.filter_expr.proofs.Texts.{some_answer, one_filter, not_both_of, one_fault}
use Rattle.filter_expr.proofs.reader.law_one_answer.Goals as goal

pub returns : goal.returns
returns c = record { some = some_answer; filter = one_filter; apart = not_both_of; fault = one_fault }
