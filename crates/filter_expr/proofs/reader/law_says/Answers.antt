use Rattle.filter_expr.proofs.Texts.{says_filter, says_fault, filter_said, fault_said}
use Rattle.filter_expr.proofs.reader.law_says.Goals as goal

pub returns : goal.returns
returns c = record { filter = says_filter; fault = says_fault; said = filter_said; refused = fault_said }
