use Rattle.exit_status.proofs.LineTexts.{scripts_are_told, lists_are_told}
use Rattle.exit_status.proofs.laws.law_lines_are_told.Goals as goal

pub returns : goal.returns
returns c = record { scripts = scripts_are_told; lists = lists_are_told }
