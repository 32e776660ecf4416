use Rattle.std.proofs.Common.{Some}
use Rattle.turn_cell.proofs.cell.TurnCell.turn.Given as goal

-- the entry of the call and its answer
abbrev pub ghosts-count : goal.ghosts-count
ghosts-count g a = record { entry = Some (g.C.Call.entry a._asked.now.value a._answer.now) }
