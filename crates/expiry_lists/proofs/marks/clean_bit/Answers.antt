use Rattle.std.proofs.Common.{◌%◌, refl, ◌∙◌, arith}
use Rattle.std.proofs.lemmas.Bool.{eq-eqb}
use Rattle.expiry_lists.proofs.Tiles.{one_bit}
use Rattle.expiry_lists.proofs.marks.clean_bit.Goals as goal

pub returns-then-clean : goal.returns-then-clean
returns-then-clean c = λ is. one_bit (c.args.map % 64) (c.args.map % 64) (omega arith) ∙ eq-eqb (c.args.map % 64) (c.args.map % 64) refl
