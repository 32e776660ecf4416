use Rattle.std.proofs.Common.{◌∙◌, ap, sym}
use Rattle.std.specs.Prelude.{not, ◌==◌}
use Rattle.std.proofs.lemmas.Bool.{eqb-true, not-false, true≢false}
use Rattle.attribute_marks.proofs.Bits.{one_shared, none_shared}
use Rattle.attribute_marks.proofs.marks.shares.Goals as goal

pub returns-clause-some : goal.returns-clause-some
returns-clause-some c both = one_shared c.args.marks c.args.asked (λ none. true≢false (sym both ∙ ap (λ n. not (n == 0)) none))

pub returns-clause-none : goal.returns-clause-none
returns-clause-none c apart = none_shared c.args.marks c.args.asked (eqb-true _ 0 (not-false _ apart))
