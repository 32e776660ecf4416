use Rattle.std.proofs.Common.{◌≡◌, ℕ, ◌^◌, List, ◌∷◌, ◌++◌, Some, None, sym, ap, ◌∙◌, arith}
use Rattle.std.specs.Fmt.{decimal}
use Rattle.std.proofs.lemmas.Str.Pattern.{split_after, split_parts}
use Rattle.farm_base.specs.Numbers.{decimal_below}
use Rattle.farm_base.proofs.NumberTexts.{number_known, number_means}
use Rattle.tile_front.proofs.TargetTexts.{no_end}
use Rattle.tile_front.proofs.targets.read_number.Goals as goal

pub returns-in_default-clause-every : goal.returns-in_default-clause-every
returns-in_default-clause-every c n rest small e =
    rw c.in_default.is at
    (split_after c.args.end c.args.text.now (decimal n) rest c.split_once.result c.split_once.ensures.cases (omega arith) e (λ i l. no_end n c.args.end i small c.requires l))

pub returns-in-Some-small_number-clause-some : goal.returns-in-Some-small_number-clause-some
returns-in-Some-small_number-clause-some c =
    let means = number_means (2 ^ 32) c.in-Some-small_number.number c.in-Some.digits.now (sym c.small_number.ensures.value ∙ c.in-Some-small_number.is) in
    let parts = rw c.in-Some.is at (split_parts c.args.end c.args.text.now c.split_once.result c.split_once.ensures.cases (omega arith)) in
    (means.1, parts.0 ∙ ap (λ (d : List ℕ). d ++ c.args.end ∷ c.in-Some.rest.now) means.0)

pub returns-in-Some-small_number-clause-every : goal.returns-in-Some-small_number-clause-every
returns-in-Some-small_number-clause-every c n rest small e =
    let apart = rw c.in-Some.is at
    (split_after c.args.end c.args.text.now (decimal n) rest c.split_once.result c.split_once.ensures.cases (omega arith) e (λ i l. no_end n c.args.end i small c.requires l)) in
    let known : decimal_below (2 ^ 32) c.in-Some.digits.now ≡ Some n = number_known (2 ^ 32) n c.in-Some.digits.now small (omega arith) apart.0 in
    let same : Some c.in-Some-small_number.number ≡ Some n = sym c.in-Some-small_number.is ∙ c.small_number.ensures.value ∙ known in
    ((cc), apart.1)

pub returns-in-None-clause-every : goal.returns-in-None-clause-every
returns-in-None-clause-every c n rest small e =
    let apart = rw c.in-Some.is at
    (split_after c.args.end c.args.text.now (decimal n) rest c.split_once.result c.split_once.ensures.cases (omega arith) e (λ i l. no_end n c.args.end i small c.requires l)) in
    let known : decimal_below (2 ^ 32) c.in-Some.digits.now ≡ Some n = number_known (2 ^ 32) n c.in-Some.digits.now small (omega arith) apart.0 in
    let same : None ≡ Some n = sym c.in-None.is ∙ c.small_number.ensures.value ∙ known in
    cc
