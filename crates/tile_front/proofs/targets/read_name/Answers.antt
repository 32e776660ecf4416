use Rattle.std.proofs.Common.{List, ℕ, sym, subst, ◌∙◌, rules}
use Rattle.tile_paths.specs.Paths.{IsName}
use Rattle.tile_paths.proofs.Numbers.{name_apart}
use Rattle.tile_front.proofs.targets.read_name.Goals as goal

pub returns-in_default-clause-every : goal.returns-in_default-clause-every
returns-in_default-clause-every c name rest is e =
    rw c.in_default.is at (name_apart name c.args.text.now rest c.split_once.result c.split_once.ensures.cases is e)

pub returns-clause-every : goal.returns-clause-every
returns-clause-every c name rest is e =
    rw c.in-Some.is at (name_apart name c.args.text.now rest c.split_once.result c.split_once.ensures.cases is e)

pub returns-then-not-is_name-clause-every : goal.returns-then-not-is_name-clause-every
returns-then-not-is_name-clause-every c name rest is e =
    let apart = rw c.in-Some.is at (name_apart name c.args.text.now rest c.split_once.result c.split_once.ensures.cases is e) in
    let named : IsName c.in-Some.name.now = subst (λ (t : List ℕ). IsName t) (sym apart.0) is in
    let yes = c.if-not-is_name.ensures ∙ named in
    grind (rules)
