use Rattle.std.proofs.Common.{◌≡◌, sym, ◌∙◌, rules}
use Rattle.expiry_lists.specs.Boxes.{comes_near}
use Rattle.expiry_lists.proofs.BoxLaws.{few_places, holds_from, holds_at}
use Rattle.expiry_lists.proofs.boxes.comes_near.Goals as goal

pub is_near-across-requires-clause-place : goal.is_near-across-requires-clause-place
is_near-across-requires-clause-place c = few_places c.args.s.z c.args.s.x c.requires.square.z_fits c.requires.square.x_fits

pub is_near-down-requires-clause-place : goal.is_near-down-requires-clause-place
is_near-down-requires-clause-place c = few_places c.args.s.z c.args.s.y c.requires.square.z_fits c.requires.square.y_fits

pub returns-then-across-clause-meaning : goal.returns-then-across-clause-meaning
returns-then-across-clause-meaning c = λ across down.
    let value : c.is_near-down.result ≡ comes_near c.args.b c.args.margin c.args.s = search rules in
    (λ h. holds_at c.args.b c.args.margin c.args.s across down (sym value ∙ h), λ p. value ∙ holds_from c.args.b c.args.margin c.args.s p)
