use Rattle.std.proofs.Common.{◌∙◌, sym, ap}
use Rattle.paint_texts.specs.Decimals.{at_most_one}
use Rattle.paint_texts.proofs.Grammar.{thousandths_exact}
use Rattle.paint_texts.proofs.decimals.thousandths.Goals as goal

pub returns-clause-exact : goal.returns-clause-exact
returns-clause-exact c =
    λ n. let law = thousandths_exact c.args.text.now n in
    let is = c.at_most_one.ensures ∙ ap at_most_one c.decimal.ensures in
    (λ e. law.0 (sym is ∙ e), λ d. is ∙ law.1 d)
