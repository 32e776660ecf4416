use Rattle.std.proofs.Common.{◌∙◌, sym}
use Rattle.paint_texts.proofs.Grammar.{hundredths_exact}
use Rattle.paint_texts.proofs.decimals.hundredths.Goals as goal

pub returns-clause-exact : goal.returns-clause-exact
returns-clause-exact c = λ n. let law = hundredths_exact c.args.text.now n in (λ e. law.0 (sym c.decimal.ensures ∙ e), λ d. c.decimal.ensures ∙ law.1 d)
