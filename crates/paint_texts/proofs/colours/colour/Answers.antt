use Rattle.std.proofs.Common.{◌∙◌, sym}
use Rattle.paint_texts.proofs.Exact.{colour_exact}
use Rattle.paint_texts.proofs.colours.colour.Goals as goal

pub returns-clause-exact : goal.returns-clause-exact
returns-clause-exact c = λ d. let law = colour_exact c.args.text.now d in (λ e. law.0 (sym c.read.ensures ∙ e), λ h. c.read.ensures ∙ law.1 h)
