use Rattle.std.proofs.Common.{◌^◌, ◌∙◌}
use Rattle.farm_base.proofs.NumberTexts.{number_known}
use Rattle.farm_words.proofs.Numbers.{some_below}
use Rattle.farm_words.proofs.forms.number.Goals as goal

pub returns-clause-some : goal.returns-clause-some
returns-clause-some c = some_below (2 ^ 64) c.args.text.now c.number.result c.number.ensures

pub returns-clause-every : goal.returns-clause-every
returns-clause-every c n h e = c.number.ensures ∙ number_known (2 ^ 64) n c.args.text.now h h e
