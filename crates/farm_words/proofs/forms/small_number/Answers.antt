use Rattle.std.proofs.Common.{◌^◌, ◌∙◌, arith}
use Rattle.farm_base.proofs.NumberTexts.{number_known}
use Rattle.farm_words.proofs.Numbers.{some_read}
use Rattle.farm_words.proofs.forms.small_number.Goals as goal

pub returns-clause-some : goal.returns-clause-some
returns-clause-some c = some_read (2 ^ 32) c.args.text.now c.small_number.result c.small_number.ensures.value

pub returns-clause-every : goal.returns-clause-every
returns-clause-every c n h e = c.small_number.ensures.value ∙ number_known (2 ^ 32) n c.args.text.now h (omega (arith, h)) e
