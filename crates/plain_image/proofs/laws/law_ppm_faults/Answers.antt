use Rattle.plain_image.proofs.Whole.{says_bad, says_too_large, says_nothing_else}
use Rattle.plain_image.proofs.laws.law_ppm_faults.Goals as goal

pub returns : goal.returns
returns c = record { bad = says_bad; too_large = says_too_large; nothing_else = says_nothing_else }
