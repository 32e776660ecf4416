use Rattle.plain_image.proofs.Whole.{says_images}
use Rattle.plain_image.proofs.laws.law_ppm_images.Goals as goal

pub returns : goal.returns
returns c = says_images
