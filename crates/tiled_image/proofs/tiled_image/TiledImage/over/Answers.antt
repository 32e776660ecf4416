use Rattle.tiled_image.proofs.JoinedSteps.{blank_tiled, blank_image}
use Rattle.tiled_image.proofs.tiled_image.TiledImage.over.Goals as goal

pub invariant_of-result : goal.invariant_of-result
invariant_of-result c =
    blank_tiled c.shift_of.result c.args.across c.args.size c.args.before c.args.c c.in_ok-texts.texts c.requires.size c.shift_of.ensures.value c.shift_of.ensures.few c.requires.some c.requires.few
    c.in_ok-texts.ensures

pub returns : goal.returns
returns c = blank_image c.args.across c.args.size c.args.before c.args.c c.in_ok-texts.texts c.requires.size c.requires.some c.in_ok-texts.ensures
