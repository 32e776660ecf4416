use Rattle.farm_base.proofs.CutTexts.{cut_known}
use Rattle.farm_base.proofs.cuts.cut.Goals as goal

pub returns : goal.returns
returns c = cut_known c.args.end c.args.text.now c.split_once.result c.split_once.ensures.cases c.requires
