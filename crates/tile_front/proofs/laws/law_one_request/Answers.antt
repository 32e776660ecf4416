use Rattle.tile_front.proofs.HeadTexts.{no_head, one_head}
use Rattle.tile_front.proofs.TargetTexts.{one_target}
use Rattle.tile_front.proofs.laws.law_one_request.Goals as goal

pub returns-clause-none : goal.returns-clause-none
returns-clause-none c = no_head

pub returns-clause-head : goal.returns-clause-head
returns-clause-head c = one_head

pub returns-clause-target : goal.returns-clause-target
returns-clause-target c = one_target
