use Rattle.tile_front.proofs.HeadTexts.{bad_stays, whole_stays}
use Rattle.tile_front.proofs.laws.law_stays.Goals as goal

pub returns-clause-bad : goal.returns-clause-bad
returns-clause-bad c = bad_stays

pub returns-clause-whole : goal.returns-clause-whole
returns-clause-whole c = whole_stays
