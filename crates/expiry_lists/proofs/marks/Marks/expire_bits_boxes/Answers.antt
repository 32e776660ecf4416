use Rattle.std.proofs.Common.{subst}
use Rattle.farm_history.specs.Plans.{AreApart}
use Rattle.expiry_lists.specs.Marks.{MarksSeen, shown_key}
use Rattle.expiry_lists.proofs.Finding.{apart_shown}
use Rattle.expiry_lists.proofs.marks.Marks.expire_bits_boxes.Goals as goal

pub returns-clause-apart : goal.returns-clause-apart
returns-clause-apart c = subst (λ (m : MarksSeen). AreApart shown_key m.shown) c.self.view_is (apart_shown c.self.inside.nodes.entries c.len-count.ensures.unique)
