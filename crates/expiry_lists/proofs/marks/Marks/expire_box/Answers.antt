use Rattle.std.proofs.Common.{subst}
use Rattle.farm_history.specs.Plans.{AreApart}
use Rattle.expiry_lists.specs.Marks.{MarksSeen, shown_key, rectangle}
use Rattle.expiry_lists.proofs.Boxed.{in_box_means}
use Rattle.expiry_lists.proofs.Finding.{apart_shown}
use Rattle.expiry_lists.proofs.marks.Marks.expire_box.Goals as goal

pub returns-clause-meaning : goal.returns-clause-meaning
returns-clause-meaning c = λ k. in_box_means c.args.map c.args.z (rectangle c.args.west c.args.north c.args.east c.args.south) k c.requires.across c.requires.down

pub returns-clause-apart : goal.returns-clause-apart
returns-clause-apart c = subst (λ (m : MarksSeen). AreApart shown_key m.shown) c.self.view_is (apart_shown c.self.inside.nodes.entries c.len-count.ensures.unique)
