use Rattle.std.proofs.Common.{subst}
use Rattle.std.specs.List.{IsDistinct}
use Rattle.std.specs.Map.{keys_of}
use Rattle.farm_history.specs.Plans.{same_key}
use Rattle.expiry_lists.specs.inner.Nodes.{NodeTable}
use Rattle.expiry_lists.proofs.Seen.{seen_apart}
use Rattle.expiry_lists.proofs.nodes.Nodes.len.Goals as goal

pub returns-clause-unique : goal.returns-clause-unique
returns-clause-unique c = subst (λ (t : NodeTable). IsDistinct same_key (keys_of t.entries)) c.self.view_is (seen_apart c.self.inside.tables.spots c.self.inside.tables.versions c.len.ensures.unique)
