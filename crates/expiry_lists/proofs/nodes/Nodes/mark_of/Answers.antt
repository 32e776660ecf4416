use Rattle.std.proofs.Common.{ap, ◌∙◌, subst, rules}
use Rattle.std.specs.List.{IsDistinct}
use Rattle.std.specs.Map.{keys_of}
use Rattle.farm_history.specs.Plans.{same_key}
use Rattle.expiry_lists.specs.inner.Nodes.{NodeTable, node_mark, node_of}
use Rattle.expiry_lists.proofs.Seen.{seen_apart, seen_mark_of, seen_no_mark}
use Rattle.expiry_lists.proofs.nodes.Nodes.mark_of.Goals as goal

pub returns-in-Some-clause-mark : goal.returns-in-Some-clause-mark
returns-in-Some-clause-mark c =
    c.seen.ensures
    ∙ (seen_mark_of c.self.inside.tables.spots c.self.inside.tables.versions c.args.key c.in-Some.version (search rules) ∙ ap (λ (t : NodeTable). node_mark (node_of t.entries c.args.key)) c.self.view_is)

pub returns-in-Some-clause-unique : goal.returns-in-Some-clause-unique
returns-in-Some-clause-unique c = subst (λ (t : NodeTable). IsDistinct same_key (keys_of t.entries)) c.self.view_is (seen_apart c.self.inside.tables.spots c.self.inside.tables.versions c.len-count.ensures.unique)

pub returns-in-None-clause-mark : goal.returns-in-None-clause-mark
returns-in-None-clause-mark c =
    seen_no_mark c.self.inside.tables.spots c.self.inside.tables.versions c.args.key (search rules) ∙ ap (λ (t : NodeTable). node_mark (node_of t.entries c.args.key)) c.self.view_is

pub returns-in-None-clause-unique : goal.returns-in-None-clause-unique
returns-in-None-clause-unique c = subst (λ (t : NodeTable). IsDistinct same_key (keys_of t.entries)) c.self.view_is (seen_apart c.self.inside.tables.spots c.self.inside.tables.versions c.len-count.ensures.unique)
