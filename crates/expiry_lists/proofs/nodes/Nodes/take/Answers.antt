use Rattle.std.proofs.Common.{◌≡◌, false, None, cond, option_map, ap, sym, ◌∙◌, subst}
use Rattle.farm_history.specs.declared.keys.Key.{Key}
use Rattle.farm_history.specs.Plans.{same_key}
use Rattle.expiry_lists.specs.inner.Nodes.{Node, NodeTable, Gives, Owns, node_of, seen_nodes, version_of}
use Rattle.expiry_lists.proofs.Seen.{seen_owns, taken_nodes, owned_after}
use Rattle.expiry_lists.proofs.nodes.Nodes.take.Goals as goal
use Rattle.expiry_lists.proofs.nodes.Nodes.take.Goals.{After-drop_version}

module _ (c : After-drop_version) where
  owns : Owns c.args.key false c.self.inside.tables.spots c.drop_version.new.tables.spots
  owns = subst (λ ss. Owns c.args.key false c.self.inside.tables.spots ss) (sym c.drop_version.ensures.spots) c.set_own.ensures.owns

  writes : (k : Key) → version_of c.drop_version.new.tables.versions k ≡ cond (same_key c.args.key k) (option_map (λ v. None) (version_of c.self.inside.tables.versions k)) (version_of c.self.inside.tables.versions k)
  writes k = c.drop_version.ensures.versions k ∙ ap (λ vs. cond (same_key c.args.key k) (option_map (λ v. None) (version_of vs k)) (version_of vs k)) c.set_own.ensures.versions

  nodes : Gives c.args.key (option_map (λ n. record { mark = None }) (node_of (seen_nodes c.self.inside.tables.spots c.self.inside.tables.versions) c.args.key))
      (seen_nodes c.self.inside.tables.spots c.self.inside.tables.versions) (seen_nodes c.drop_version.new.tables.spots c.drop_version.new.tables.versions)
  nodes = taken_nodes c.self.inside.tables c.drop_version.new.tables c.args.key owns writes

pub invariant_of-self : goal.invariant_of-self
invariant_of-self c =
    owned_after (seen_nodes c.self.inside.tables.spots c.self.inside.tables.versions) (seen_nodes c.drop_version.new.tables.spots c.drop_version.new.tables.versions) c.self.inside.tables.spots c.drop_version.new.tables.spots c.args.key false _ (λ never. cc) (nodes c) (owns c) c.self.invariant

pub returns-clause-nodes : goal.returns-clause-nodes
returns-clause-nodes c =
    subst (λ (t : NodeTable). Gives c.args.key (option_map (λ (n : Node). record { mark = None }) (node_of t.entries c.args.key)) t.entries (seen_nodes c.drop_version.new.tables.spots c.drop_version.new.tables.versions)) c.self.view_is (nodes c)

pub returns-clause-own : goal.returns-clause-own
returns-clause-own c = seen_owns c.drop_version.new.tables.spots c.drop_version.new.tables.versions
