use Rattle.std.proofs.Common.{◌≡◌, true, None, Some, cond, ap, sym, ◌∙◌, subst, arith}
use Rattle.farm_history.specs.declared.keys.Key.{Key}
use Rattle.farm_history.specs.Plans.{same_key}
use Rattle.expiry_lists.specs.inner.Nodes.{NodeTable, Gives, Owns, has_node, seen_nodes, version_of}
use Rattle.expiry_lists.proofs.Seen.{seen_owns, given_nodes, given_owned, no_node, node_there}
use Rattle.expiry_lists.proofs.nodes.Nodes.give.Goals as goal
use Rattle.expiry_lists.proofs.nodes.Nodes.give.Goals.{After-set_version}

pub set_version-requires : goal.set_version-requires
set_version-requires c = λ gone.
    let i = c.self.inside.tables in
    let none : version_of i.versions c.args.key ≡ None = sym (ap (λ vs. version_of vs c.args.key) c.set_own.ensures.versions) ∙ gone in
    let room = c.requires.room (sym (ap (λ (t : NodeTable). has_node t.entries c.args.key) c.self.view_is) ∙ no_node i.spots i.versions c.args.key none) in
    omega (arith, room, c.set_own.ensures.room, ap (λ (t : NodeTable). t.room) c.self.view_is)

module _ (c : After-set_version) where
  owns : Owns c.args.key c.args.mark.clean c.self.inside.tables.spots c.set_version.new.tables.spots
  owns = subst (λ ss. Owns c.args.key c.args.mark.clean c.self.inside.tables.spots ss) (sym c.set_version.ensures.spots) c.set_own.ensures.owns

  writes : (k : Key) → version_of c.set_version.new.tables.versions k ≡ cond (same_key c.args.key k) (Some (Some c.args.mark.version)) (version_of c.self.inside.tables.versions k)
  writes k = c.set_version.ensures.versions k ∙ ap (λ vs. cond (same_key c.args.key k) (Some (Some c.args.mark.version)) (version_of vs k)) c.set_own.ensures.versions

pub invariant_of-self : goal.invariant_of-self
invariant_of-self c = given_owned c.self.inside.tables c.set_version.new.tables c.args.key c.args.mark.clean (owns c) c.self.invariant c.args.mark.version (writes c)

pub returns-clause-nodes : goal.returns-clause-nodes
returns-clause-nodes c =
    subst (λ (t : NodeTable). Gives c.args.key (Some (record { mark = Some c.args.mark })) t.entries (seen_nodes c.set_version.new.tables.spots c.set_version.new.tables.versions)) c.self.view_is
    (given_nodes c.self.inside.tables c.set_version.new.tables c.args.key c.args.mark.clean (owns c) c.self.invariant c.args.mark.version (writes c))

pub returns-clause-known : goal.returns-clause-known
returns-clause-known c = λ there.
    let i = c.self.inside.tables in
    let was : has_node (seen_nodes i.spots i.versions) c.args.key ≡ true = ap (λ (t : NodeTable). has_node t.entries c.args.key) c.self.view_is ∙ there in
    c.set_version.ensures.known (λ gone. node_there i.spots i.versions c.args.key was (sym (ap (λ vs. version_of vs c.args.key) c.set_own.ensures.versions) ∙ gone))
    ∙ (c.set_own.ensures.room ∙ ap (λ (t : NodeTable). t.room) c.self.view_is)

pub returns-clause-own : goal.returns-clause-own
returns-clause-own c = seen_owns c.set_version.new.tables.spots c.set_version.new.tables.versions
