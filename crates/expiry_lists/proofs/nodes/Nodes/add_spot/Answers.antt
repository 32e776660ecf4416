use Rattle.std.proofs.Common.{◌≡◌, ℕ, ap, ◌∙◌}
use Rattle.farm_history.specs.declared.keys.Key.{Key}
use Rattle.expiry_lists.specs.inner.Nodes.{NodeTable, owns_at, spot_of}
use Rattle.expiry_lists.proofs.Seen.{add_owns, same_owned, same_seen}
use Rattle.expiry_lists.proofs.nodes.Nodes.add_spot.Goals as goal
use Rattle.expiry_lists.proofs.nodes.Nodes.add_spot.Goals.{After-add_spot}

same : (c : After-add_spot) → (p : Key) (b : ℕ) → owns_at c.add_spot.new.self.spots p b ≡ owns_at c.self.inside.tables.spots p b
same c = add_owns c.self.inside.tables.spots c.add_spot.new.self.spots c.args.place c.args.live (ap (λ (t : NodeTable). spot_of t.spots c.args.place) c.self.view_is ∙ c.requires.absent) c.add_spot.ensures.spots

pub invariant_of-self : goal.invariant_of-self
invariant_of-self c = same_owned c.self.inside.tables c.add_spot.new.self c.add_spot.ensures.versions (same c) c.self.invariant

pub returns-clause-entries : goal.returns-clause-entries
returns-clause-entries c = same_seen c.self.inside.tables c.add_spot.new.self c.add_spot.ensures.versions (same c) ∙ ap (λ (t : NodeTable). t.entries) c.self.view_is
