use Rattle.std.proofs.Common.{◌≡◌, ℕ, ap, ◌∙◌}
use Rattle.std.specs.Prelude.{position}
use Rattle.std.specs.Map.{keys_of, set_value}
use Rattle.farm_history.specs.declared.keys.Key.{Key}
use Rattle.farm_history.specs.Plans.{same_key}
use Rattle.expiry_lists.specs.inner.Nodes.{NodeTable, owns_at, spot_of}
use Rattle.expiry_lists.proofs.Placing.{placed_value}
use Rattle.expiry_lists.proofs.Seen.{put_owns, same_owned, same_seen}
use Rattle.expiry_lists.proofs.nodes.Nodes.put_live.Goals as goal
use Rattle.expiry_lists.proofs.nodes.Nodes.put_live.Goals.{After-put_spot_at}

put : (c : After-put_spot_at) → c.put_spot_at.new.self.spots ≡ set_value (same_key c.args.place) c.self.inside.tables.spots (record c.args.spot { live = c.args.live })
put c = c.put_spot_at.ensures.spots ∙ placed_value c.self.inside.tables.spots c.args.place c.args.at _ (ap (λ (t : NodeTable). position (same_key c.args.place) (keys_of t.spots)) c.self.view_is ∙ c.requires.at)

same : (c : After-put_spot_at) → (p : Key) (b : ℕ) → owns_at c.put_spot_at.new.self.spots p b ≡ owns_at c.self.inside.tables.spots p b
same c = put_owns c.self.inside.tables.spots c.put_spot_at.new.self.spots c.args.place c.args.spot c.args.live (ap (λ (t : NodeTable). spot_of t.spots c.args.place) c.self.view_is ∙ c.requires.found) (put c)

pub invariant_of-self : goal.invariant_of-self
invariant_of-self c = same_owned c.self.inside.tables c.put_spot_at.new.self c.put_spot_at.ensures.versions (same c) c.self.invariant

pub returns-clause-entries : goal.returns-clause-entries
returns-clause-entries c = same_seen c.self.inside.tables c.put_spot_at.new.self c.put_spot_at.ensures.versions (same c) ∙ ap (λ (t : NodeTable). t.entries) c.self.view_is

pub returns-clause-spots : goal.returns-clause-spots
returns-clause-spots c = put c ∙ ap (λ (t : NodeTable). set_value (same_key c.args.place) t.spots (record c.args.spot { live = c.args.live })) c.self.view_is
