use Rattle.std.proofs.Common.{◌≡◌, true, Some, is_some, ap, ◌∙◌, rules}
use Rattle.std.specs.Map.{set_value}
use Rattle.farm_history.specs.Plans.{same_key}
use Rattle.expiry_lists.specs.inner.Nodes.{version_of}
use Rattle.expiry_lists.proofs.Placing.{placed_value}
use Rattle.expiry_lists.proofs.Writing.{set-writes, add-writes}
use Rattle.expiry_lists.proofs.nodes.set_version.Goals as goal
use Rattle.expiry_lists.proofs.nodes.set_version.Goals.{After-put_at}

there : (c : After-put_at) → is_some (version_of c.args.tables.now.versions c.args.key) ≡ true
there c = search rules

put : (c : After-put_at) → c.put_at.new.self.versions ≡ set_value (same_key c.args.key) c.args.tables.now.versions (Some c.args.version)
put c = c.put_at.ensures.versions ∙ placed_value c.args.tables.now.versions c.args.key _ _ (search rules)

pub returns-in-Some-clause-versions : goal.returns-in-Some-clause-versions
returns-in-Some-clause-versions c = λ k. ap (λ vs. version_of vs k) (put c) ∙ set-writes c.args.tables.now.versions c.args.key (Some c.args.version) (there c) k

pub returns-in-None-clause-versions : goal.returns-in-None-clause-versions
returns-in-None-clause-versions c = λ k. ap (λ vs. version_of vs k) c.add.ensures.versions ∙ add-writes c.args.tables.now.versions c.args.key (Some c.args.version) (search rules) k
