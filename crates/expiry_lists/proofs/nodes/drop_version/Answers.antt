use Rattle.std.proofs.Common.{◌≡◌, None, ◌∙◌, rules}
use Rattle.std.specs.Map.{set_value}
use Rattle.farm_history.specs.Plans.{same_key}
use Rattle.expiry_lists.proofs.Placing.{placed_value}
use Rattle.expiry_lists.proofs.Seen.{versions_dropped, versions_kept}
use Rattle.expiry_lists.proofs.nodes.drop_version.Goals as goal
use Rattle.expiry_lists.proofs.nodes.drop_version.Goals.{After-put_at}

put : (c : After-put_at) → c.put_at.new.self.versions ≡ set_value (same_key c.args.key) c.args.tables.now.versions None
put c = c.put_at.ensures.versions ∙ placed_value c.args.tables.now.versions c.args.key _ _ (search rules)

pub returns-in-Some-clause-versions : goal.returns-in-Some-clause-versions
returns-in-Some-clause-versions c = versions_dropped c.args.tables.now.versions c.put_at.new.self.versions c.args.key (search rules) (put c)

pub returns-in_default-clause-versions : goal.returns-in_default-clause-versions
returns-in_default-clause-versions c = versions_kept c.args.tables.now.versions c.args.key (search rules)
