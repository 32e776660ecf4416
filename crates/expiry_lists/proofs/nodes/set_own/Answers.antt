use Rattle.std.proofs.Common.{◌∙◌, rules}
use Rattle.expiry_lists.specs.inner.Nodes.{place_of}
use Rattle.expiry_lists.proofs.Placing.{placed_value}
use Rattle.expiry_lists.proofs.Seen.{owns_set, owns_none}
use Rattle.expiry_lists.proofs.nodes.set_own.Goals as goal

pub returns-in_default-clause-owns : goal.returns-in_default-clause-owns
returns-in_default-clause-owns c = owns_none c.args.tables.now.spots c.args.key c.args.clean (search rules) c.requires

pub returns-clause-owns : goal.returns-clause-owns
returns-clause-owns c =
    owns_set c.args.tables.now.spots c.put_spot_at.new.self.spots c.args.key c.args.clean c.in-Some.spot c.with_bit-own.result (search rules) (search rules)
    (c.put_spot_at.ensures.spots ∙ placed_value c.args.tables.now.spots (place_of c.args.key) _ _ (search rules))
