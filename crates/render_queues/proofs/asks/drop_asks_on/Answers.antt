use Rattle.std.proofs.Common.{rules, not}
use Rattle.std.proofs.lemmas.Fn.{filter_same}
use Rattle.render_queues.specs.Tables.{waits_on}
use Rattle.render_queues.proofs.asks.drop_asks_on.Goals as goal

pub returns-clause-asks : goal.returns-clause-asks
returns-clause-asks c = filter_same _ (λ a. not (waits_on c.args.key a)) _ (λ x b f' k. search rules) _ _ c.retain.ensures.filtered
