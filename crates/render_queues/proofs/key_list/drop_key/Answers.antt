use Rattle.std.proofs.Common.{rules, not}
use Rattle.std.proofs.lemmas.Fn.{filter_same}
use Rattle.farm_history.specs.Plans.{same_key}
use Rattle.render_queues.proofs.key_list.drop_key.Goals as goal

pub returns-clause-keys : goal.returns-clause-keys
returns-clause-keys c = filter_same _ (λ k. not (same_key k c.args.key)) _ (λ x b f' k. search rules) _ _ c.retain.ensures.filtered
