use Rattle.std.proofs.Common.{rules, not, ◌==◌}
use Rattle.std.proofs.lemmas.Fn.{filter_same}
use Rattle.render_jobs.proofs.taken.drop_taken.Goals as goal

pub returns-clause-items : goal.returns-clause-items
returns-clause-items c = filter_same _ (λ t. not (t.ticket == c.args.ticket)) _ (λ x b f' k. search rules) _ _ c.retain.ensures.filtered
