use Rattle.render_queues.proofs.History.{next_joined}
use Rattle.render_queues.proofs.laws.law_next.Goals as goal

pub returns : goal.returns
returns c = next_joined
