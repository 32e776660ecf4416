use Rattle.render_queues.proofs.Chains.{chains}
use Rattle.render_queues.proofs.laws.law_chains.Goals as goal

pub returns : goal.returns
returns c = chains
