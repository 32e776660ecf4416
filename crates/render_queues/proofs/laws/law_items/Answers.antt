use Rattle.render_queues.proofs.Items.{items}
use Rattle.render_queues.proofs.laws.law_items.Goals as goal

pub returns : goal.returns
returns c = items
