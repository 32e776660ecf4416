use Rattle.render_queues.proofs.Entries.{still_in}
use Rattle.render_queues.proofs.waiting.make_place.Goals as goal

pub returns-then-contains_key-clause-same : goal.returns-then-contains_key-clause-same
returns-then-contains_key-clause-same c = λ queue. rw (c.swap.ensures.x_after, c.sift.ensures.moved) (still_in queue c.args.live.now.entries)
