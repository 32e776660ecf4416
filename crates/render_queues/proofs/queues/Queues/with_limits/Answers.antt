use Rattle.std.proofs.Common.{rules}
use Rattle.render_queues.proofs.Sound.{sound_none}
use Rattle.render_queues.proofs.queues.Queues.with_limits.Goals as goal

pub invariant_of-result : goal.invariant_of-result
invariant_of-result c = record {
  taken_room = search rules;
  asks_room = search rules;
  ended_room = search rules;
  sound = rw (c.in_ok-lines.ensures, c.in_ok-taken.ensures.items, c.in_ok-asks.ensures.items, c.in_ok-ended.ensures.items) (sound_none c.args.limits c.args.workers);
}
