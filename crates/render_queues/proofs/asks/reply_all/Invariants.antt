use Rattle.std.proofs.Common.{◌≡◌, ◌++◌, map, filter, take}
use Rattle.std.specs.Vec.{vec_capacity}
use Rattle.render_queues.specs.Tables.{reply_with, waits_on}
use Rattle.render_queues.proofs.asks.reply_all.Given as goal

abbrev pub invariant-loop-ask : goal.invariant-loop-ask
invariant-loop-ask l = record {
  replies : l.ended.items ≡ l.fn.ended.items ++ map (reply_with l.fn.outcome) (filter (waits_on l.fn.key) (take l.ask-index l.fn.asks));
  room : vec_capacity l.ended ≡ vec_capacity l.fn.ended;
}
