use Rattle.std.proofs.Common.{length, map, filter, take, ap, arith}
use Rattle.std.proofs.lemmas.List.{length-append, length-map, length-take}
use Rattle.render_queues.specs.Tables.{waits_on, reply_with}
use Rattle.render_queues.proofs.Ends.{filter_fewer}
use Rattle.render_queues.proofs.asks.reply_all.Goals as goal

pub push_reserved-requires : goal.push_reserved-requires
push_reserved-requires c =
    let asks = take c.loop-ask.ask-index c.args.asks.now in
    let long = ap length c.loop-ask.invariant.replies in
    let both = length-append c.args.ended.now.items (map (reply_with c.args.outcome) (filter (waits_on c.args.key) asks)) in
    let each = length-map (filter (waits_on c.args.key) asks) (reply_with c.args.outcome) in
    let few = filter_fewer (waits_on c.args.key) asks in
    let some = length-take c.loop-ask.ask-index c.args.asks.now in
    omega (arith, long, both, each, few, some, c.loop-ask.ended.ok, c.args.ended.now.ok, c.loop-ask.invariant.room, c.requires.room, c.loop-ask-test.true)
