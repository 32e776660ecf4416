use Rattle.std.proofs.Common.{rules}
use Rattle.expiry_lists.proofs.Paths.{wakes_there, wakes_new}
use Rattle.expiry_lists.proofs.waking.wake_one.Goals as goal

pub returns-in-Some-clause-wakes : goal.returns-in-Some-clause-wakes
returns-in-Some-clause-wakes c =
    wakes_there c.args.nodes.now c.args.place c.args.mask c.requires.tree c.requires.meta c.requires.group c.requires.rooted c.requires.live_above c.put_live.new.self c.in-Some.spot (search rules) c.put_live.ensures.spots c.put_live.ensures.entries c.put_live.ensures.room

pub returns-in-None-clause-wakes : goal.returns-in-None-clause-wakes
returns-in-None-clause-wakes c =
    wakes_new c.args.nodes.now c.args.place c.args.mask c.requires.tree c.requires.meta c.requires.group c.requires.rooted c.requires.live_above c.add_spot.new.self (search rules) c.add_spot.ensures.spots c.add_spot.ensures.entries c.add_spot.ensures.room
