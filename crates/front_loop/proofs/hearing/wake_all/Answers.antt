use Rattle.std.proofs.Common.{map, ap, ◌∙◌}
use Rattle.front_loop.specs.inner.Sessions.{woken}
use Rattle.front_loop.proofs.Woken.{woken_items}
use Rattle.front_loop.proofs.hearing.wake_all.Goals as goal

pub returns-clause-sessions : goal.returns-clause-sessions
returns-clause-sessions g c = woken_items c.args.table.now.sessions c.wake_each.new.sessions (c.wake_each.ensures ∙ ap (map woken) c.as_mut_slice.ensures.value)
