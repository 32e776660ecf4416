use Rattle.std.proofs.Common.{◌≡◌}
use Rattle.front_loop.proofs.Woken.{woken_front}
use Rattle.front_loop.proofs.hearing.wake_each.Given as goal

abbrev pub invariant-loop-session : goal.invariant-loop-session
invariant-loop-session g l = l.sessions ≡ woken_front l.session-index l.fn.sessions
