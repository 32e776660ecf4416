use Rattle.std.proofs.Common.{◌≡◌, ap, ◌∙◌, length, set, get_or, arith}
use Rattle.front_loop.specs.inner.Sessions.{woken}
use Rattle.front_loop.proofs.Woken.{woken_front, woken_next, woken_whole}
use Rattle.front_loop.proofs.hearing.wake_each.Goals as goal

pub loop-session-preserved : goal.loop-session-preserved
loop-session-preserved g c =
    ap (λ xs. set xs c.loop-session.session-index (woken (get_or xs c.loop-session.session-index c.session-item.result))) c.loop-session.invariant
    ∙ woken_next c.args.sessions.now c.loop-session.session-index c.session-item.result c.loop-session-test.true

pub returns : goal.returns
returns g c =
    let e : c.loop-session.session-index ≡ length c.args.sessions.now = omega arith in
    c.loop-session.invariant ∙ ap (λ n. woken_front n c.args.sessions.now) e ∙ woken_whole c.args.sessions.now
