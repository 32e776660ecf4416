use Rattle.std.proofs.Common.{◌+◌, drop, sym, subst}
use Rattle.reactor_ports.specs.Playing.{Passed}
use Rattle.reactor_ports.proofs.Overs.{passes_on}
use Rattle.reactor_ports.proofs.playing.first_left.Goals as goal

pub loop-place-preserved : goal.loop-place-preserved
loop-place-preserved c =
    subst (λ b. Passed c.args.peers.now (drop c.args.from c.args.steps.now) (drop (c.loop-place.place + 1) c.args.steps.now) b) (sym c.either-reached.ensures)
    (passes_on c.args.peers.now c.args.steps.now c.args.from c.loop-place.place c.index-steps-place.result c.loop-place.reached c.in-Some.reaches
    c.loop-place-test.true c.index-steps-place.is c.loop-place.invariant c.in-Some.ensures)
