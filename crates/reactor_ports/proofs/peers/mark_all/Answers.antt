use Rattle.reactor_ports.specs.Playing.{marked}
use Rattle.reactor_ports.proofs.Changes.{maps_more}
use Rattle.reactor_ports.proofs.peers.mark_all.Goals as goal

pub loop-place-preserved : goal.loop-place-preserved
loop-place-preserved c =
    maps_more marked c.args.peers.now c.loop-place.peers c.loop-place.place _ c.mark.new.self c.loop-place.invariant c.loop-place-test.true c.mark.ensures
