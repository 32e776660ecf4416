use Rattle.std.proofs.lemmas.Result.{on_ok_weaker}
use Rattle.reactor_ports.specs.Held.{with_taken}
use Rattle.reactor_ports.proofs.Changes.{set_is_change}
use Rattle.reactor_ports.proofs.peers.gain.Goals as goal

pub returns-clause-done : goal.returns-clause-done
returns-clause-done c = on_ok_weaker c.gain.result
    (set_is_change (with_taken c.args.bytes.now c.args.count) c.args.peers.now c.args.conn _ c.gain.new.self c.requires.conn)
    c.gain.ensures.done
