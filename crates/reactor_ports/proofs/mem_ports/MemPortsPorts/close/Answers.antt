use Rattle.std.proofs.Common.{Some, ap, ◌∙◌}
use Rattle.reactor_ports.specs.Held.{told_of}
use Rattle.reactor_ports.proofs.Telling.{told_closed}
use Rattle.reactor_ports.proofs.mem_ports.MemPortsPorts.close.Goals as goal

pub returns-clause-told : goal.returns-clause-told
returns-clause-told c =
    ap (λ h. Some (told_of h)) c.shut.ensures ∙ ap Some (told_closed c.args.self.now.log c.args.self.now.peers c.args.conn)
