use Rattle.std.proofs.Common.{[], sym, ◌∙◌}
use Rattle.std.proofs.lemmas.List.Quantifiers.{position-Some}
use Rattle.reactor_ports.proofs.Boxes.{here, is_of, placed}
use Rattle.reactor_ports.proofs.outbox.there.Goals as goal

pub unreachable-requires : goal.unreachable-requires
unreachable-requires c = placed c.args.items.now c.args.conn c.requires.0 c.requires.1 (sym c.place_of.ensures ∙ c.in_default.is)

pub returns : goal.returns
returns c =
    let at = position-Some (is_of c.args.conn) c.args.items.now c.in-Some.place (0, []) (sym c.place_of.ensures ∙ c.in-Some.is) in
    here c.args.items.now c.args.conn c.in-Some.place (0, []) at.0 at.1 at.2
