use Rattle.std.proofs.Common.{◌≡◌, ap, sym, ◌∙◌}
use Rattle.std.specs.List.{position}
use Rattle.std.specs.Option.{is_some}
use Rattle.reactor_ports.specs.Boxes.{rest_at}
use Rattle.reactor_ports.proofs.Boxes.{found, has_of, none_of, is_of}
use Rattle.reactor_ports.proofs.outbox.Outbox.has.Goals as goal

is : (c : goal.After-is_some) → c.is_some.result ≡ is_some (rest_at c.args.self.now c.args.conn)
is c = c.is_some.ensures ∙ ap is_some c.place_of.ensures
    ∙ ap (λ box. is_some (position (is_of c.args.conn) box)) c.as_slice.ensures.value
    ∙ found c.self.inside.items.items c.args.conn
    ∙ ap (λ box. is_some (rest_at box c.args.conn)) c.self.view_is

pub returns-clause-exact : goal.returns-clause-exact
returns-clause-exact c = is c

pub returns-clause-there : goal.returns-clause-there
returns-clause-there c = λ h. has_of (rest_at c.args.self.now c.args.conn) (sym (is c) ∙ h)

pub returns-clause-absent : goal.returns-clause-absent
returns-clause-absent c = λ h. none_of (rest_at c.args.self.now c.args.conn) (sym (is c) ∙ h)
