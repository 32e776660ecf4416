use Rattle.std.proofs.Common.{◌<◌, ◌∙◌, length, ap, sym, subst, List, ℕ}
use Rattle.reactor_ports.specs.Boxes.{rest_in, rest_of}
use Rattle.front_loop.specs.declared.offering.Gave.{Gave}
use Rattle.front_loop.specs.inner.Stages.{Gives, part_or_all}
use Rattle.front_loop.proofs.Tries.{offered_rest, positive, all_given, part_given}
use Rattle.front_loop.proofs.offering.give.Goals as goal

pub rest-requires-in-Ok : goal.rest-requires-in-Ok
rest-requires-in-Ok g c =
    let z : 0 < length (rest_in c.args.outbox.now c.args.conn) =
    subst (λ (xs : List ℕ). 0 < length xs) (sym (ap rest_of c.rest.ensures)) (positive (length c.rest.result.now) (sym c.if-is_empty.false ∙ c.is_empty.ensures)) in
    (offered_rest c.args.conn c.args.outbox.now c.offer.new.self _ _ c.requires.rest z c.in-Ok.ensures.offered).0

pub returns-then-is_empty-2-clause-gives : goal.returns-then-is_empty-2-clause-gives
returns-then-is_empty-2-clause-gives g c =
    let z : 0 < length (rest_in c.args.outbox.now c.args.conn) =
    subst (λ (xs : List ℕ). 0 < length xs) (sym (ap rest_of c.rest.ensures)) (positive (length c.rest.result.now) (sym c.if-is_empty.false ∙ c.is_empty.ensures)) in
    subst (λ (x : Gave). Gives c.args.conn (rest_in c.args.outbox.now c.args.conn) c.args.outbox.now c.offer.new.self (g.P.Ports.state c.args.ports.now).told (g.P.Ports.state c.offer.new.ports).told x)
    (ap part_or_all (ap rest_of c.rest-in-Ok.ensures) ∙ all_given c.rest-in-Ok.result.now (sym c.if-is_empty-2.true ∙ c.is_empty-in-Ok.ensures))
    (offered_rest c.args.conn c.args.outbox.now c.offer.new.self _ _ c.requires.rest z c.in-Ok.ensures.offered).1

pub returns-else-is_empty-2-clause-gives : goal.returns-else-is_empty-2-clause-gives
returns-else-is_empty-2-clause-gives g c =
    let z : 0 < length (rest_in c.args.outbox.now c.args.conn) =
    subst (λ (xs : List ℕ). 0 < length xs) (sym (ap rest_of c.rest.ensures)) (positive (length c.rest.result.now) (sym c.if-is_empty.false ∙ c.is_empty.ensures)) in
    subst (λ (x : Gave). Gives c.args.conn (rest_in c.args.outbox.now c.args.conn) c.args.outbox.now c.offer.new.self (g.P.Ports.state c.args.ports.now).told (g.P.Ports.state c.offer.new.ports).told x)
    (ap part_or_all (ap rest_of c.rest-in-Ok.ensures) ∙ part_given c.rest-in-Ok.result.now (sym c.if-is_empty-2.false ∙ c.is_empty-in-Ok.ensures))
    (offered_rest c.args.conn c.args.outbox.now c.offer.new.self _ _ c.requires.rest z c.in-Ok.ensures.offered).1
