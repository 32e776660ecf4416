use Rattle.std.proofs.Common.{subst}
use Rattle.front_loop.specs.Front.{disposition_of}
use Rattle.control_front.specs.inner.Doing.{Heeds}
use Rattle.control_front.proofs.Deeds.{heard_by}
use Rattle.control_front.proofs.control.ControlFront.hear.Goals as goal

pub returns-clause-heard : goal.returns-clause-heard
returns-clause-heard g c = λ given ms k w v l.
    heard_by c.args.context.now.front.now.front c.args.context.now.front.now.lists.now c.args.piece.now.conn c.args.piece.now.bytes.now _ _ c.args.conn_state.now _ _ (disposition_of c.hear_piece.result) given ms
    (subst (λ s. Heeds c.args.context.now.front.now.front c.args.context.now.front.now.lists.now c.args.piece.now.conn c.args.conn_state.now.part.items c.args.piece.now.bytes.now ((g.M.Farm.seats c.args.context.now.farm.now).mine c.args.seat.now)
    ((g.M.Farm.seats c.args.context.now.farm.now).mine c.hear_piece.new.seat) c.hear_piece.new.part.items s c.hear_piece.new.response.items (disposition_of c.hear_piece.result)) c.requires.empty
    (c.hear_piece.ensures.heeds c.args.context.now.front.now.front c.args.piece.now.conn))
    k w v l
