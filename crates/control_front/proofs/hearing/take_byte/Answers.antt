use Rattle.std.proofs.Common.{◌∷◌, [], sym, ap, subst, ◌∙◌}
use Rattle.front_loop.specs.Front.{disposition_of}
use Rattle.control_front.specs.Lines.{line_in}
use Rattle.control_front.specs.inner.Doing.{Did, Heeds}
use Rattle.control_front.proofs.Deeds.{heeds_line, heeds_kept, heeds_end}
use Rattle.control_front.proofs.hearing.take_byte.Goals as goal

pub returns-then-byte-eq10-clause-heeds : goal.returns-then-byte-eq10-clause-heeds
returns-then-byte-eq10-clause-heeds g c = λ front conn.
    let mine = (g.M.Farm.seats c.args.context.now.farm.now).mine c.args.seat.now in
    let mine' = (g.M.Farm.seats c.args.context.now.farm.now).mine c.do_line.new.seat in
    subst (λ p. Heeds front c.args.context.now.front.now.lists.now conn c.args.part.now.items (c.args.byte ∷ []) mine mine' p c.args.response.now.items c.do_line.new.response.items (disposition_of c.do_line.result)) (sym c.clear.ensures.items)
    (heeds_line front c.args.context.now.front.now.lists.now conn c.args.part.now.items c.args.byte mine mine' c.args.response.now.items c.do_line.new.response.items (disposition_of c.do_line.result) c.if-byte-eq10.true
    (subst (λ l. Did front c.args.context.now.front.now.lists.now conn (l ∷ []) mine mine' c.args.response.now.items c.do_line.new.response.items (disposition_of c.do_line.result))
    (c.line_in-line.ensures ∙ ap line_in c.as_slice.ensures.value) (c.do_line.ensures.did front conn)))

pub returns-then-is_short-clause-heeds : goal.returns-then-is_short-clause-heeds
returns-then-is_short-clause-heeds g c = λ front conn.
    heeds_kept front c.args.context.now.front.now.lists.now conn c.args.part.now.items c.keep.new.part.items c.args.byte ((g.M.Farm.seats c.args.context.now.farm.now).mine c.args.seat.now) c.args.response.now.items c.keep.result
    c.if-byte-eq10.false (sym c.is_short.ensures ∙ c.if-is_short.true) c.keep.ensures

pub returns-clause-heeds : goal.returns-clause-heeds
returns-clause-heeds g c = λ front conn.
    let mine = (g.M.Farm.seats c.args.context.now.farm.now).mine c.args.seat.now in
    heeds_end front c.args.context.now.front.now.lists.now conn c.args.part.now.items c.args.byte mine c.args.response.now.items c.too_long.new.response.items c.too_long.result
    c.if-byte-eq10.false (sym c.is_short.ensures ∙ c.if-is_short.false) (c.too_long.ensures.did front c.args.context.now.front.now.lists.now conn mine) c.too_long.ensures.long
