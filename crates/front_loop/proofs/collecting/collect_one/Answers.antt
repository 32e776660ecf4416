use Rattle.std.proofs.Common.{◌≡◌, ◌++◌, ◌∷◌, [], List, true, false, sym, ap, subst, ◌∙◌}
use Rattle.farm_history.specs.Entries.{Collect}
use Rattle.front_loop.specs.declared.sessions.Session.{Session}
use Rattle.front_loop.specs.Rounds.{has}
use Rattle.front_loop.specs.inner.Sessions.{conns}
use Rattle.front_loop.specs.inner.Stands.{World}
use Rattle.front_loop.specs.inner.Stages.{CanOffer, CollectsOne}
use Rattle.front_loop.proofs.Tables.{stands_at, conn_at}
use Rattle.front_loop.proofs.Woken.{world_woken}
use Rattle.front_loop.proofs.Gots.{got_one, got_none, got_worn, through_empty, through_stopped, rest_of_collect}
use Rattle.front_loop.proofs.collecting.collect_one.Goals as goal

pub returns-in_default-place_of-clause-goes : goal.returns-in_default-place_of-clause-goes
returns-in_default-place_of-clause-goes g c = λ o e start h.
    let R = g.F.Front.rules c.args.work.now.front.now (g.M.Farm.map_at c.args.work.now.farm.now) in
    let seats = g.M.Farm.seats c.args.work.now.farm.now in
    let mine = seats.mine c.args.seat.now in
    got_none R g.F.Front.knows e start _ c.in-Reply.reply (seats.mine c.turn.new.seat) (g.met.F.Front.alone c.args.work.now.front.now (g.M.Farm.map_at c.args.work.now.farm.now)) h
    (c.in-Ok.ensures.takes ∙ ap (λ n. mine ++ Collect n c.in-Ok.collected ∷ []) (c.number-front.ensures (g.M.Farm.map_at c.args.work.now.farm.now)) ∙ ap (λ x. mine ++ Collect R.number x ∷ []) c.in-Reply.is)
    (subst (λ (ss : List (Session g.row.F-ConnState.Denot)). has (conns ss) c.in-Reply.reply.conn.number ≡ false) c.as_slice.ensures.value c.in_default-place_of.ensures.none)

pub reply_one-requires-clause-rest : goal.reply_one-requires-clause-rest
reply_one-requires-clause-rest g c =
    rest_of_collect (g.F.Front.rules c.args.work.now.front.now (g.M.Farm.map_at c.args.work.now.farm.now)) g.F.Front.knows _ _ _ c.in-Some.place c.index_mut.result.now c.requires.ready.1.1.1
    (stands_at c.args.table.now.sessions.items c.as_slice.result.now c.in-Some.place c.index_mut.result.now c.as_slice.ensures.value c.in-Some.ensures.some.0 c.index_mut.ensures.value)

pub returns-in_default-reply_one-clause-goes : goal.returns-in_default-reply_one-clause-goes
returns-in_default-reply_one-clause-goes g c = λ o e start h.
    let R = g.F.Front.rules c.args.work.now.front.now (g.M.Farm.map_at c.args.work.now.farm.now) in
    let seats = g.M.Farm.seats c.args.work.now.farm.now in
    let mine = seats.mine c.args.seat.now in
    let at = stands_at c.args.table.now.sessions.items c.as_slice.result.now c.in-Some.place c.index_mut.result.now c.as_slice.ensures.value c.in-Some.ensures.some.0 c.index_mut.ensures.value in
    got_worn R g.F.Front.knows e start _ c.in-Reply.reply (seats.mine c.turn.new.seat) (seats.mine c.reply_one.new.seat) c.in-Some.place c.index_mut.result.now h
    (c.in-Ok.ensures.takes ∙ ap (λ n. mine ++ Collect n c.in-Ok.collected ∷ []) (c.number-front.ensures (g.M.Farm.map_at c.args.work.now.farm.now)) ∙ ap (λ x. mine ++ Collect R.number x ∷ []) c.in-Reply.is)
    at (conn_at c.args.table.now.sessions.items c.as_slice.result.now c.in-Some.place c.index_mut.result.now c.in-Reply.reply.conn.number c.as_slice.ensures.value c.in-Some.ensures.some.1 at)
    c.in_default-reply_one.ensures.replied

pub returns-in-Ok-reply_one-clause-goes : goal.returns-in-Ok-reply_one-clause-goes
returns-in-Ok-reply_one-clause-goes g c = λ o e start h.
    let R = g.F.Front.rules c.args.work.now.front.now (g.M.Farm.map_at c.args.work.now.farm.now) in
    let seats = g.M.Farm.seats c.args.work.now.farm.now in
    let mine = seats.mine c.args.seat.now in
    let at = stands_at c.args.table.now.sessions.items c.as_slice.result.now c.in-Some.place c.index_mut.result.now c.as_slice.ensures.value c.in-Some.ensures.some.0 c.index_mut.ensures.value in
    got_one R g.F.Front.knows e start _ c.in-Reply.reply (seats.mine c.turn.new.seat) (seats.mine c.reply_one.new.seat) c.in-Some.place c.index_mut.result.now c.reply_one.new.session c.reply_one.new.answers.outbox
    (g.met.F.Front.alone c.args.work.now.front.now (g.M.Farm.map_at c.args.work.now.farm.now)) h
    (c.in-Ok.ensures.takes ∙ ap (λ n. mine ++ Collect n c.in-Ok.collected ∷ []) (c.number-front.ensures (g.M.Farm.map_at c.args.work.now.farm.now)) ∙ ap (λ x. mine ++ Collect R.number x ∷ []) c.in-Reply.is)
    at (conn_at c.args.table.now.sessions.items c.as_slice.result.now c.in-Some.place c.index_mut.result.now c.in-Reply.reply.conn.number c.as_slice.ensures.value c.in-Some.ensures.some.1 at)
    c.in-Ok-reply_one.ensures.replied

pub returns-in-Stopped-clause-goes : goal.returns-in-Stopped-clause-goes
returns-in-Stopped-clause-goes g c = λ o e start h.
    let R = g.F.Front.rules c.args.work.now.front.now (g.M.Farm.map_at c.args.work.now.farm.now) in
    let seats = g.M.Farm.seats c.args.work.now.farm.now in
    let mine = seats.mine c.args.seat.now in
    let mine' = seats.mine c.turn.new.seat in
    subst (CollectsOne R g.F.Front.knows e start _) (sym c.in-Stopped.is)
    (subst (λ (w : World g.row.F-ConnState.Denot). CanOffer R g.F.Front.knows e true start w)
    (sym (world_woken o.told mine' c.args.table.now c.wake_all.new.table c.wake_all.ensures.sessions c.wake_all.ensures.outbox c.wake_all.ensures.starved))
    (through_stopped R g.F.Front.knows e start _ mine' h
    (c.in-Ok.ensures.takes ∙ ap (λ n. mine ++ Collect n c.in-Ok.collected ∷ []) (c.number-front.ensures (g.M.Farm.map_at c.args.work.now.farm.now)) ∙ ap (λ x. mine ++ Collect R.number x ∷ []) c.in-Stopped.is)))

pub returns-in-Empty-clause-goes : goal.returns-in-Empty-clause-goes
returns-in-Empty-clause-goes g c = λ o e start h.
    let R = g.F.Front.rules c.args.work.now.front.now (g.M.Farm.map_at c.args.work.now.farm.now) in
    let seats = g.M.Farm.seats c.args.work.now.farm.now in
    let mine = seats.mine c.args.seat.now in
    subst (CollectsOne R g.F.Front.knows e start _) (sym c.in-Empty.is)
    (through_empty R g.F.Front.knows e start _ (seats.mine c.turn.new.seat) h
    (c.in-Ok.ensures.takes ∙ ap (λ n. mine ++ Collect n c.in-Ok.collected ∷ []) (c.number-front.ensures (g.M.Farm.map_at c.args.work.now.farm.now)) ∙ ap (λ x. mine ++ Collect R.number x ∷ []) c.in-Empty.is))
