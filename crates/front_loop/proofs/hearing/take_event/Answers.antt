use Rattle.std.proofs.Common.{sym, subst, ◌∙◌}
use Rattle.reactor_ports.specs.declared.events.PortEvent.{PortEvent}
use Rattle.reactor_ports.specs.declared.events.PortEvent.TheVariants as event
use Rattle.front_loop.specs.inner.Stages.{MarksAt}
use Rattle.front_loop.proofs.Opens.{opened_begins, opened_by}
use Rattle.front_loop.proofs.Worlds.{came_as, starts_as, result_as, writable_begins, ended_begins, lost_begins, woken_table, finished_table}
use Rattle.front_loop.proofs.hearing.take_event.Goals as goal

pub open-requires-clause-keys : goal.open-requires-clause-keys
open-requires-clause-keys g c = let st = c.requires.ready.2.can.stands in st.keys_are ∙ sym st.conns_are

pub open-requires-clause-open : goal.open-requires-clause-open
open-requires-clause-open g c =
    opened_by c.args.came.now.event c.in-Opened.conn c.args.came.now.piece.now c.requires.ready.1 (g.P.Ports.state c.args.ports.now).told c.in-Opened.is c.requires.ready.2.heard

pub returns-in-Opened-clause-goes : goal.returns-in-Opened-clause-goes
returns-in-Opened-clause-goes g c = λ start was m.
    starts_as (g.F.Front.rules c.args.work.now.front.now (g.M.Farm.map_at c.args.work.now.farm.now)) g.F.Front.knows c.args.came.now.event (event.Opened c.in-Opened.conn) c.args.came.now.piece.now start _ _ _ c.in-Opened.is
    (λ k. opened_begins (g.F.Front.rules c.args.work.now.front.now (g.M.Farm.map_at c.args.work.now.farm.now)) g.F.Front.knows c.in-Opened.conn c.args.came.now.piece.now start _ _ was _ c.args.table.now c.open.new.table k c.open.ensures.opens) m

pub hear-requires-clause-ready : goal.hear-requires-clause-ready
hear-requires-clause-ready g c =
    let r = c.requires.ready in (
      g.P.Ports.state c.args.ports.now,
      (r.0, r.1, came_as (g.F.Front.rules c.args.work.now.front.now (g.M.Farm.map_at c.args.work.now.farm.now)) g.F.Front.knows c.args.came.now.event (event.Bytes c.in-Bytes.conn) c.args.came.now.piece.now r.0 _ _ c.in-Bytes.is r.2),
    )

pub returns-in-Bytes-clause-goes : goal.returns-in-Bytes-clause-goes
returns-in-Bytes-clause-goes g c = λ start was m.
    result_as (g.F.Front.rules c.args.work.now.front.now (g.M.Farm.map_at c.args.work.now.farm.now)) g.F.Front.knows c.args.came.now.event (event.Bytes c.in-Bytes.conn) start _ _ c.hear.result c.in-Bytes.is
    (c.hear.ensures.goes (g.P.Ports.state c.args.ports.now) start was
    (came_as (g.F.Front.rules c.args.work.now.front.now (g.M.Farm.map_at c.args.work.now.farm.now)) g.F.Front.knows c.args.came.now.event (event.Bytes c.in-Bytes.conn) c.args.came.now.piece.now start _ _ c.in-Bytes.is m))

pub returns-in-Writable-clause-goes : goal.returns-in-Writable-clause-goes
returns-in-Writable-clause-goes g c = λ start was m.
    starts_as (g.F.Front.rules c.args.work.now.front.now (g.M.Farm.map_at c.args.work.now.farm.now)) g.F.Front.knows c.args.came.now.event (event.Writable c.in-Writable.conn) c.args.came.now.piece.now start _ _ _ c.in-Writable.is
    (λ k. writable_begins (g.F.Front.rules c.args.work.now.front.now (g.M.Farm.map_at c.args.work.now.farm.now)) g.F.Front.knows c.in-Writable.conn c.args.came.now.piece.now start _ was _ c.args.table.now c.mark_at.new.table k
    (subst (λ (e : PortEvent). MarksAt e c.in-Writable.conn c.args.table.now c.mark_at.new.table) c.in-Writable.is c.mark_at.ensures)) m

pub returns-in-Ended-clause-goes : goal.returns-in-Ended-clause-goes
returns-in-Ended-clause-goes g c = λ start was m.
    starts_as (g.F.Front.rules c.args.work.now.front.now (g.M.Farm.map_at c.args.work.now.farm.now)) g.F.Front.knows c.args.came.now.event (event.Ended c.in-Ended.conn) c.args.came.now.piece.now start _ _ _ c.in-Ended.is
    (λ k. ended_begins (g.F.Front.rules c.args.work.now.front.now (g.M.Farm.map_at c.args.work.now.farm.now)) g.F.Front.knows c.in-Ended.conn c.args.came.now.piece.now start _ was _ c.args.table.now c.mark_at-in-Ended.new.table k
    (subst (λ (e : PortEvent). MarksAt e c.in-Ended.conn c.args.table.now c.mark_at-in-Ended.new.table) c.in-Ended.is c.mark_at-in-Ended.ensures)) m

pub returns-in-Lost-clause-goes : goal.returns-in-Lost-clause-goes
returns-in-Lost-clause-goes g c = λ start was m.
    starts_as (g.F.Front.rules c.args.work.now.front.now (g.M.Farm.map_at c.args.work.now.farm.now)) g.F.Front.knows c.args.came.now.event (event.Lost c.in-Lost.conn) c.args.came.now.piece.now start _ _ _ c.in-Lost.is
    (λ k. lost_begins (g.F.Front.rules c.args.work.now.front.now (g.M.Farm.map_at c.args.work.now.farm.now)) g.F.Front.knows c.in-Lost.conn c.args.came.now.piece.now start _ was _ c.args.table.now c.mark_at-in-Lost.new.table k
    (subst (λ (e : PortEvent). MarksAt e c.in-Lost.conn c.args.table.now c.mark_at-in-Lost.new.table) c.in-Lost.is c.mark_at-in-Lost.ensures)) m

pub returns-in-Woken-clause-goes : goal.returns-in-Woken-clause-goes
returns-in-Woken-clause-goes g c = λ start was m.
    starts_as (g.F.Front.rules c.args.work.now.front.now (g.M.Farm.map_at c.args.work.now.farm.now)) g.F.Front.knows c.args.came.now.event event.Woken c.args.came.now.piece.now start _ _ _ c.in-Woken.is
    (λ k. woken_table (g.F.Front.rules c.args.work.now.front.now (g.M.Farm.map_at c.args.work.now.farm.now)) g.F.Front.knows c.args.came.now.piece.now start _ was _ c.args.table.now c.wake_all.new.table c.wake_all.ensures.sessions c.wake_all.ensures.outbox c.wake_all.ensures.starved k) m

pub returns-in-Finished-clause-goes : goal.returns-in-Finished-clause-goes
returns-in-Finished-clause-goes g c = λ start was m.
    starts_as (g.F.Front.rules c.args.work.now.front.now (g.M.Farm.map_at c.args.work.now.farm.now)) g.F.Front.knows c.args.came.now.event event.Finished c.args.came.now.piece.now start _ _ _ c.in-Finished.is
    (λ k. finished_table (g.F.Front.rules c.args.work.now.front.now (g.M.Farm.map_at c.args.work.now.farm.now)) g.F.Front.knows c.args.came.now.piece.now start _ was _ c.args.table.now c.wake_all-in-Finished.new.table c.wake_all-in-Finished.ensures.sessions c.wake_all-in-Finished.ensures.outbox c.wake_all-in-Finished.ensures.starved k) m
