use Rattle.std.proofs.Common.{refl, subst, ◌∙◌, inl, inr}
use Rattle.front_loop.specs.inner.Stages.{Admits}
use Rattle.front_loop.proofs.Opens.{refused_as}
use Rattle.front_loop.proofs.hearing.open.Goals as goal

pub returns-in-true : goal.returns-in-true
returns-in-true g c = record {
  opens = inl (subst (Admits (g.F.Front.rules c.args.work.now.front.now (g.M.Farm.map_at c.args.work.now.farm.now)) g.F.Front.knows c.args.conn c.args.table.now c.admit.new.table) c.in-true.is c.admit.ensures, refl);
  count = refl;
}

pub returns-in-false : goal.returns-in-false
returns-in-false g c =
    let same = subst (Admits (g.F.Front.rules c.args.work.now.front.now (g.M.Farm.map_at c.args.work.now.farm.now)) g.F.Front.knows c.args.conn c.args.table.now c.admit.new.table) c.in-false.is c.admit.ensures in
    record {
      opens = inr (c.refuse.ensures.told, c.refuse.ensures.sessions ∙ same.0, c.refuse.ensures.outbox ∙ same.1, c.refuse.ensures.starved ∙ refused_as c.args.table.now c.admit.new.table same.0 same.2);
      count = c.refuse.ensures.count;
    }
