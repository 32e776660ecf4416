use Rattle.std.proofs.Common.{rules, sym, subst}
use Rattle.turn_cell.specs.inner.Plays.{KnowsJoined, KnowsStrangers}
use Rattle.turn_cell.proofs.Keeps.{counts}
use Rattle.turn_cell.proofs.inner.Core.count.Goals as goal

pub fetch_add-requires : goal.fetch_add-requires
fetch_add-requires g c = (
  c.requires.place.0,
  search rules,
  counts g.T.StandsFor.stands g.T.StandsFor.lasting c.args.self.now.table.shared.key _ c.args.place.now.id c.args.place.now.me _ _ c.requires.said c.requires.place.1 c.requires.holds.0 c.requires.holds.1,
)

pub returns-clause-joined : goal.returns-clause-joined
returns-clause-joined g c = let told = c.fetch_add.ensures.2 _ c.requires.said in subst (λ m. KnowsJoined m.0 m.0.seen) (sym told.0) told.1

pub returns-clause-strangers : goal.returns-clause-strangers
returns-clause-strangers g c = let told = c.fetch_add.ensures.2 _ c.requires.said in subst (λ m. KnowsStrangers m.0 m.0.seen) (sym told.0) told.2
