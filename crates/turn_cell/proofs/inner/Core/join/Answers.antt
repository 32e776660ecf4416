use Rattle.std.proofs.Common.{rules, ap}
use Rattle.std.proofs.lemmas.List.{nil_from_length}
use Rattle.turn_cell.proofs.Keeps.{learns}
use Rattle.turn_cell.proofs.Seating.{joins_kept}
use Rattle.turn_cell.proofs.Turning.{seen_both}
use Rattle.turn_cell.proofs.inner.Core.join.Goals as goal

pub join_seat-requires : goal.join_seat-requires
join_seat-requires g c = let idle = c.requires.settled.0 in let idle' = c.requires.settled.2 in (
  c.requires.into.0,
  c.requires.ended.0,
  nil_from_length _ idle'.0,
  search rules,
  joins_kept g.T.StandsFor.stands g.T.StandsFor.lasting c.args.self.now.table.shared.key c.args.into.now.id c.args.into.now.me.0 c.args.ended.id c.args.ended.me.0
      c.requires.into.1 c.requires.ended.1 c.requires.first idle.2 (nil_from_length _ idle'.1) idle'.2 idle'.3,
)

pub load-requires : goal.load-requires
load-requires g c = (
  search rules,
  search rules,
  learns g.T.StandsFor.stands g.T.StandsFor.lasting c.args.self.now.table.shared.key _ c.join_seat.new.seat.id c.join_seat.new.seat.me (search rules),
)

pub returns-clause-seen : goal.returns-clause-seen
returns-clause-seen g c =
    seen_both g.T.StandsFor.stands g.T.StandsFor.lasting c.args.self.now.table.shared.key c.args.into.now.me.0 c.args.ended.me.0 c.join_seat.new.seat.me c.load.new.seat.me
    (ap (λ m. m.0) c.join_seat.ensures.2) c.load.ensures.2.1 c.load.ensures.2.0
