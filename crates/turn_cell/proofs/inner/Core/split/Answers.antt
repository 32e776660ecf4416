use Rattle.std.proofs.Common.{rules}
use Rattle.std.proofs.lemmas.List.{nil_from_length}
use Rattle.turn_cell.proofs.Seating.{splits_kept}
use Rattle.turn_cell.proofs.inner.Core.split.Goals as goal

pub split_seat-requires : goal.split_seat-requires
split_seat-requires g c = (
  c.requires.place.0,
  search rules,
  splits_kept g.T.StandsFor.stands g.T.StandsFor.lasting c.args.self.now.table.shared.key c.args.first.now.id c.args.first.now.me.0 c.requires.place.1 c.requires.first (nil_from_length _ c.requires.settled.0.1) c.requires.settled.0.2,
)
