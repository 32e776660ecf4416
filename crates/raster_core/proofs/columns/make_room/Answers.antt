use Rattle.std.proofs.Common.{refl}
use Rattle.raster_core.proofs.Corners.{same_then, same_thinned}
use Rattle.raster_core.proofs.columns.make_room.Goals as goal

pub thin-requires-clause-inside : goal.thin-requires-clause-inside
thin-requires-clause-inside c = c.in_ok-list_columns.ensures.inside c.requires.inside

pub returns : goal.returns
returns c = same_then _ _ _ _ c.in_ok-list_columns.ensures (same_thinned _ _ _ refl c.in_ok-thin.ensures.inside c.in_ok-thin.ensures.parity)
