use Rattle.raster_core.proofs.Toggling.{row_toggled, row_same}
use Rattle.raster_core.proofs.edges.cross_row.Goals as goal

pub returns-in_ok-push : goal.returns-in_ok-push
returns-in_ok-push c = row_toggled _ _ _ _ _ _ c.if-k-w.true c.requires.row c.column-k.ensures.splits c.in_ok-push.ensures.items

pub returns-else-k-w : goal.returns-else-k-w
returns-else-k-w c = row_same _ _ _ _ _ c.if-k-w.false c.column-k.ensures.splits
