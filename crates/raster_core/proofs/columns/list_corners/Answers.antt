use Rattle.std.proofs.lemmas.Result.{on_ok_weaker}
use Rattle.raster_core.proofs.Corners.{lists_all}
use Rattle.raster_core.proofs.columns.list_corners.Goals as goal

pub returns : goal.returns
returns c = on_ok_weaker c.cross_columns.result (lists_all c.args.w c.args.crossed.now _ _ c.sort_unstable_by_key.ensures.permutation) (rw c.deref.ensures.value at c.cross_columns.ensures)
