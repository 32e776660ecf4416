use Rattle.raster_core.proofs.Corners.{same_none, same_listed}
use Rattle.raster_core.proofs.columns.list_columns.Goals as goal

pub returns-then-len-lt-MOST_CORNERS : goal.returns-then-len-lt-MOST_CORNERS
returns-then-len-lt-MOST_CORNERS c = same_none c.args.w c.args.crossed.now

pub returns : goal.returns
returns c = same_listed c.args.w c.args.crossed.now _ c.clear.ensures.items c.in_ok-list_corners.ensures
