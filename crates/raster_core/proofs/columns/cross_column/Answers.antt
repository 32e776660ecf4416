use Rattle.raster_core.proofs.Corners.{run_outside}
use Rattle.raster_core.proofs.columns.cross_column.Goals as goal

pub returns-then-run-w : goal.returns-then-run-w
returns-then-run-w c = run_outside c.args.w c.args.run c.args.places.now.items c.if-run-w.true
