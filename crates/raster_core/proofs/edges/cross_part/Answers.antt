use Rattle.std.proofs.Common.{refl}
use Rattle.plain_shapes.specs.Rings.{counts_down}
use Rattle.raster_core.specs.declared.columns.ColumnRun.{ColumnRun}
use Rattle.raster_core.specs.inner.Columns.{in_run, in_part}
use Rattle.raster_core.proofs.Corners.{turned_places, turned_corners, part_is_run}
use Rattle.raster_core.proofs.edges.cross_part.Goals as goal

pub returns-in-Some : goal.returns-in-Some
returns-in-Some c =
    let run : ColumnRun = record { column = c.in-Some.column; top = c.args.from; bottom = c.args.to } in
    turned_corners c.args.w (in_run run) (in_part c.args.w (counts_down c.args.e.a c.args.e.b) c.args.from c.args.to) _ _ refl
    (part_is_run c.args.w (counts_down c.args.e.a c.args.e.b) run c.in-Some.ensures) c.in_ok-add_ends.ensures

pub returns : goal.returns
returns c = turned_places c.args.w (in_part c.args.w (counts_down c.args.e.a c.args.e.b) c.args.from c.args.to) _ _ refl c.in_ok-cross_rows.ensures
