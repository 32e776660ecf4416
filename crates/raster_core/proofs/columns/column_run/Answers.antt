use Rattle.std.proofs.Common.{min, refl, ap, ◌∙◌, arith}
use Rattle.raster_core.specs.declared.columns.ColumnRun.{ColumnRun}
use Rattle.raster_core.proofs.Corners.{run_two, run_one}
use Rattle.raster_core.proofs.columns.column_run.Goals as goal

pub returns-then-second-column-clause-is : goal.returns-then-second-column-clause-is
returns-then-second-column-clause-is c j i row =
    let run : ColumnRun = record { column = c.corner_at-first.result.column; top = c.min-top.result; bottom = c.min-bottom.result } in
    run_two c.args.corners.now c.args.k _ c.args.w.rows j i c.corner_at-first.result c.corner_at-second.result run (omega arith) row (omega arith)
    (c.corner_at-first.ensures c.corner_at-first.result) (c.corner_at-second.ensures c.corner_at-second.result) c.if-second-column.true refl c.min-top.ensures
    (c.min-bottom.ensures ∙ ap (λ m. min m c.args.w.rows) c.max.ensures)

pub returns-clause-is : goal.returns-clause-is
returns-clause-is c j i row =
    let run : ColumnRun = record { column = c.corner_at-first.result.column; top = c.corner_at-first.result.row; bottom = c.args.w.rows } in
    run_one c.args.corners.now c.args.k c.args.w.rows j i c.corner_at-first.result run c.requires.some row (c.corner_at-first.ensures c.corner_at-first.result) refl refl refl
