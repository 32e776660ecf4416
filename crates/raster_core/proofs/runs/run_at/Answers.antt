use Rattle.std.proofs.Common.{◌*◌, refl, ap, arith}
use Rattle.raster_core.proofs.Filling.{begun, first_end, run_next}
use Rattle.raster_core.proofs.runs.run_at.Goals as goal

pub overflow_sub-result-2 : goal.overflow_sub-result-2
overflow_sub-result-2 c =
    let b = begun c.args.w c.args.places.now c.args.k _ _ c.requires.window c.requires.some (rw c.row_of-row.ensures at c.run_end-end.ensures.end) (rw c.row_of-row.ensures at c.run_end-end.ensures.closed) (rw c.row_of-row.ensures at c.run_end-end.ensures.open) in
    omega (arith, ap (λ row. row * c.args.w.cols) c.row_of-row.ensures, b.low, first_end _ _ _ _ _ _ _ c.requires.order b)

pub returns-clause-start : goal.returns-clause-start
returns-clause-start c =
    let b = begun c.args.w c.args.places.now c.args.k _ _ c.requires.window c.requires.some (rw c.row_of-row.ensures at c.run_end-end.ensures.end) (rw c.row_of-row.ensures at c.run_end-end.ensures.closed) (rw c.row_of-row.ensures at c.run_end-end.ensures.open) in
    omega (arith, ap (λ row. row * c.args.w.cols) c.row_of-row.ensures, first_end _ _ _ _ _ _ _ c.requires.order b)

pub returns-clause-is : goal.returns-clause-is
returns-clause-is c member n is done =
    let b = begun c.args.w c.args.places.now c.args.k _ _ c.requires.window c.requires.some (rw c.row_of-row.ensures at c.run_end-end.ensures.end) (rw c.row_of-row.ensures at c.run_end-end.ensures.closed) (rw c.row_of-row.ensures at c.run_end-end.ensures.open) in
    rw c.row_of-row.ensures (run_next _ _ _ _ _ _ _ _ _ _ is done b refl)
