use Rattle.std.proofs.Common.{◌≡◌, ◌+◌, ◌-◌, ◌*◌, ◌<◌, ◌≤◌, ◌∙◌, get_or, ap, subst, refl, arith}
use Rattle.plain_world.specs.World.{centre}
use Rattle.plain_shapes.specs.Images.{Pixels}
use Rattle.plain_shapes.specs.Blending.{blend}
use Rattle.plain_image.specs.Runs.{run_changed}
use Rattle.plain_drawing.specs.Grids.{Grid}
use Rattle.tile_render.specs.inner.GridPlaces.{row_at}
use Rattle.tile_render.specs.inner.Regions.{Changed}
use Rattle.tile_render.proofs.GridRuns.{over, place_within, each_column, row_found, row_off, column_here, run_here, run_held, run_off}
use Rattle.tile_render.proofs.grids.blend_row.Goals as goal

pub index-end-requires : goal.index-end-requires
index-end-requires c =
    let long = each_column c.args.w c.args.grid.now c.args.under.now.columns.items c.requires.columns.are in
    omega (arith, long, c.requires.columns.long, c.loop-i-test.true)

pub index-col-requires : goal.index-col-requires
index-col-requires c =
    let long = each_column c.args.w c.args.grid.now c.args.under.now.columns.items c.requires.columns.are in
    omega (arith, long, c.loop-i-test.true)

pub blend_run-requires-clause-order : goal.blend_run-requires-clause-order
blend_run-requires-clause-order c =
    let run = run_here c.args.w c.args.grid.now c.args.under.now.columns.items c.args.under.now.ends.items c.loop-i.i c.index-end.result.now c.requires.columns c.loop-i-test.true c.index-end.ensures in
    omega (arith, run.after)

pub blend_run-requires-clause-cols : goal.blend_run-requires-clause-cols
blend_run-requires-clause-cols c =
    let run = run_here c.args.w c.args.grid.now c.args.under.now.columns.items c.args.under.now.ends.items c.loop-i.i c.index-end.result.now c.requires.columns c.loop-i-test.true c.index-end.ensures in
    let long = each_column c.args.w c.args.grid.now c.args.under.now.columns.items c.requires.columns.are in
    omega (arith, run.within, long, c.loop-i.invariant.cols, c.requires.cols)

pub loop-i-smaller-then-col-grid : goal.loop-i-smaller-then-col-grid
loop-i-smaller-then-col-grid c =
    let run = run_here c.args.w c.args.grid.now c.args.under.now.columns.items c.args.under.now.ends.items c.loop-i.i c.index-end.result.now c.requires.columns c.loop-i-test.true c.index-end.ensures in
    omega (arith, run.after, c.loop-i-test.true)

pub loop-i-smaller : goal.loop-i-smaller
loop-i-smaller c =
    let run = run_here c.args.w c.args.grid.now c.args.under.now.columns.items c.args.under.now.ends.items c.loop-i.i c.index-end.result.now c.requires.columns c.loop-i-test.true c.index-end.ensures in
    omega (arith, run.after, c.loop-i-test.true)

pub colour_at-requires-clause-row : goal.colour_at-requires-clause-row
colour_at-requires-clause-row c =
    let rows : c.grid.inside.rows ≡ c.args.grid.now.rows = ap (λ (g : Grid). g.rows) c.grid.view_is in
    let at : row_at c.args.grid.now (centre c.args.w 0 c.args.j) ≡ c.place_in-row.result = row_found _ c.args.grid.now c.centre.result (centre c.args.w 0 c.args.j) c.place_in-row.result c.place_in-row.ensures c.grid.view_is c.centre.ensures.value in
    let within = place_within c.args.grid.now.north c.args.grid.now.pixel c.args.grid.now.rows (centre c.args.w 0 c.args.j).y in
    omega (arith, rows, at, within, c.if-row-grid.false)

pub returns-then-row-grid-clause-painted : goal.returns-then-row-grid-clause-painted
returns-then-row-grid-clause-painted c start so_far =
    let rows : c.grid.inside.rows ≡ c.args.grid.now.rows = ap (λ (g : Grid). g.rows) c.grid.view_is in
    let at : row_at c.args.grid.now (centre c.args.w 0 c.args.j) ≡ c.place_in-row.result = row_found _ c.args.grid.now c.centre.result (centre c.args.w 0 c.args.j) c.place_in-row.result c.place_in-row.ensures c.grid.view_is c.centre.ensures.value in
    let off : row_at c.args.grid.now (centre c.args.w 0 c.args.j) ≡ c.args.grid.now.rows = omega (arith, rows, at, c.if-row-grid.true) in
    row_off c.args.w c.args.grid.now c.args.opacity c.args.j start c.args.image.now c.requires.window.some_col c.requires.row off so_far

pub loop-i-init : goal.loop-i-init
loop-i-init c = record {
  cols = refl;
  rows = refl;
  within = omega arith;
  painted = λ start so_far.
      (let same : c.args.j * c.args.w.cols ≡ c.args.j * c.args.w.cols + 0 = omega arith in
      subst (λ n. Changed (over c.args.grid.now c.args.opacity) c.args.w n start c.args.image.now) same so_far);
}

pub loop-i-preserved-then-col-grid : goal.loop-i-preserved-then-col-grid
loop-i-preserved-then-col-grid c =
    let run = run_here c.args.w c.args.grid.now c.args.under.now.columns.items c.args.under.now.ends.items c.loop-i.i c.index-end.result.now c.requires.columns c.loop-i-test.true c.index-end.ensures in
    let long = each_column c.args.w c.args.grid.now c.args.under.now.columns.items c.requires.columns.are in
    let col = column_here c.args.under.now.columns.items c.loop-i.i c.index-col.result.now (omega (arith, long, c.loop-i-test.true)) c.index-col.ensures in
    let fits : c.index-end.result.now ≤ c.args.w.cols = omega (arith, run.within, long) in
    let cols : c.grid.inside.cols ≡ c.args.grid.now.cols = ap (λ (g : Grid). g.cols) c.grid.view_is in
    let rows : c.grid.inside.rows ≡ c.args.grid.now.rows = ap (λ (g : Grid). g.rows) c.grid.view_is in
    let at : row_at c.args.grid.now (centre c.args.w 0 c.args.j) ≡ c.place_in-row.result = row_found _ c.args.grid.now c.centre.result (centre c.args.w 0 c.args.j) c.place_in-row.result c.place_in-row.ensures c.grid.view_is c.centre.ensures.value in
    let within = place_within c.args.grid.now.north c.args.grid.now.pixel c.args.grid.now.rows (centre c.args.w 0 c.args.j).y in
    let low_row : c.place_in-row.result < c.args.grid.now.rows = omega (arith, rows, at, within, c.if-row-grid.false) in
    let written =
    c.blend_run.ensures
    ∙ ap (λ s. record c.loop-i.image { pixels = run_changed (blend s c.args.opacity) (c.args.j * c.loop-i.image.cols + c.loop-i.i) (c.index-end.result.now - c.loop-i.i) c.loop-i.image.pixels })
    c.colour_at.ensures in
    let image_cols : c.loop-i.image.cols ≡ c.args.w.cols = c.loop-i.invariant.cols ∙ c.requires.cols in
    record {
      cols = ap (λ (m : Pixels). m.cols) c.blend_run.ensures ∙ c.loop-i.invariant.cols;
      rows = ap (λ (m : Pixels). m.rows) c.blend_run.ensures ∙ c.loop-i.invariant.rows;
      within = fits;
      painted = λ start so_far.
          run_held c.args.w c.args.grid.now c.args.under.now.columns.items c.args.opacity c.args.j c.loop-i.i c.index-end.result.now c.index-col.result.now c.place_in-row.result start
          c.loop-i.image c.blend_run.new.self c.requires.columns.are run.after fits c.requires.row image_cols (λ q low high. run.same q low high ∙ col)
          (omega (arith, cols, c.if-col-grid.true)) at low_row written (c.loop-i.invariant.painted start so_far);
    }

pub loop-i-preserved : goal.loop-i-preserved
loop-i-preserved c =
    let run = run_here c.args.w c.args.grid.now c.args.under.now.columns.items c.args.under.now.ends.items c.loop-i.i c.index-end.result.now c.requires.columns c.loop-i-test.true c.index-end.ensures in
    let long = each_column c.args.w c.args.grid.now c.args.under.now.columns.items c.requires.columns.are in
    let col = column_here c.args.under.now.columns.items c.loop-i.i c.index-col.result.now (omega (arith, long, c.loop-i-test.true)) c.index-col.ensures in
    let fits : c.index-end.result.now ≤ c.args.w.cols = omega (arith, run.within, long) in
    let cols : c.grid.inside.cols ≡ c.args.grid.now.cols = ap (λ (g : Grid). g.cols) c.grid.view_is in
    record {
      cols = c.loop-i.invariant.cols;
      rows = c.loop-i.invariant.rows;
      within = fits;
      painted = λ start so_far.
          run_off c.args.w c.args.grid.now c.args.under.now.columns.items c.args.opacity c.args.j c.loop-i.i c.index-end.result.now (get_or c.args.under.now.columns.items c.loop-i.i 0) start c.loop-i.image
          c.requires.columns.are run.after fits c.requires.row run.same (omega (arith, cols, col, c.if-col-grid.false))
          (c.loop-i.invariant.painted start so_far);
    }

pub returns-clause-painted : goal.returns-clause-painted
returns-clause-painted c start so_far =
    let end : c.args.j * c.args.w.cols + c.loop-i.i ≡ (c.args.j + 1) * c.args.w.cols = omega (arith, c.loop-i-test.false, c.loop-i.invariant.within) in
    subst (λ n. Changed (over c.args.grid.now c.args.opacity) c.args.w n start c.loop-i.image) end (c.loop-i.invariant.painted start so_far)
