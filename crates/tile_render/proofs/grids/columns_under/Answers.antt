use Rattle.std.proofs.Common.{◌∙◌, length, ap}
use Rattle.tile_render.proofs.GridRuns.{each_column}
use Rattle.tile_render.proofs.grids.columns_under.Goals as goal

pub run_ends-requires : goal.run_ends-requires
run_ends-requires c = ap length c.as_slice.ensures.value ∙ each_column c.args.w c.args.grid.now c.in_ok-columns.columns.items c.in_ok-columns.ensures
