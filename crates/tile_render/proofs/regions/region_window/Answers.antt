use Rattle.std.proofs.Common.{arith}
use Rattle.std.proofs.Math.Nat.{mul-le-mul_right}
use Rattle.tile_render.proofs.regions.region_window.Goals as goal

pub returns-clause-valid : goal.returns-clause-valid
returns-clause-valid c =
    let w = c.args.w in
    let x = mul-le-mul_right w.pixel c.requires.region.in_cols in
    let y = mul-le-mul_right w.pixel c.requires.region.in_rows in
    record {
      some_pixel = c.requires.window.some_pixel;
      small_pixel = c.requires.window.small_pixel;
      some_col = c.requires.region.some_col;
      some_row = c.requires.region.some_row;
      few_cols = omega arith;
      few_rows = omega arith;
      east_fits = omega (arith, x, c.requires.window.east_fits);
      south_fits = omega (arith, y, c.requires.window.south_fits);
    }
