use Rattle.std.proofs.Common.{arith}
use Rattle.std.proofs.Math.Nat.{mul-le-mul_right}
use Rattle.raster_core.proofs.parities.area_of.Goals as goal

pub returns-clause-few : goal.returns-clause-few
returns-clause-few c = omega (arith, mul-le-mul_right c.args.w.cols c.requires.few_rows, c.requires.few_cols)
