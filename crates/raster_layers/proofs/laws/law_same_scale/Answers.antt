use Rattle.raster_layers.proofs.SameScale.{same_scale}
use Rattle.raster_layers.proofs.laws.law_same_scale.Goals as goal

pub returns : goal.returns
returns c = same_scale
