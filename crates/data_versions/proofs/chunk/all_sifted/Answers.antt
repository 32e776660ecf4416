use Rattle.data_versions.proofs.Grids.{all_sift}
use Rattle.data_versions.proofs.chunk.all_sifted.Goals as goal

pub returns : goal.returns
returns c = all_sift c.args.question c.args.features.now c.requires
