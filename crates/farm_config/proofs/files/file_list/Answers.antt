use Rattle.farm_config.proofs.Places.{few_each}
use Rattle.farm_config.proofs.files.file_list.Goals as goal

pub returns-clause-few : goal.returns-clause-few
returns-clause-few c = few_each 256 _ c.in_ok-names.ensures.kept
