use Rattle.std.proofs.Common.{ltb, [], length}
use Rattle.farm_config.specs.Configs.{map_fits}
use Rattle.farm_config.proofs.Places.{first_each, second_each, few_each}
use Rattle.farm_config.proofs.maps.map_list.Goals as goal

pub returns-clause-few : goal.returns-clause-few
returns-clause-few c = few_each 16 c.in_ok-maps.maps.items (first_each (λ b x. ltb (length b) 16) map_fits [] c.in_ok-maps.maps.items c.in_ok-maps.ensures.kept)

pub returns-clause-fit : goal.returns-clause-fit
returns-clause-fit c = second_each (λ b x. ltb (length b) 16) map_fits [] c.in_ok-maps.maps.items c.in_ok-maps.ensures.kept
