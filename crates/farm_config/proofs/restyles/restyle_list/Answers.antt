use Rattle.std.proofs.Common.{◌∙◌, sym, ltb, [], length}
use Rattle.reading.proofs.Steps.{all_each}
use Rattle.farm_config.specs.Configs.{restyle_known}
use Rattle.farm_config.proofs.Places.{first_each, second_each, few_each}
use Rattle.farm_config.proofs.restyles.restyle_list.Goals as goal

pub returns-clause-few : goal.returns-clause-few
returns-clause-few c =
    few_each 256 _ (first_each (λ b x. ltb (length b) 256) (λ b x. restyle_known (length c.args.maps.now) x) [] _ c.in_ok-restyles.ensures.kept)

pub returns-clause-known : goal.returns-clause-known
returns-clause-known c =
    sym (all_each (restyle_known (length c.args.maps.now)) [] _)
    ∙ second_each (λ b x. ltb (length b) 256) (λ b x. restyle_known (length c.args.maps.now) x) [] _ c.in_ok-restyles.ensures.kept
