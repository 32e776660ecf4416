use Rattle.std.proofs.Common.{sym, subst}
use Rattle.serde_json.specs.View.{view}
use Rattle.reading.specs.Steps.{Gives}
use Rattle.farm_config.specs.declared.fault.ConfigFault.TheVariants as fault
use Rattle.farm_config.proofs.Parts.{in_parts}
use Rattle.farm_config.proofs.reading_config.config.Goals as goal

pub returns : goal.returns
returns c =
    subst (λ said. Gives fault.NoMemory (λ x. x) said c.config_by_parts.result) (sym (in_parts (view c.args.object.now))) c.config_by_parts.ensures
