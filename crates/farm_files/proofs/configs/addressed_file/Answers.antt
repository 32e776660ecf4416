use Rattle.std.proofs.Common.{refl}
use Rattle.farm_config.specs.declared.fault.ConfigFault.TheVariants as fault
use Rattle.exit_status.specs.ConfigFaults.{config_text}
use Rattle.farm_files.proofs.Judged.{file_checked, told_by}
use Rattle.farm_files.proofs.configs.addressed_file.Goals as goal

pub returns : goal.returns
returns g c =
    file_checked _ _ _ _ _ _ _ _ _ c.in_ok-bytes.ensures c.as_slice.ensures.value
    (told_by config_text fault.NoMemory _ _ refl c.addressed_config.ensures) c.checked.ensures
