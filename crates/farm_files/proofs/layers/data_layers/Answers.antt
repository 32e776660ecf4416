use Rattle.std.proofs.Common.{refl}
use Rattle.geo_json.specs.declared.faults.DataFault.TheVariants as fault
use Rattle.exit_status.specs.DataFaults.{data_text}
use Rattle.farm_files.proofs.Judged.{file_checked, told_by}
use Rattle.farm_files.proofs.layers.data_layers.Goals as goal

pub returns : goal.returns
returns g c =
    file_checked _ _ _ _ _ _ _ _ _ c.in_ok-bytes.ensures c.as_slice.ensures.value
    (told_by data_text fault.NoMemory _ _ refl c.read_data.ensures) c.checked.ensures
