use Rattle.std.proofs.Common.{refl}
use Rattle.expiry_lists.specs.declared.faults.ListFault.TheVariants as fault
use Rattle.exit_status.specs.LineFaults.{list_text}
use Rattle.farm_files.proofs.Judged.{file_checked, told_by}
use Rattle.farm_files.proofs.loaders.list_file.Goals as goal

pub returns : goal.returns
returns g c =
    file_checked _ _ _ _ _ _ _ _ _ c.in_ok-bytes.ensures c.as_slice.ensures.value
    (told_by list_text fault.NoMemory _ _ refl c.tile_list.ensures) c.checked.ensures
