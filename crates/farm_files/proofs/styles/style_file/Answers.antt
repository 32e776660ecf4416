use Rattle.std.proofs.Common.{refl}
use Rattle.style_objects.specs.declared.fault.StyleFault.TheVariants as fault
use Rattle.exit_status.specs.StyleFaults.{style_text}
use Rattle.farm_files.proofs.Judged.{file_checked, told_by}
use Rattle.farm_files.proofs.styles.style_file.Goals as goal

pub returns : goal.returns
returns g c =
    file_checked _ _ _ _ _ _ _ _ _ c.in_ok-bytes.ensures c.as_slice.ensures.value
    (told_by style_text fault.NoMemory _ _ refl c.read_style.ensures.value) c.checked.ensures
