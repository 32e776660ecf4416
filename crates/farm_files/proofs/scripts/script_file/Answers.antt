use Rattle.std.proofs.Common.{refl}
use Rattle.script_lines.specs.declared.script.ScriptFault.TheVariants as fault
use Rattle.exit_status.specs.LineFaults.{script_text}
use Rattle.farm_files.proofs.Judged.{file_checked, told_by}
use Rattle.farm_files.proofs.scripts.script_file.Goals as goal

pub returns : goal.returns
returns g c =
    file_checked _ _ _ _ _ _ _ _ _ c.in_ok-bytes.ensures c.as_slice.ensures.value
    (told_by script_text fault.NoMemory _ _ refl c.read_script.ensures) c.checked.ensures
