use Rattle.exit_status.specs.MetaFaults.{meta_text}
use Rattle.farm_files.proofs.Judged.{file_checked, tells_same}
use Rattle.render_command.proofs.meta_command.read_listing.Goals as goal

pub returns : goal.returns
returns g c =
    file_checked _ _ _ _ _ _ _ _ _ c.in_ok-bytes.ensures c.as_slice.ensures.value (tells_same meta_text _ _ c.listing.ensures) c.checked.ensures
