use Rattle.farm_files.proofs.Judged.{read_missed}
use Rattle.farm_files.proofs.files.read_file.Goals as goal

pub returns-in-Err-Failed : goal.returns-in-Err-Failed
returns-in-Err-Failed g c = read_missed _ _ _ _ _ c.in-Err-Failed.field-0-is c.in-Err-Failed.ensures c.unreadable.ensures
