use Rattle.std.proofs.Common.{refl}
use Rattle.farm_call.proofs.Found.{not_read, not_fitting}
use Rattle.farm_call.proofs.resumed.resume.Goals as goal

pub returns-in-Err : goal.returns-in-Err
returns-in-Err g c = (refl, not_read _ _ c.requires.some _ _ _ c.in-Err.ensures.value c.text.ensures c.refusal.ensures)

pub returns : goal.returns
returns g c =
    (c.in-Err-resume.ensures.store, not_fitting _ _ c.requires.some _ c.in-Ok.ensures.value _ _ _ c.in-Err-resume.ensures.refused c.resume_text.ensures c.refusal-in-Err-resume.ensures)
