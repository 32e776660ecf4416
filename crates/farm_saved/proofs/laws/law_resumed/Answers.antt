-- The law is proved with the definitions; a valid plan has a worker and room in its bulk queue.
use Rattle.farm_history.proofs.Resumed.{resumed}
use Rattle.farm_plan.specs.Drawings.{plan_of}
use Rattle.farm_saved.proofs.laws.law_resumed.Goals as goal

pub returns : goal.returns
unfolding plan_of
returns c = λ plan told h s valid legal saved.
    resumed (plan_of plan) told h s valid.count_workers.some valid.limited.bulk.some legal saved
