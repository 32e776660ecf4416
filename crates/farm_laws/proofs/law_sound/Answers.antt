-- The law is proved with the definitions.
use Rattle.farm_history.proofs.Sounds.{sound}
use Rattle.farm_laws.proofs.law_sound.Goals as goal

pub returns : goal.returns
returns c = sound
