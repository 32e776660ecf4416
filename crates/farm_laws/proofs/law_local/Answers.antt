-- The laws are proved with the pictures of features that are passed over.
use Rattle.farm_laws.proofs.Local.{same_tile, passed_over, local}
use Rattle.farm_laws.proofs.law_local.Goals as goal

pub returns : goal.returns
returns c = record { passed_over = passed_over; alike = same_tile; updates = local }
