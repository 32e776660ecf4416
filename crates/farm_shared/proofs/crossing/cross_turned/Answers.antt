use denote.Param.{param}
use denote.Param.SendFields.{declared_send}
use Rattle.farm_shared.specs.contracts.turned.Turned as turned
use Rattle.farm_shared.proofs.crossing.cross_turned.Goals as goal

pub returns : goal.returns
returns g c = declared_send (turned.the_type (param 0 g.row.D)) (c.cross_farm.ensures, tt)
