use denote.Param.{param}
use Rattle.farm_core.proofs.Sendable.{farm_send}
use Rattle.farm_core.proofs.crossing.cross_farm.Goals as goal

pub returns : goal.returns
returns g c = farm_send (param 0 g.row.D) c.type_bounds.send-D c.cross_share.ensures.send c.cross_past.ensures.saved c.cross_past.ensures.past c.cross_styled.ensures c.cross_taken.ensures c.cross_queues.ensures c.cross_marks.ensures
