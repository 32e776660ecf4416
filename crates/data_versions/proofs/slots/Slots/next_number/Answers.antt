use Rattle.std.proofs.Common.{sym}
use Rattle.data_versions.proofs.Overlaid.{slot_count}
use Rattle.data_versions.proofs.slots.Slots.next_number.Goals as goal

pub returns : goal.returns
returns c = rw (← c.self.view_is) (sym (slot_count c.self.inside.put.entries c.self.inside.layer.now.features c.self.inside.count c.self.invariant))
