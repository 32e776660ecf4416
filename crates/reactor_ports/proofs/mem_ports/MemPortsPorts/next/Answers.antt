use Rattle.reactor_ports.proofs.Hearing.{plays_next}
use Rattle.reactor_ports.proofs.mem_ports.MemPortsPorts.next.Goals as goal

pub returns-clause-told : goal.returns-clause-told
returns-clause-told c = (plays_next c.args.self.now c.play_next.new.self c.play_next.result c.play_next.new.room.items c.play_next.ensures.plays).told

pub returns-clause-cause : goal.returns-clause-cause
returns-clause-cause c = (plays_next c.args.self.now c.play_next.new.self c.play_next.result c.play_next.new.room.items c.play_next.ensures.plays).counts

pub returns-clause-over : goal.returns-clause-over
returns-clause-over c = (plays_next c.args.self.now c.play_next.new.self c.play_next.result c.play_next.new.room.items c.play_next.ensures.plays).over
