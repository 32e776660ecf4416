use Rattle.std.proofs.Common.{take}
use Rattle.reach_box.specs.inner.Lookups.{Adds}
use Rattle.reach_box.proofs.boxes.add_new.Given as goal

abbrev pub invariant-loop-f : goal.invariant-loop-f
invariant-loop-f l = Adds (take l.f-index l.puts) l.initial.boxes.items l.boxes.items
