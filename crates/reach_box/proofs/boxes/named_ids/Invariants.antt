use Rattle.std.proofs.Common.{◌≡◌, ◌++◌, take}
use Rattle.plain_shapes.specs.Data.{ids_of}
use Rattle.reach_box.proofs.boxes.named_ids.Given as goal

abbrev pub invariant-loop-f : goal.invariant-loop-f
invariant-loop-f l = l.ids.items ≡ l.removed ++ ids_of (take l.f-index l.puts)
