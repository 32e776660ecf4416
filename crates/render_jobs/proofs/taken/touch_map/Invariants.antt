-- Those so far are touched, the others are as they were.
use Rattle.std.proofs.Common.{◌≡◌, ◌++◌, map, take, drop}
use Rattle.expiry_lists.specs.Marks.{is_of_map}
use Rattle.farm_history.specs.Seen.{overtaken_by}
use Rattle.render_jobs.proofs.taken.touch_map.Given as goal

abbrev pub invariant-loop-one : goal.invariant-loop-one
invariant-loop-one l = l.taken ≡ map (overtaken_by (is_of_map l.map)) (take l.one-index l.initial.taken) ++ drop l.one-index l.initial.taken
