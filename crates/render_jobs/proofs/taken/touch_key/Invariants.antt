-- Those so far are touched, the others are as they were.
use Rattle.std.proofs.Common.{◌≡◌, ◌++◌, map, take, drop}
use Rattle.farm_history.specs.Plans.{same_key}
use Rattle.farm_history.specs.Seen.{overtaken_by}
use Rattle.render_jobs.proofs.taken.touch_key.Given as goal

abbrev pub invariant-loop-one : goal.invariant-loop-one
invariant-loop-one l = l.taken ≡ map (overtaken_by (same_key l.key)) (take l.one-index l.initial.taken) ++ drop l.one-index l.initial.taken
