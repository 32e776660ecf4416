-- Those so far are touched, the others are as they were.
use Rattle.std.proofs.Common.{◌≡◌, ◌++◌, map, take, drop}
use Rattle.farm_history.specs.Plans.{overlaps}
use Rattle.farm_history.specs.Seen.{overtaken_by}
use Rattle.render_jobs.proofs.taken.touch_tile.Given as goal

abbrev pub invariant-loop-one : goal.invariant-loop-one
invariant-loop-one l = l.taken ≡ map (overtaken_by (overlaps l.tile)) (take l.one-index l.initial.taken) ++ drop l.one-index l.initial.taken
