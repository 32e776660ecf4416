-- The count is that of the parts so far, and not yet too great.
use Rattle.std.proofs.Common.{◌≡◌, ◌≤◌, take, length}
use Rattle.std.specs.Prelude.{sum_by}
use Rattle.geo_model.proofs.checks.has_too_many_points.Given as goal

abbrev pub invariant-loop-part : goal.invariant-loop-part
invariant-loop-part l = record { counted : l.count ≡ sum_by length (take l.part-index l.parts); few : l.count ≤ 65536 }
