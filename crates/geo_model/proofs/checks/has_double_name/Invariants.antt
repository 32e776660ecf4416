-- No attribute so far has the name of a later one.
use Rattle.std.proofs.Common.{◌≡◌, drop}
use Rattle.geo_model.specs.Shapes.{has_double_name}
use Rattle.geo_model.proofs.checks.has_double_name.Given as goal

abbrev pub invariant-loop-place : goal.invariant-loop-place
invariant-loop-place l = has_double_name l.attrs ≡ has_double_name (drop l.place l.attrs)
