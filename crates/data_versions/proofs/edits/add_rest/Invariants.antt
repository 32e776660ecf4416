-- What stands by the edits so far is added.
use Rattle.std.proofs.Common.{◌≡◌, ◌++◌, take}
use Rattle.data_versions.specs.inner.Building.{built}
use Rattle.data_versions.specs.inner.Edits.{edits_of, standing_edits}
use Rattle.data_versions.proofs.edits.add_rest.Given as goal

abbrev pub invariant-loop-edit : goal.invariant-loop-edit
invariant-loop-edit l = built l.builder ≡ built l.fn.builder ++ standing_edits (edits_of (take l.edit-index l.edit-items))
