-- The removals that are left do to the edit what all of them do to the one at the start.
use Rattle.std.proofs.Common.{◌≡◌, drop}
use Rattle.plain_shapes.specs.Data.{ids_of, without_ids, first_missing}
use Rattle.data_versions.proofs.edited.remove_all.Given as goal

abbrev pub invariant-loop-id : goal.invariant-loop-id
invariant-loop-id l = record {
  left : without_ids (drop l.id-index l.ids) l.edit ≡ without_ids l.ids l.fn.edit;
  misses : first_missing (ids_of l.edit) (drop l.id-index l.ids) ≡ first_missing (ids_of l.fn.edit) l.ids;
}
