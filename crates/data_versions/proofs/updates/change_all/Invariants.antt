-- The changes that are left do to the layers what all of them do to those at the start.
use Rattle.std.proofs.Common.{◌≡◌, drop}
use Rattle.plain_shapes.specs.Data.{changed_from, names_of}
use Rattle.data_versions.proofs.updates.change_all.Given as goal

abbrev pub invariant-loop-place : goal.invariant-loop-place
invariant-loop-place l = record {
  left : changed_from l.place (drop l.place l.changes) l.edited_layers ≡ changed_from 0 l.changes l.fn.edited_layers;
  names : names_of l.edited_layers ≡ names_of l.fn.edited_layers;
}
