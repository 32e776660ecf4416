-- The maps of the sizes so far are done.
use Rattle.std.specs.Prelude.{IsPermutation}
use Rattle.reach_box.specs.Marks.{Expires}
use Rattle.reach_box.proofs.Dirtied.{below_size}
use Rattle.reach_box.proofs.dirties.mark_maps_dirty.Given as goal

abbrev pub invariant-loop-i : goal.invariant-loop-i
invariant-loop-i l = record {
  dirties : Expires (below_size l.maps l.initial.boxes l.i) l.initial.marks.shown l.marks.shown l.clean;
  moved : IsPermutation l.initial.boxes l.boxes;
}
