-- The keys so far are dirty, where they are in the box.
use Rattle.std.proofs.Common.{◌≡◌, ◌&&◌, take}
use Rattle.std.specs.Map.{keys_of}
use Rattle.expiry_lists.specs.Marks.{is_in_box}
use Rattle.expiry_lists.specs.inner.Tiles.{is_one_of}
use Rattle.expiry_lists.specs.inner.Walks.{Walks}
use Rattle.expiry_lists.proofs.rectangles.mark_box_dirty.Given as goal

abbrev pub invariant-loop-i : goal.invariant-loop-i
invariant-loop-i l = record {
  walks : Walks (λ k. is_one_of (take l.i (keys_of l.initial.nodes.entries)) k && is_in_box l.map l.z l.b k) l.initial.nodes l.nodes l.count;
  keys : keys_of l.nodes.entries ≡ keys_of l.initial.nodes.entries;
}
