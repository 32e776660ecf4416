-- The places so far are settled.
use Rattle.std.proofs.Common.{◌≡◌, take}
use Rattle.std.specs.Map.{keys_of}
use Rattle.expiry_lists.specs.inner.Nodes.{place_of}
use Rattle.expiry_lists.specs.inner.Tiles.{is_one_of}
use Rattle.expiry_lists.specs.inner.Walks.{Walks}
use Rattle.expiry_lists.proofs.places.settle_all.Given as goal

abbrev pub invariant-loop-i : goal.invariant-loop-i
invariant-loop-i l = record {
  walks : Walks (λ k. is_one_of (take l.i (keys_of l.initial.nodes.spots)) (place_of k)) l.initial.nodes l.nodes l.count;
  places : keys_of l.nodes.spots ≡ keys_of l.initial.nodes.spots;
}
