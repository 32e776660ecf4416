use Rattle.std.proofs.Common.{◌&&◌, take}
use Rattle.farm_history.specs.Plans.{overlaps}
use Rattle.expiry_lists.specs.inner.Nodes.{place_of}
use Rattle.expiry_lists.specs.inner.Tiles.{is_of_maps}
use Rattle.expiry_lists.specs.inner.Walks.{Walks}
use Rattle.expiry_lists.proofs.walks.mark_groups_dirty.Given as goal

-- the keys of the groups so far are dirty
abbrev pub invariant-loop-group : goal.invariant-loop-group
invariant-loop-group l = record {
  walks : Walks (λ k. is_of_maps (take l.group-index l.groups) (place_of k) && overlaps l.t k) l.initial.nodes l.nodes l.count;
}
