-- What Marks keep true of their tables.
use Rattle.std.specs.Prelude.{ℕ, ◌≡◌, true, List, filter_map, Option, Some, None, if◌then◌else◌}
use Rattle.farm_history.specs.declared.keys.Key.{Key}
use Rattle.farm_history.specs.declared.keys.Mark.{Mark}
use Rattle.farm_history.specs.declared.keys.Kept.{Kept}
use Rattle.expiry_lists.specs.inner.Nodes.{Node, NodeTable, has_spot, IsTree}
use Rattle.expiry_lists.specs.inner.Tiles.{is_of_maps}

-- the tables are a quadtree, and the groups of its places are listed
pub record IsKept (groups : List ℕ) (t : NodeTable) : Type 0 where
  pub tree : IsTree t.entries t.spots
  pub listed : (p : Key) → has_spot t.spots p ≡ true → is_of_maps groups p ≡ true

-- what is kept of a key with that mark: its version, where it is clean
abbrev pub kept_at : Key → Option Mark → Option Kept
kept_at key None = None
kept_at key (Some m) = if m.clean then Some (record { key = key; version = m.version }) else None

-- the clean entries, in the order of the table
abbrev pub kept_list : List (Key × Node) → List Kept
kept_list es = filter_map (λ e. kept_at e.0 e.1.mark) es
