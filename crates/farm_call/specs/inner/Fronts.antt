-- What the three fronts of a farm that is served leave.
use Rattle.std.specs.Prelude.{ℕ, List, Option}
use Rattle.plain_world.specs.declared.world.Tile.{Tile}
use Rattle.session_front.specs.Renderd.{renderd_rules}
use Rattle.tile_front.specs.Tiles.{tile_rules}
use Rattle.control_front.specs.Control.{control_rules}
use Rattle.front_loop.specs.Kinds.{Leaving}
use Rattle.front_loop.specs.Leaves.{FrontLeaves}

-- the renderd front, number 0, of a farm that has the maps of these names
abbrev pub renderd_leaves : (List ℕ → Option ℕ) → Leaving
renderd_leaves maps = FrontLeaves (renderd_rules 0 maps)

-- the tile front, number 1
abbrev pub tiles_leave : (List ℕ → Option ℕ) → Leaving
tiles_leave maps = FrontLeaves (tile_rules 1 maps)

-- the control front, number 2, with these tile lists
abbrev pub control_leaves : List (List Tile) → Leaving
control_leaves lists = FrontLeaves (control_rules 2 lists)
