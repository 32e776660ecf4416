-- The tile of three numbers.
use Rattle.std.specs.Prelude.{ℕ, ◌^◌, ◌&&◌, nat_le, nat_lt, if◌then◌else◌, Option, Some, None}
use Rattle.plain_world.specs.declared.world.Tile.{Tile}

-- the tile of this zoom, column and row, if there is one
unfoldable pub tile_if_any : ℕ → ℕ → ℕ → Option Tile
tile_if_any z x y = if nat_le z 18 && nat_lt x (2 ^ z) && nat_lt y (2 ^ z)
    then Some (record { z = z; x = x; y = y }) else None
