-- What every expiry list keeps.
use Rattle.std.specs.Prelude.{◌≤◌, List, length, All}
use Rattle.farm_base.specs.Limits.{most_lines}
use Rattle.plain_world.specs.World.{IsTile}
use Rattle.plain_world.specs.declared.world.Tile.{Tile}

-- tiles, and no more than an expiry list has lines
pub record AreListed (tiles : List Tile) : Type 0 where
  pub each : All IsTile tiles
  pub few : length tiles ≤ most_lines
