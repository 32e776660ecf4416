use Rattle.std.proofs.Common.{◌≡◌, ◌++◌, OnOk}
use Rattle.tile_front.specs.Answers as spec
use Rattle.tile_front.proofs.tiles.put_tile.Goals as goal

pub returns-in-Dirty : goal.returns-in-Dirty
returns-in-Dirty c = rw c.in-Dirty.is c.put_picture-in-Dirty.ensures
