-- The entries of the control front are a front's.
use Rattle.std.proofs.Common.{List, refl}
use Rattle.plain_world.specs.declared.world.Tile.{Tile}
use Rattle.front_loop.specs.Leaves.{IsFront}
use Rattle.control_front.specs.Control.{control_rules}
use Rattle.control_front.proofs.Sorts.{each_entry, each_behind}

pub is_front : (lists : List (List Tile)) → IsFront 2 (control_rules 2 lists)
is_front lists = record { number = refl; acts = each_entry lists; behinds = each_behind lists }
