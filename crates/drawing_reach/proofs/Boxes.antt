-- The box that is widened point by point holds all points, and does not begin past the world's east and south edge.
use Rattle.std.proofs.Common.{◌≤◌, ◌^◌, List}
use Rattle.std.specs.Prelude.{All}
use Rattle.std.proofs.lemmas.List.Elements.{All-from_recursion}
use Rattle.plain_world.specs.declared.world.Point.{Point}
use Rattle.geo_model.specs.Bounds.{InBounds, no_bounds, bounds_of}
use Rattle.geo_model.proofs.Boxes.{parts_larger, parts_hold}

-- every point lies in the box
pub box_holds : (parts : List (List Point)) → All (All (InBounds (bounds_of parts))) parts
box_holds parts = All-from_recursion (All (InBounds (bounds_of parts))) parts (parts_hold parts no_bounds)

pub box_west : (parts : List (List Point)) → (bounds_of parts).west ≤ 2 ^ 30
box_west parts = (let w = parts_larger parts no_bounds in w.west)

pub box_north : (parts : List (List Point)) → (bounds_of parts).north ≤ 2 ^ 30
box_north parts = (let w = parts_larger parts no_bounds in w.north)
