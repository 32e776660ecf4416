-- The box that is widened point by point is the least one that holds all points.
use Rattle.std.proofs.Common.{◌≡◌, ℕ, ◌≤◌, List, [], ◌∷◌, length, refl, arith}
use Rattle.std.proofs.lemmas.Bool.Decides.{nat_tests}
use Rattle.std.specs.Prelude.{All, fold, Bool, true, false, ◌||◌, nat_lt, None}
use Rattle.std.specs.List.{AllByRecursion, list_any}
use Rattle.farm_base.specs.declared.values.Attr.{Attr}
use Rattle.plain_shapes.specs.declared.shapes.Geometry.TheVariants.{Points, Lines, Polygon}
use Rattle.std.proofs.lemmas.List.Elements.{All-from_recursion, recursion_from_All}
use Rattle.plain_world.specs.declared.world.Point.{Point}
use Rattle.plain_shapes.specs.declared.shapes.Geometry.{Geometry}
use Rattle.plain_world.specs.World.{InWorld}
use Rattle.geo_model.specs.declared.bounds.Bounds.{Bounds}
use Rattle.geo_model.specs.Bounds.{InBounds, Within, IsLeastBounds, no_bounds, box_with, bounds_of}
use Rattle.geo_model.specs.Shapes.{parts_of, least_points, is_none, is_outside, fault_of, IsShape}

within_self : (b : Bounds) → Within b b
within_self b = record { west = omega arith; north = omega arith; east = omega arith; south = omega arith }

within_both : (a b c : Bounds) → Within a b → Within b c → Within a c
within_both a b c p q = record { west = omega arith; north = omega arith; east = omega arith; south = omega arith }

larger_holds : (a b : Bounds) (p : Point) → Within a b → InBounds a p → InBounds b p
larger_holds a b p w h = record { from_west = omega arith; to_east = omega arith; from_north = omega arith; to_south = omega arith }

widened_larger : (b : Bounds) (p : Point) → Within b (box_with b p)
widened_larger b p = record { west = omega arith; north = omega arith; east = omega arith; south = omega arith }

widened_holds : (b : Bounds) (p : Point) → InBounds (box_with b p) p
widened_holds b p = record { from_west = omega arith; to_east = omega arith; from_north = omega arith; to_south = omega arith }

widened_least : (b other : Bounds) (p : Point) → Within b other → InBounds other p → Within (box_with b p) other
widened_least b other p w h = record { west = omega arith; north = omega arith; east = omega arith; south = omega arith }

-- one part

path_larger : (path : List Point) (b : Bounds) → Within b (fold box_with b path)
path_larger [] b = within_self b
path_larger (p ∷ path) b = within_both b (box_with b p) (fold box_with (box_with b p) path) (widened_larger b p) (path_larger path (box_with b p))

path_holds : (path : List Point) (b : Bounds) → AllByRecursion (InBounds (fold box_with b path)) path
path_holds [] b = tt
path_holds (p ∷ path) b = (larger_holds (box_with b p) (fold box_with (box_with b p) path) p (path_larger path (box_with b p)) (widened_holds b p), path_holds path (box_with b p))

path_least : (path : List Point) (b other : Bounds) → Within b other → AllByRecursion (InBounds other) path → Within (fold box_with b path) other
path_least [] b other w h = w
path_least (p ∷ path) b other w h = path_least path (box_with b p) other (widened_least b other p w h.0) h.1

all_larger : (path : List Point) (a b : Bounds) → Within a b → AllByRecursion (InBounds a) path → AllByRecursion (InBounds b) path
all_larger [] a b w h = tt
all_larger (p ∷ path) a b w h = (larger_holds a b p w h.0, all_larger path a b w h.1)

-- all parts

pub parts_larger : (parts : List (List Point)) (b : Bounds) → Within b (fold (fold box_with) b parts)
parts_larger [] b = within_self b
parts_larger (path ∷ parts) b = within_both b (fold box_with b path) (fold (fold box_with) (fold box_with b path) parts) (path_larger path b) (parts_larger parts (fold box_with b path))

pub parts_hold : (parts : List (List Point)) (b : Bounds) → AllByRecursion (All (InBounds (fold (fold box_with) b parts))) parts
parts_hold [] b = tt
parts_hold (path ∷ parts) b = (
  All-from_recursion (InBounds (fold (fold box_with) (fold box_with b path) parts)) path
      (all_larger path (fold box_with b path) (fold (fold box_with) (fold box_with b path) parts) (parts_larger parts (fold box_with b path)) (path_holds path b)),
  parts_hold parts (fold box_with b path),
)

parts_least : (parts : List (List Point)) (b other : Bounds) → Within b other → AllByRecursion (All (InBounds other)) parts → Within (fold (fold box_with) b parts) other
parts_least [] b other w h = w
parts_least (path ∷ parts) b other w h =
    parts_least parts (fold box_with b path) other (path_least path b other w (recursion_from_All (InBounds other) path h.0)) h.1

-- a rectangle that holds a point of the world holds the box of no point

starts_within : (p : Point) (other : Bounds) → InWorld p → InBounds other p → Within no_bounds other
starts_within p other w h = record { west = omega arith; north = omega arith; east = omega arith; south = omega arith }

starts_with : (parts : List (List Point)) (fewest : ℕ) (other : Bounds) → 1 ≤ fewest
    → (is_none parts || list_any (λ part. nat_lt (length part) fewest) parts) ≡ false
    → AllByRecursion (All InWorld) parts → AllByRecursion (All (InBounds other)) parts → Within no_bounds other
starts_with [] fewest other some enough world holds = cc
starts_with ([] ∷ parts) fewest other some enough world holds = absurd (grind (arith, nat_tests))
starts_with ((p ∷ path) ∷ parts) fewest other some enough world holds =
    starts_within p other ((recursion_from_All InWorld (p ∷ path) world.0).0) ((recursion_from_All (InBounds other) (p ∷ path) holds.0).0)

pub fewest_some : (g : Geometry) → 1 ≤ least_points g
fewest_some (Points points) = omega arith
fewest_some (Lines lines) = omega arith
fewest_some (Polygon rings) = omega arith

-- the box of a shape's parts is the least one that holds all their points
pub least_bounds : (g : Geometry) → IsShape g → IsLeastBounds (bounds_of (parts_of g)) (parts_of g)
least_bounds g shape = record {
  holds = All-from_recursion (All (InBounds (bounds_of (parts_of g)))) (parts_of g) (parts_hold (parts_of g) no_bounds);
  least = λ other holds. parts_least (parts_of g) no_bounds other
      (starts_with (parts_of g) (least_points g) other (fewest_some g) shape.enough
      (recursion_from_All (All InWorld) (parts_of g) shape.in_world) (recursion_from_All (All (InBounds other)) (parts_of g) holds))
      (recursion_from_All (All (InBounds other)) (parts_of g) holds);
}

pub no_left : (a b : Bool) → (a || b) ≡ false → a ≡ false
no_left true b h = h
no_left false b h = refl

pub no_right : (a b : Bool) → (a || b) ≡ false → b ≡ false
no_right true b h = cc
no_right false b h = h

inside : (p : Point) → is_outside p ≡ false → InWorld p
inside p h = record { x_fits = grind (arith, nat_tests); y_fits = grind (arith, nat_tests) }

path_inside : (path : List Point) → list_any is_outside path ≡ false → AllByRecursion InWorld path
path_inside [] h = tt
path_inside (p ∷ path) h = (inside p (no_left (is_outside p) (list_any is_outside path) h), path_inside path (no_right (is_outside p) (list_any is_outside path) h))

parts_inside : (parts : List (List Point)) → list_any (list_any is_outside) parts ≡ false → AllByRecursion (All InWorld) parts
parts_inside [] h = tt
parts_inside (path ∷ parts) h = (
  All-from_recursion InWorld path (path_inside path (no_left (list_any is_outside path) (list_any (list_any is_outside) parts) h)),
  parts_inside parts (no_right (list_any is_outside path) (list_any (list_any is_outside) parts) h),
)

-- parts without a fault are a shape
pub shape_valid : (g : Geometry) (attrs : List Attr) → fault_of g attrs ≡ None → IsShape g
shape_valid g attrs h = record {
  enough = grind (arith, nat_tests);
  in_world = All-from_recursion (All InWorld) (parts_of g) (parts_inside (parts_of g) (grind (arith, nat_tests)));
  few = grind (arith, nat_tests);
}
