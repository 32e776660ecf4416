-- A box reaches a square where some point of the square lies in the widened box, and that is where some lies in the reach of the shape's points.
use Rattle.std.proofs.Common.{◌≡◌, ℕ, ◌+◌, nat_lt, nat_le, sym, ap, ◌∙◌, arith}
use Rattle.std.specs.Prelude.{IsTrue, ◌↔◌}
use Rattle.std.specs.List.{list_any}
use Rattle.std.proofs.lemmas.Bool.{le-leb, leb-true}
use Rattle.std.proofs.lemmas.Bool.Decides.{nat_tests}
use Rattle.plain_world.specs.declared.world.Point.{Point}
use Rattle.plain_world.specs.declared.world.Square.{Square}
use Rattle.plain_shapes.specs.declared.shapes.Geometry.{Geometry}
use Rattle.plain_shapes.specs.Features.{Feature}
use Rattle.plain_shapes.specs.Reach.{all_points, margin_of, InReach, Reaches, feature_reaches}
use Rattle.geo_model.specs.Bounds.{bounds_of}
use Rattle.geo_model.specs.Shapes.{parts_of, IsShape}
use Rattle.expiry_lists.specs.Boxes.{InWide}
use Rattle.expiry_lists.proofs.BoxLaws.{holds_at, holds_from}
use Rattle.reach_box.proofs.Edges.{west_edge, north_edge, east_edge, south_edge, box_points, box_sound}

lt_le : (a n : ℕ) → nat_lt a (n + 1) ≡ nat_le a n
lt_le a n = grind (arith, nat_tests)

module _ (g : Geometry) (shape : IsShape g) where
  west_place : (n : ℕ) → nat_le (bounds_of (parts_of g)).west n ≡ list_any (λ q. nat_le q.x n) (all_points g)
  west_place n = sym (lt_le (bounds_of (parts_of g)).west n) ∙ (west_edge g shape (n + 1) ∙ ap (λ t. list_any t (all_points g)) (λ i q. lt_le q.x n i))

  north_place : (n : ℕ) → nat_le (bounds_of (parts_of g)).north n ≡ list_any (λ q. nat_le q.y n) (all_points g)
  north_place n = sym (lt_le (bounds_of (parts_of g)).north n) ∙ (north_edge g shape (n + 1) ∙ ap (λ t. list_any t (all_points g)) (λ i q. lt_le q.y n i))

  in_reach : (m : ℕ) (p : Point) → InWide (bounds_of (parts_of g)) m p → InReach (all_points g) m p
  in_reach m p w = record {
    from_west = sym (west_place (p.x + m)) ∙ le-leb _ _ w.from_west;
    to_east = sym (east_edge g shape p.x m) ∙ le-leb _ _ w.to_east;
    from_north = sym (north_place (p.y + m)) ∙ le-leb _ _ w.from_north;
    to_south = sym (south_edge g shape p.y m) ∙ le-leb _ _ w.to_south;
  }

  in_wide : (m : ℕ) (p : Point) → InReach (all_points g) m p → InWide (bounds_of (parts_of g)) m p
  in_wide m p r = record {
    from_west = leb-true _ _ (west_place (p.x + m) ∙ r.from_west);
    to_east = leb-true _ _ (east_edge g shape p.x m ∙ r.to_east);
    from_north = leb-true _ _ (north_place (p.y + m) ∙ r.from_north);
    to_south = leb-true _ _ (south_edge g shape p.y m ∙ r.to_south);
  }

-- a feature whose shape is one reaches a square, by the test on edges, where some point of the square lies in its reach
pub by_points : (f : Feature) (size z : ℕ) (s : Square) → IsShape f.geometry → IsTrue (feature_reaches f size z s) ↔ Reaches f size z s
by_points f size z s shape = (
  λ h. let p = holds_at (bounds_of (parts_of f.geometry)) (margin_of size z) s (box_sound f.geometry shape).across (box_sound f.geometry shape).down (box_points f.geometry shape size z s ∙ h) in (p.0, in_reach f.geometry shape (margin_of size z) p.0 p.1, p.2),
  λ r. sym (box_points f.geometry shape size z s) ∙ holds_from (bounds_of (parts_of f.geometry)) (margin_of size z) s (r.0, in_wide f.geometry shape (margin_of size z) r.0 r.1, r.2),
)
