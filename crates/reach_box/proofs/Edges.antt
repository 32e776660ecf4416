-- A bounding box against the points that it is of: each of its edges passes a test where some point does.
use Rattle.std.proofs.Common.{◌≡◌, ℕ, ◌+◌, ◌*◌, ◌^◌, ◌≤◌, min, max, Bool, true, false, ◌&&◌, ◌||◌, nat_lt, nat_le, List, [], ◌∷◌, ◌++◌, flat_map, fold, length, All, refl, sym, ap, ◌∙◌, append-nil, arith}
use Rattle.std.specs.List.{list_any}
use Rattle.std.proofs.lemmas.Bool.{or_left}
use Rattle.std.proofs.lemmas.Bool.Decides.{nat_tests}
use Rattle.std.proofs.lemmas.List.Elements.{All-head}
use Rattle.std.proofs.Math.Bool.{or-false}
use Rattle.farm_history.proofs.Lists.{any-append}
use Rattle.plain_world.specs.declared.world.Point.{Point}
use Rattle.plain_world.specs.declared.world.Square.{Square}
use Rattle.plain_world.specs.World.{InWorld, side_at}
use Rattle.plain_shapes.specs.declared.shapes.Geometry.{Geometry}
use Rattle.plain_shapes.specs.declared.shapes.Geometry.TheVariants.{Points, Lines, Polygon}
use Rattle.plain_shapes.specs.Reach.{all_points, margin_of, points_reach}
use Rattle.geo_model.specs.declared.bounds.Bounds.{Bounds}
use Rattle.geo_model.specs.Bounds.{box_with, no_bounds, bounds_of}
use Rattle.geo_model.specs.Shapes.{is_none, parts_of, IsShape}
use Rattle.reach_box.specs.Boxes.{IsBox, box_reaches}

regrouped : (p q r t : Bool) → ((p && q) && (r && t)) ≡ (((p && q) && r) && t)
regrouped true true r t = refl
regrouped true false r t = refl
regrouped false q r t = refl

any_or : (a b c d : Bool) → a ≡ (b || c) → (a || d) ≡ (b || (c || d))
any_or a b c d is = rw is (same b)
  where
    same : (x : Bool) → ((x || c) || d) ≡ (x || (c || d))
    same true = refl
    same false = refl

-- The four edges, over the points of one part,
lt_min : (a b e : ℕ) → nat_lt (min a b) e ≡ (nat_lt a e || nat_lt b e)
lt_min a b e = grind (arith, nat_tests)

le_max : (w a b m : ℕ) → nat_le w (max a b + m) ≡ (nat_le w (a + m) || nat_le w (b + m))
le_max w a b m = grind (arith, nat_tests)

pub west_part : (points : List Point) (b : Bounds) (e : ℕ) → nat_lt (fold box_with b points).west e ≡ (nat_lt b.west e || list_any (λ q. nat_lt q.x e) points)
west_part [] b e = sym (or-false (nat_lt b.west e))
west_part (p ∷ points) b e = west_part points (box_with b p) e ∙ any_or _ _ _ _ (lt_min b.west p.x e)

pub north_part : (points : List Point) (b : Bounds) (e : ℕ) → nat_lt (fold box_with b points).north e ≡ (nat_lt b.north e || list_any (λ q. nat_lt q.y e) points)
north_part [] b e = sym (or-false (nat_lt b.north e))
north_part (p ∷ points) b e = north_part points (box_with b p) e ∙ any_or _ _ _ _ (lt_min b.north p.y e)

pub east_part : (points : List Point) (b : Bounds) (w m : ℕ) → nat_le w ((fold box_with b points).east + m) ≡ (nat_le w (b.east + m) || list_any (λ q. nat_le w (q.x + m)) points)
east_part [] b w m = sym (or-false (nat_le w (b.east + m)))
east_part (p ∷ points) b w m = east_part points (box_with b p) w m ∙ any_or _ _ _ _ (le_max w b.east p.x m)

pub south_part : (points : List Point) (b : Bounds) (w m : ℕ) → nat_le w ((fold box_with b points).south + m) ≡ (nat_le w (b.south + m) || list_any (λ q. nat_le w (q.y + m)) points)
south_part [] b w m = sym (or-false (nat_le w (b.south + m)))
south_part (p ∷ points) b w m = south_part points (box_with b p) w m ∙ any_or _ _ _ _ (le_max w b.south p.y m)

-- and over all parts.
module _ (test : Point → Bool) (edge : Bounds → Bool) (part : (points : List Point) (b : Bounds) → edge (fold box_with b points) ≡ (edge b || list_any test points)) where
  over_parts : (parts : List (List Point)) (b : Bounds) → edge (fold (fold box_with) b parts) ≡ (edge b || list_any test (flat_map (λ l. l) parts))
  over_parts [] b = sym (or-false (edge b))
  over_parts (points ∷ parts) b =
      over_parts parts (fold box_with b points) ∙ (any_or _ _ _ _ (part points b) ∙ ap (λ t. edge b || t) (sym (any-append test points (flat_map (λ l. l) parts))))

-- the points of a shape are those of its parts
pub points_of_parts : (g : Geometry) → all_points g ≡ flat_map (λ l. l) (parts_of g)
points_of_parts (Points points) = sym (append-nil points)
points_of_parts (Lines lines) = refl
points_of_parts (Polygon rings) = refl

-- a shape has a point, which lies in the world
pub record HasPoint (points : List Point) : Type 0 where
  pub first : Point
  pub rest : List Point
  pub is : points ≡ first ∷ rest
  pub x_fits : first.x ≤ 2 ^ 30
  pub y_fits : first.y ≤ 2 ^ 30

some_point : (least : ℕ) (parts : List (List Point)) → 1 ≤ least → (is_none parts || list_any (λ part. nat_lt (length part) least) parts) ≡ false → All (All InWorld) parts → HasPoint (flat_map (λ l. l) parts)
some_point least [] some few worlds = let never : true ≡ false = few in cc
some_point least ([] ∷ parts) some few worlds = let short : nat_lt 0 least ≡ true = grind (arith, nat_tests) in let never : true ≡ false = sym (or_left _ (list_any (λ part. nat_lt (length part) least) parts) short) ∙ few in cc
some_point least ((q ∷ qs) ∷ parts) some few worlds =
    let world : InWorld q = All-head InWorld q qs (All-head (All InWorld) (q ∷ qs) parts worlds) in
    record { first = q; rest = qs ++ flat_map (λ l. l) parts; is = refl; x_fits = world.x_fits; y_fits = world.y_fits }

pub shape_point : (g : Geometry) → IsShape g → HasPoint (flat_map (λ l. l) (parts_of g))
shape_point (Points points) shape = some_point 1 (points ∷ []) (omega arith) shape.enough shape.in_world
shape_point (Lines lines) shape = some_point 2 lines (omega arith) shape.enough shape.in_world
shape_point (Polygon rings) shape = some_point 3 rings (omega arith) shape.enough shape.in_world

-- what the box of no point passes, some point passes
covered : (test : Point → Bool) (points : List Point) (edge : Bool) → (p : HasPoint points) → (edge ≡ true → test p.first ≡ true) → (edge || list_any test points) ≡ list_any test points
covered test points false p by = refl
covered test points true p by = sym (ap (list_any test) p.is ∙ or_left (test p.first) (list_any test p.rest) (by refl))

-- a box that holds a point of the world is one
sound : (b : Bounds) (x y : ℕ) → nat_lt b.west (x + 1) ≡ true → nat_lt b.north (y + 1) ≡ true → nat_le x (b.east + 0) ≡ true → nat_le y (b.south + 0) ≡ true → x ≤ 2 ^ 30 → y ≤ 2 ^ 30 → IsBox b
sound b x y w n e s fx fy = record { across = grind (arith, nat_tests); down = grind (arith, nat_tests); from_west = grind (arith, nat_tests); from_north = grind (arith, nat_tests) }

module _ (g : Geometry) (shape : IsShape g) where
  pub west_edge : (e : ℕ) → nat_lt (bounds_of (parts_of g)).west e ≡ list_any (λ q. nat_lt q.x e) (all_points g)
  west_edge e =
      let p = shape_point g shape in
      over_parts (λ q. nat_lt q.x e) (λ c. nat_lt c.west e) (λ points c. west_part points c e) (parts_of g) no_bounds
      ∙ (covered (λ q. nat_lt q.x e) (flat_map (λ l. l) (parts_of g)) (nat_lt (2 ^ 30) e) p (λ h. let few = p.x_fits in grind (arith, nat_tests)) ∙ ap (list_any (λ q. nat_lt q.x e)) (sym (points_of_parts g)))

  pub north_edge : (e : ℕ) → nat_lt (bounds_of (parts_of g)).north e ≡ list_any (λ q. nat_lt q.y e) (all_points g)
  north_edge e =
      let p = shape_point g shape in
      over_parts (λ q. nat_lt q.y e) (λ c. nat_lt c.north e) (λ points c. north_part points c e) (parts_of g) no_bounds
      ∙ (covered (λ q. nat_lt q.y e) (flat_map (λ l. l) (parts_of g)) (nat_lt (2 ^ 30) e) p (λ h. let few = p.y_fits in grind (arith, nat_tests)) ∙ ap (list_any (λ q. nat_lt q.y e)) (sym (points_of_parts g)))

  pub east_edge : (w m : ℕ) → nat_le w ((bounds_of (parts_of g)).east + m) ≡ list_any (λ q. nat_le w (q.x + m)) (all_points g)
  east_edge w m =
      let p = shape_point g shape in
      over_parts (λ q. nat_le w (q.x + m)) (λ c. nat_le w (c.east + m)) (λ points c. east_part points c w m) (parts_of g) no_bounds
      ∙ (covered (λ q. nat_le w (q.x + m)) (flat_map (λ l. l) (parts_of g)) (nat_le w (0 + m)) p (λ h. grind (arith, nat_tests)) ∙ ap (list_any (λ q. nat_le w (q.x + m))) (sym (points_of_parts g)))

  pub south_edge : (w m : ℕ) → nat_le w ((bounds_of (parts_of g)).south + m) ≡ list_any (λ q. nat_le w (q.y + m)) (all_points g)
  south_edge w m =
      let p = shape_point g shape in
      over_parts (λ q. nat_le w (q.y + m)) (λ c. nat_le w (c.south + m)) (λ points c. south_part points c w m) (parts_of g) no_bounds
      ∙ (covered (λ q. nat_le w (q.y + m)) (flat_map (λ l. l) (parts_of g)) (nat_le w (0 + m)) p (λ h. grind (arith, nat_tests)) ∙ ap (list_any (λ q. nat_le w (q.y + m))) (sym (points_of_parts g)))

  -- the test on the box is that on the points
  pub box_points : (size z : ℕ) (s : Square) → box_reaches (bounds_of (parts_of g)) size z s ≡ points_reach (all_points g) (margin_of size z) s
  box_points size z s =
      let m : ℕ = margin_of size z in
      rw (west_edge ((s.x + 1) * side_at s.z + m), east_edge (s.x * side_at s.z) m, north_edge ((s.y + 1) * side_at s.z + m), south_edge (s.y * side_at s.z) m)
      (regrouped (list_any (λ q. nat_lt q.x ((s.x + 1) * side_at s.z + m)) (all_points g)) (list_any (λ q. nat_le (s.x * side_at s.z) (q.x + m)) (all_points g))
      (list_any (λ q. nat_lt q.y ((s.y + 1) * side_at s.z + m)) (all_points g)) (list_any (λ q. nat_le (s.y * side_at s.z) (q.y + m)) (all_points g)))

  -- the box is one of points of the world
  pub box_sound : IsBox (bounds_of (parts_of g))
  box_sound =
      let p = shape_point g shape in
      let here : all_points g ≡ p.first ∷ p.rest = points_of_parts g ∙ p.is in
      let x = west_edge (p.first.x + 1) ∙ (ap (list_any (λ q. nat_lt q.x (p.first.x + 1))) here ∙ or_left (nat_lt p.first.x (p.first.x + 1)) (list_any (λ q. nat_lt q.x (p.first.x + 1)) p.rest) (grind (arith, nat_tests))) in
      let y = north_edge (p.first.y + 1) ∙ (ap (list_any (λ q. nat_lt q.y (p.first.y + 1))) here ∙ or_left (nat_lt p.first.y (p.first.y + 1)) (list_any (λ q. nat_lt q.y (p.first.y + 1)) p.rest) (grind (arith, nat_tests))) in
      let e = east_edge p.first.x 0 ∙ (ap (list_any (λ q. nat_le p.first.x (q.x + 0))) here ∙ or_left (nat_le p.first.x (p.first.x + 0)) (list_any (λ q. nat_le p.first.x (q.x + 0)) p.rest) (grind (arith, nat_tests))) in
      let f = south_edge p.first.y 0 ∙ (ap (list_any (λ q. nat_le p.first.y (q.y + 0))) here ∙ or_left (nat_le p.first.y (p.first.y + 0)) (list_any (λ q. nat_le p.first.y (q.y + 0)) p.rest) (grind (arith, nat_tests))) in
      sound (bounds_of (parts_of g)) p.first.x p.first.y x y e f p.x_fits p.y_fits
