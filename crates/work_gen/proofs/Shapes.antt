-- The shapes of features have no fault.
use Rattle.std.proofs.Common.{◌≡◌, ℕ, ◌+◌, ◌^◌, ◌≤◌, [], ◌∷◌, ltb, false, None, refl, arith}
use Rattle.std.proofs.lemmas.Bool.Decides.{nat_tests}
use Rattle.plain_shapes.specs.declared.shapes.Geometry.TheVariants.{Points, Lines, Polygon}
use Rattle.geo_model.specs.Shapes.{shape_fault}
use Rattle.work_gen.specs.Work.{point}

inside : (n : ℕ) → n ≤ 2 ^ 30 → ltb (2 ^ 30) n ≡ false
inside n h = grind (arith, nat_tests)

pub square_sound : (x y s : ℕ) → x + s ≤ 2 ^ 30 → y + s ≤ 2 ^ 30
    → shape_fault (Polygon ((point x y ∷ point (x + s) y ∷ point (x + s) (y + s) ∷ point x (y + s) ∷ []) ∷ [])) ≡ None
square_sound x y s h g = rw (inside x (omega arith), inside y (omega arith), inside (x + s) h, inside (y + s) g) refl

pub diagonal_sound : (x y s : ℕ) → x + s ≤ 2 ^ 30 → y + s ≤ 2 ^ 30 → shape_fault (Lines ((point x y ∷ point (x + s) (y + s) ∷ []) ∷ [])) ≡ None
diagonal_sound x y s h g = rw (inside x (omega arith), inside y (omega arith), inside (x + s) h, inside (y + s) g) refl

pub point_sound : (x y : ℕ) → x ≤ 2 ^ 30 → y ≤ 2 ^ 30 → shape_fault (Points (point x y ∷ [])) ≡ None
point_sound x y h g = rw (inside x h, inside y g) refl
