-- Two squares meet exactly where one is the other or its ancestor.
use Rattle.std.proofs.Common.{◌≡◌, ℕ, ◌+◌, ◌-◌, ◌/◌, ◌^◌, ◌≤◌, true, sym, ◌∙◌, arith, ◌⊎◌, inl, inr, ◌↔◌}
use Rattle.std.specs.Prelude.{◌==◌}
use Rattle.std.proofs.lemmas.Bool.{and_from, and_parts}
use Rattle.std.proofs.lemmas.Bool.Decides.{nat_tests}
use Rattle.plain_world.specs.declared.world.Square.{Square}
use Rattle.plain_world.specs.World.{squares_meet}
use Rattle.plain_world.proofs.Squares.{ancestor, squares_turned}
use Rattle.plain_world.specs.Ancestors.{IsOver}

same_from : (a b : ℕ) → a ≡ b → (a == b) ≡ true
same_from a b e = grind (arith, nat_tests)

same_is : (a b : ℕ) → (a == b) ≡ true → a ≡ b
same_is a b e = grind (arith, nat_tests)

-- what is over a square meets it
over_meets : (a b : Square) → b.z ≤ 18 → IsOver a b → squares_meet a b ≡ true
over_meets a b h (d, z, x, y) =
    sym (ancestor a b d z h) ∙ and_from (b.x / 2 ^ d == a.x) (b.y / 2 ^ d == a.y) (same_from (b.x / 2 ^ d) a.x x) (same_from (b.y / 2 ^ d) a.y y)

-- of two squares that meet, the one of the earlier zoom is over the other
meets_over : (a b : Square) → a.z ≤ b.z → b.z ≤ 18 → squares_meet a b ≡ true → IsOver a b
meets_over a b l h e =
    let d : ℕ = b.z - a.z in
    let z : b.z ≡ a.z + d = omega arith in
    let both = and_parts (b.x / 2 ^ d == a.x) (b.y / 2 ^ d == a.y) (ancestor a b d z h ∙ e) in
    (d, z, same_is (b.x / 2 ^ d) a.x both.0, same_is (b.y / 2 ^ d) a.y both.1)

pub either_meets : (a b : Square) → a.z ≤ 18 → b.z ≤ 18 → (IsOver a b ⊎ IsOver b a) → squares_meet a b ≡ true
either_meets a b g h (inl over) = over_meets a b h over
either_meets a b g h (inr over) = squares_turned a b ∙ over_meets b a g over

pub meet_over : (a b : Square) → a.z ≤ 18 → b.z ≤ 18 → a.z ≤ b.z → (squares_meet a b ≡ true) ↔ (IsOver a b ⊎ IsOver b a)
meet_over a b g h l = (λ e. inl (meets_over a b l h e), either_meets a b g h)

pub meet_under : (a b : Square) → a.z ≤ 18 → b.z ≤ 18 → b.z ≤ a.z → (squares_meet a b ≡ true) ↔ (IsOver a b ⊎ IsOver b a)
meet_under a b g h l = (λ e. inr (meets_over b a l g (squares_turned b a ∙ e)), either_meets a b g h)
