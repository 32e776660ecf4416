-- Rectangles in parts of a box.
use Rattle.std.proofs.Common.{◌≡◌, ℕ, ◌+◌, ◌*◌, ◌/◌, ◌-◌, ◌≤◌, ◌<◌, ◌⊎◌, Bool, true, false, length, get_or, ap, sym, ◌∙◌, subst, inl, inr, arith}
use Rattle.std.specs.Prelude.{List, All, max, min, ◌&&◌, nat_le, Some, replicate}
use Rattle.std.proofs.Math.Nat.{div-mul-le_self, mul-le-mul_right}
use Rattle.std.proofs.lemmas.Nat.{le-div}
use Rattle.std.proofs.lemmas.Bool.{cases_eq, false_from_ne_true, true≢false}
use Rattle.std.proofs.lemmas.Bool.Decides.{nat_tests}
use Rattle.std.proofs.lemmas.List.{length-replicate, get_or_read, get_or-replicate}
use Rattle.attribute_marks.specs.Marks.{Shares}
use Rattle.plain_shapes.specs.Features.{Feature}
use Rattle.geo_model.specs.declared.bounds.Bounds.{Bounds}
use Rattle.geo_model.specs.Bounds.{meets, Within}
use Rattle.data_versions.specs.Near.{box_of, is_near, IsUnasked}
use Rattle.data_versions.specs.declared.extent.Extent.{Extent}
use Rattle.data_versions.specs.declared.sieve.Sieve.{Sieve}
use Rattle.data_versions.specs.declared.question.Wanted.{Wanted}
use Rattle.data_versions.specs.declared.question.Question.{Question}
use Rattle.data_versions.specs.declared.question.Question.TheVariants.{HasId, IsNear}
use Rattle.data_versions.specs.inner.Grids.{scale_of, part_of, on_grid, grid_meets}
use Rattle.data_versions.specs.inner.Extents.{IsIn}
use Rattle.data_versions.specs.inner.Sieves.{box_at, HasPoint, IsSeen, IsSieve, IsMarked, Sifts}

quotient_grows : (m n k : ℕ) → 0 < k → m ≤ n → m / k ≤ n / k
quotient_grows m n k some h = le-div (m / k) n k some (omega (arith, div-mul-le_self m k))

-- a coordinate further on lies in no earlier part
part_grows : (low high x y : ℕ) → x ≤ y → part_of low high x ≤ part_of low high y
part_grows low high x y h =
    quotient_grows ((max low (min high x) - low) * scale_of low high) ((max low (min high y) - low) * scale_of low high) 17179869184 (omega arith)
    (mul-le-mul_right (scale_of low high) (omega arith))

tested : (a b : Bounds) → meets a b ≡ true → (a.west ≤ b.east) × (b.west ≤ a.east) × (a.north ≤ b.south) × (b.north ≤ a.south)
tested a b h = (grind (arith, nat_tests), grind (arith, nat_tests), grind (arith, nat_tests), grind (arith, nat_tests))

both : (a b c d e f g h : ℕ) → a ≤ b → c ≤ d → e ≤ f → g ≤ h → (nat_le a b && nat_le c d && nat_le e f && nat_le g h) ≡ true
both a b c d e f g h p q r s = grind (arith, nat_tests)

-- rectangles that meet have a part in common
grid_met : (box a b : Bounds) → meets a b ≡ true → grid_meets (on_grid box a) (on_grid box b) ≡ true
grid_met box a b h =
    let facts = tested a b h in
    both _ _ _ _ _ _ _ _ (part_grows box.west box.east a.west b.east facts.0) (part_grows box.west box.east b.west a.east facts.1)
    (part_grows box.north box.south a.north b.south facts.2) (part_grows box.north box.south b.north a.south facts.3)

-- a feature that is seen is not near a rectangle with which its box has no part in common
pub seen_apart : (s : Sieve) (k : ℕ) (f : Feature) (around : Bounds) → IsSeen s k f → grid_meets (box_at s k) (on_grid s.grid around) ≡ false → is_near around f ≡ false
seen_apart s k f around seen apart =
    false_from_ne_true (is_near around f) (λ near. true≢false
    (sym (grid_met s.grid (box_of f) around near) ∙ ap (λ b. grid_meets b (on_grid s.grid around)) (sym seen.box) ∙ apart))

-- where no box has a part in common with a rectangle, no feature is near it
pub none_near : (s : Sieve) (features : List Feature) (around : Bounds) → IsSieve s features
    → ((k : ℕ) → k < 64 → grid_meets (box_at s k) (on_grid s.grid around) ≡ false) → All (λ f. is_near around f ≡ false) features
none_near s features around sieve apart k d small = seen_apart s k (get_or features k d) around (sieve.each k d small) (apart k (omega (arith, sieve.few)))

-- a box that has a point and lies in another one meets each one in which that lies
within_meets : (inner box around : Bounds) → HasPoint inner → Within inner box → Within box around → meets inner around ≡ true
within_meets inner box around some in_box in_around =
    both inner.west around.east around.west inner.east inner.north around.south around.north inner.south (omega (arith, some.across, in_box.east, in_around.east))
    (omega (arith, some.across, in_box.west, in_around.west)) (omega (arith, some.down, in_box.south, in_around.south))
    (omega (arith, some.down, in_box.north, in_around.north))

-- features that have points are near each rectangle in which their extent lies
pub all_within : (e : Extent) (s : Sieve) (features : List Feature) (around : Bounds) → All (IsIn e) features → IsSieve s features → s.have_points ≡ true
    → Within e.bounds around → All (λ f. is_near around f ≡ true) features
all_within e s features around ins sieve said inside k d small =
    within_meets (box_of (get_or features k d)) e.bounds around ((sieve.each k d small).point said) (ins k d small).within inside

-- ---- what is sifted

pub boxes_sift : (s : Sieve) (features : List Feature) (w : Wanted) (sifted : List Bool) → IsSieve s features → length sifted ≡ 64
    → ((k : ℕ) → k < 64 → get_or sifted k true ≡ false → grid_meets (box_at s k) (on_grid s.grid w.around) ≡ false) → IsMarked w sifted features
boxes_sift s features w sifted sieve long apart = record {
  few = sieve.few;
  long = long;
  each = λ k d small off. inl (seen_apart s k (get_or features k d) w.around (sieve.each k d small) (apart k (omega (arith, sieve.few)) off));
}

pub marks_sift : (s : Sieve) (features : List Feature) (w : Wanted) (asked : ℕ) (old new : List Bool) → IsSieve s features → w.asked ≡ Some asked → length new ≡ 64
    → ((k : ℕ) → k < 64 → get_or old k true ≡ false → grid_meets (box_at s k) (on_grid s.grid w.around) ≡ false)
    → ((k : ℕ) → k < 64 → get_or new k true ≡ false → (get_or old k true ≡ false) ⊎ (Shares (get_or s.marks k 0) asked → ⊥)) → IsMarked w new features
marks_sift s features w asked old new sieve is long apart none = record {
  few = sieve.few;
  long = long;
  each = λ k d small off. (let seen = sieve.each k d small in let within : k < 64 = omega (arith, sieve.few) in elim (none k within off) [
    | inl before ↦ inl (seen_apart s k (get_or features k d) w.around seen (apart k within before))
    | inr lacks ↦ inr (subst (λ o. IsUnasked o (get_or features k d)) (sym is) (record { marks = get_or s.marks k 0; has = seen.marks; none = lacks }))
  ]);
}

-- one feature more is seen
pub seen_more : (old new : Sieve) (features : List Feature) (k : ℕ) (f : Feature) → k < length features → f ≡ get_or features k f → IsSeen new k f
    → ((j : ℕ) (g : Feature) → j < k → IsSeen old j g → IsSeen new j g) → ((j : ℕ) (d : Feature) → j < k → IsSeen old j (get_or features j d))
    → (j : ℕ) (d : Feature) → j < k + 1 → IsSeen new j (get_or features j d)
seen_more old new features k f small at seen kept before j d below = elim (cases_eq j k) [
  | inl e ↦ subst (λ (i : ℕ). IsSeen new i (get_or features i d)) (sym e) (subst (IsSeen new k) (get_or_read features k f small at d) seen)
  | inr other ↦ kept j (get_or features j d) (omega arith) (before j d (omega arith))
]

-- where all are marked, none is passed wrongly
pub all_sift : (q : Question) (features : List Feature) → length features ≤ 64
    → Sifts q (record { may = replicate 64 true; are_near = false }) features
all_sift (HasId id) features few = tt
all_sift (IsNear w) features few = record {
  marked = record {
    few = few;
    long = length-replicate 64 true;
    each = λ k d small off. absurd (true≢false (sym (get_or-replicate 64 k true true (omega arith)) ∙ off));
  };
  near = λ said. absurd (true≢false (sym said));
}
