-- A piece of a list made wider by another one that it meets.
use Rattle.std.proofs.Common.{◌≡◌, ℕ, zero, suc, ◌<◌, ◌≤◌, ◌⊎◌, Bool, true, ◌&&◌, ◌||◌, List, [], ◌∷◌, ◌++◌, length, take, drop, get_or, min, max, ap, sym, ◌∙◌, inl, inr, arith}
use Rattle.std.specs.Prelude.{nat_eq, nat_le}
use Rattle.std.specs.List.{list_any}
use Rattle.std.proofs.Math.ListN.{set}
use Rattle.std.proofs.lemmas.Bool.{cases_lt, and_parts, eqb-true, leb-true}
use Rattle.std.proofs.lemmas.List.{take_all, drop_all, append-nil}
use Rattle.std.proofs.Math.Bool.{or_assoc, or_comm}
use Rattle.tile_render.specs.declared.pieces.Piece.{Piece}
use Rattle.tile_render.specs.inner.Pieces.{row_of, start_of, has}
use Rattle.tile_render.proofs.Joining.{merged_has}

or_put : (a b c : Bool) → ((a || b) || c) ≡ ((a || c) || b)
or_put a b c = grind arith

abbrev pub both_of : Piece → Piece → Piece
both_of p q = record { place = min p.place q.place; end = max p.end q.end }

module _ (p q : Piece) (met : (nat_eq (row_of p) (row_of q) && (nat_le (start_of p) q.end && nat_le (start_of q) p.end)) ≡ true) where
  parts : (nat_eq (row_of p) (row_of q) ≡ true) × ((nat_le (start_of p) q.end && nat_le (start_of q) p.end) ≡ true)
  parts = and_parts _ _ met

  row : row_of p ≡ row_of q
  row = eqb-true (row_of p) (row_of q) parts.0

  left : start_of p ≤ q.end
  left = leb-true (start_of p) q.end (and_parts _ _ parts.1).0

  right : start_of q ≤ p.end
  right = leb-true (start_of q) p.end (and_parts _ _ parts.1).1

  pub both_has : (j i : ℕ) → has j i (both_of p q) ≡ (has j i p || has j i q)
  both_has j i = elim (cases_lt q.place p.place) [
    | inl lt ↦ (
        let first : min p.place q.place ≡ q.place = omega (arith, lt) in
        let from : start_of q ≤ start_of p = omega (arith, lt, row) in
        ap (λ n. has j i (record { place = n; end = max p.end q.end })) first
        ∙ (merged_has j i q p (max p.end q.end) row from left (omega arith) (omega arith) (turned (max_either p.end q.end)) ∙ or_comm (has j i q) (has j i p)))
    | inr ge ↦ (
        let first : min p.place q.place ≡ p.place = omega (arith, ge) in
        let from : start_of p ≤ start_of q = omega (arith, ge, row) in
        ap (λ n. has j i (record { place = n; end = max p.end q.end })) first
        ∙ merged_has j i p q (max p.end q.end) (sym row) from right (omega arith) (omega arith) (max_either p.end q.end))
  ]
    where
      max_either : (m n : ℕ) → (max m n ≡ m) ⊎ (max m n ≡ n)
      max_either m n = elim (cases_lt m n) [ inl lt ↦ inr (omega (arith, lt)) | inr ge ↦ inl (omega (arith, ge)) ]

      turned : {X Y : Type 0} → X ⊎ Y → Y ⊎ X
      turned (inl x) = inr x
      turned (inr y) = inl y

-- one element of a list put in place of another, which passes where that one or something else does
pub set_any : {X : Type 0} (test : X → Bool) (xs : List X) (k : ℕ) (x y : X) (more : Bool) → k < length xs → x ≡ get_or xs k x → test y ≡ (test x || more) → list_any test (set xs k y) ≡ (list_any test xs || more)
set_any test [] k x y more within is put = absurd (omega (arith, within))
set_any test (z ∷ xs) zero x y more within is put = ap (λ t. t || list_any test xs) put ∙ (ap (λ u. (test u || more) || list_any test xs) is ∙ or_put (test z) more (list_any test xs))
set_any test (z ∷ xs) (suc k) x y more within is put = ap (λ t. test z || t) (set_any test xs k x y more (omega (arith, within)) is put) ∙ sym (or_assoc (test z) (list_any test xs) more)

-- a list's elements after a slice of all of them was changed in place
pub lent_back : {X : Type 0} (new old : List X) (n : ℕ) → length new ≡ length old → n ≡ length old → take n (new ++ drop (length new) old) ≡ new
lent_back new old n same count =
    ap (λ xs. take n (new ++ xs)) (drop_all (length new) old (omega arith)) ∙ ap (take n) (append-nil new) ∙ take_all n new (omega arith)
