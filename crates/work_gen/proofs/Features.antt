-- The features of a layer, one after another.
use Rattle.std.proofs.Common.{◌≡◌, ℕ, zero, suc, ◌+◌, ◌%◌, ◌≤◌, List, [], ◌∷◌, ◌++◌, length, Bool, true, false, ◌||◌, eqb, refl, sym, ap, ◌∙◌, subst, add-one, arith, length-append}
use Rattle.std.specs.Prelude.{nat_eq, if◌then◌else◌}
use Rattle.std.specs.List.{IsDistinct}
use Rattle.std.specs.Cmp.{IsEquivalence}
use Rattle.std.proofs.lemmas.Bool.Decides.{nat_tests}
use Rattle.std.proofs.lemmas.List.{map-append}
use Rattle.std.proofs.lemmas.Map.Keys.{IsDistinct-push}
use Rattle.plain_shapes.specs.Features.{Feature}
use Rattle.plain_shapes.specs.Data.{has_id, ids_of}
use Rattle.work_gen.specs.Work.{feature_at, work_features}

-- one feature more
abbrev with_next : ℕ → ℕ → ℕ → Bool → List Feature
with_next seed layer n here = if here then work_features seed layer n ++ feature_at seed n ∷ [] else work_features seed layer n

features_next : (seed layer n : ℕ) → work_features seed layer (suc n) ≡ with_next seed layer n (eqb (n % 3) layer)
unfolding work_features
features_next seed layer n = refl

-- a feature of the layer goes last
pub feature_of_layer : (seed layer n : ℕ) → n % 3 ≡ layer → work_features seed layer (n + 1) ≡ work_features seed layer n ++ feature_at seed n ∷ []
feature_of_layer seed layer n e =
    let here : eqb (n % 3) layer ≡ true = grind (arith, nat_tests) in
    ap (λ (k : ℕ). work_features seed layer k) (add-one n) ∙ features_next seed layer n ∙ ap (with_next seed layer n) here

-- one of another layer is passed over
pub feature_of_other : (seed layer n : ℕ) → (n % 3 ≡ layer → ⊥) → work_features seed layer (n + 1) ≡ work_features seed layer n
feature_of_other seed layer n e =
    let away : eqb (n % 3) layer ≡ false = grind (arith, nat_tests) in
    ap (λ (k : ℕ). work_features seed layer k) (add-one n) ∙ features_next seed layer n ∙ ap (with_next seed layer n) away

pub no_feature : (seed layer : ℕ) → work_features seed layer 0 ≡ []
unfolding work_features
no_feature seed layer = refl

-- ---- their number and their ids

more_len : (seed layer n : ℕ) (here : Bool) → length (work_features seed layer n) ≤ n → length (with_next seed layer n here) ≤ suc n
more_len seed layer n true h = omega (arith, length-append (work_features seed layer n) (feature_at seed n ∷ []))
more_len seed layer n false h = omega arith

pub features_few : (seed layer n : ℕ) → length (work_features seed layer n) ≤ n
features_few seed layer zero = rw (no_feature seed layer) (omega arith)
features_few seed layer (suc n) = rw (features_next seed layer n) (more_len seed layer n (eqb (n % 3) layer) (features_few seed layer n))

id_of : (seed n : ℕ) → (feature_at seed n).id ≡ n
unfolding feature_at
id_of seed n = refl

among_more : (a b c : Bool) → (a || b) ≡ false → (b ≡ false → c ≡ false) → (a || c) ≡ false
among_more true b c h f = cc
among_more false b c h f = f h

among : (ids others : List ℕ) (id : ℕ) → has_id ids id ≡ false → has_id others id ≡ false → has_id (ids ++ others) id ≡ false
among [] others id h g = g
among (x ∷ ids) others id h g = among_more (nat_eq id x) (has_id ids id) (has_id (ids ++ others) id) h (λ e. among ids others id e g)

ids_push : (seed layer n : ℕ) → ids_of (work_features seed layer n ++ feature_at seed n ∷ []) ≡ ids_of (work_features seed layer n) ++ n ∷ []
ids_push seed layer n =
    map-append (λ (f : Feature). f.id) (work_features seed layer n) (feature_at seed n ∷ []) ∙ ap (λ (k : ℕ). ids_of (work_features seed layer n) ++ k ∷ []) (id_of seed n)

ids_more : (seed layer n m : ℕ) (here : Bool) → suc n ≤ m → has_id (ids_of (work_features seed layer n)) m ≡ false → has_id (ids_of (with_next seed layer n here)) m ≡ false
ids_more seed layer n m true h g =
    let apart : nat_eq m n ≡ false = grind (arith, nat_tests) in
    let last : has_id (n ∷ []) m ≡ false = rw apart refl in
    ap (λ (ids : List ℕ). has_id ids m) (ids_push seed layer n) ∙ among (ids_of (work_features seed layer n)) (n ∷ []) m g last
ids_more seed layer n m false h g = g

ids_below : (seed layer n m : ℕ) → n ≤ m → has_id (ids_of (work_features seed layer n)) m ≡ false
ids_below seed layer zero m h = rw (no_feature seed layer) refl
ids_below seed layer (suc n) m h = rw (features_next seed layer n) (ids_more seed layer n m (eqb (n % 3) layer) h (ids_below seed layer n m (omega arith)))

equal_ids : IsEquivalence nat_eq
equal_ids = record { refl = λ x. grind (arith, nat_tests); symm = λ x y. grind (arith, nat_tests); congr = λ x y z h. grind (arith, nat_tests) }

distinct_more : (seed layer n : ℕ) (here : Bool) → IsDistinct nat_eq (ids_of (work_features seed layer n)) → IsDistinct nat_eq (ids_of (with_next seed layer n here))
distinct_more seed layer n true h =
    subst (λ (ids : List ℕ). IsDistinct nat_eq ids) (sym (ids_push seed layer n))
    (IsDistinct-push equal_ids (ids_of (work_features seed layer n)) n h (ids_below seed layer n n (omega arith)))
distinct_more seed layer n false h = h

none_distinct : IsDistinct nat_eq []
unfolding IsDistinct
none_distinct = tt

pub features_distinct : (seed layer n : ℕ) → IsDistinct nat_eq (ids_of (work_features seed layer n))
features_distinct seed layer zero = subst (λ (fs : List Feature). IsDistinct nat_eq (ids_of fs)) (sym (no_feature seed layer)) none_distinct
features_distinct seed layer (suc n) =
    subst (λ (fs : List Feature). IsDistinct nat_eq (ids_of fs)) (sym (features_next seed layer n))
    (distinct_more seed layer n (eqb (n % 3) layer) (features_distinct seed layer n))
