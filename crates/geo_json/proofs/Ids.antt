-- The ids of the features that were read.
use Rattle.std.proofs.Common.{◌≡◌, ℕ, Bool, true, false, cond, ◌||◌, List, [], ◌∷◌, ◌++◌, refl, sym, ap, ◌∙◌, arith}
use Rattle.std.specs.Prelude.{nat_eq}
use Rattle.std.specs.BTreeSet.{BTreeSet, contains}
use Rattle.std.specs.BTreeMap.{is_at}
use Rattle.std.specs.Ordering.{nat_cmp}
use Rattle.std.proofs.lemmas.Bool.Decides.{nat_tests}
use Rattle.std.proofs.lemmas.List.{map-append}
use Rattle.std.proofs.lemmas.List.Folds.{list_any-append}
use Rattle.plain_shapes.specs.Data.{has_id, ids_of}
use Rattle.plain_shapes.specs.Features.{Feature}
use Rattle.geo_json.specs.inner.KnownIds.{KnowsIds}

pushed : (before : List Feature) (f : Feature) (q : ℕ) → has_id (ids_of (before ++ f ∷ [])) q ≡ (has_id (ids_of before) q || (nat_eq q f.id || false))
pushed before f q = rw (map-append (λ (g : Feature). g.id) before (f ∷ []), list_any-append (nat_eq q) (ids_of before) (f.id ∷ [])) refl

-- the set with one id more
pub ids_more : (old new : BTreeSet ℕ) (before : List Feature) (f : Feature) (k : ℕ) → f.id ≡ k
    → ((q : ℕ) → contains nat_cmp new q ≡ cond (is_at (nat_cmp k) q) true (contains nat_cmp old q))
    → KnowsIds old before → KnowsIds new (before ++ f ∷ [])
ids_more old new before f k e u knows q =
    u q ∙ pick (is_at (nat_cmp k) q) (contains nat_cmp old q) (has_id (ids_of before) q) (nat_eq q f.id) (knows q) (same k q ∙ sym (ap (λ n. nat_eq q n) e))
    ∙ sym (pushed before f q)
  where
    same : (k q : ℕ) → is_at (nat_cmp k) q ≡ nat_eq q k
    same k q = grind (arith, nat_tests)

    pick : (b c d e : Bool) → c ≡ d → b ≡ e → cond b true c ≡ (d || (e || false))
    pick true c true true h g = refl
    pick true c false true h g = refl
    pick true c d false h g = absurd (cc)
    pick false c true false h g = h
    pick false c false false h g = h
    pick false c d true h g = absurd (cc)
