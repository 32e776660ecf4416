-- A change step by step: each removal and each put, one after another, gives what the definition says of the whole change.
use Rattle.std.proofs.Common.{◌≡◌, ℕ, suc, ◌+◌, ◌<◌, ◌≤◌, List, [], ◌∷◌, ◌++◌, length, get_or, drop, drop-cons, add-one, refl, sym, ap, append_assoc, length-append, arith}
use Rattle.std.specs.Prelude.{Bool, true, false, ◌||◌, not, cond, nat_eq, filter, Some, None}
use Rattle.std.proofs.lemmas.Bool.{eqb-true, lt-ltb}
use Rattle.std.proofs.lemmas.Bool.Decides.{nat_tests}
use Rattle.std.proofs.lemmas.List.{length-map, map-append, drop_all}
use Rattle.std.proofs.lemmas.List.Folds.{list_any-append}
use Rattle.plain_shapes.specs.Features.{Feature}
use Rattle.plain_shapes.specs.Data.{has_id, ids_of, without_ids, last_put, puts_in_place, put_features, with_puts, first_missing, is_too_many}
use Rattle.geo_model.proofs.Boxes.{no_left, no_right}
use Rattle.data_versions.specs.inner.Slots.{without, replaced_by, with_put}

flip : (a b : ℕ) → nat_eq a b ≡ nat_eq b a
flip a b = grind (arith, nat_tests)

-- ---- removals

kept_step : (b : Bool) (ids : List ℕ) (f : Feature) (xs ys : List Feature) → xs ≡ without_ids ids ys
    → cond (not (b || has_id ids f.id)) (f ∷ xs) xs ≡ without_ids ids (cond (not b) (f ∷ ys) ys)
kept_step true ids f xs ys e = e
kept_step false ids f xs ys e = ap (λ zs. cond (not (has_id ids f.id)) (f ∷ zs) zs) e

-- the first of the removed ids is taken out first
pub kept_cons : (id : ℕ) (ids : List ℕ) (features : List Feature) → without_ids (id ∷ ids) features ≡ without_ids ids (without id features)
kept_cons id ids [] = refl
kept_cons id ids (f ∷ features) =
    rw (flip f.id id) (kept_step (nat_eq id f.id) ids f (without_ids (id ∷ ids) features) (without id features) (kept_cons id ids features))

pub kept_nil : (features : List Feature) → without_ids [] features ≡ features
kept_nil [] = refl
kept_nil (f ∷ features) = ap (λ fs. f ∷ fs) (kept_nil features)

ids_step : (b : Bool) (f : Feature) (xs : List Feature) (ys : List ℕ) → ids_of xs ≡ ys
    → ids_of (cond (not b) (f ∷ xs) xs) ≡ cond (not b) (f.id ∷ ys) ys
ids_step true f xs ys e = e
ids_step false f xs ys e = ap (λ zs. f.id ∷ zs) e

pub ids_without : (id : ℕ) (features : List Feature) → ids_of (without id features) ≡ filter (λ k. not (nat_eq id k)) (ids_of features)
ids_without id [] = refl
ids_without id (f ∷ features) = ids_step (nat_eq id f.id) f (without id features) (filter (λ k. not (nat_eq id k)) (ids_of features)) (ids_without id features)

-- a removal that finds its id goes on with the ids that are left; one that does not is the first that misses
pub missing_later : (id : ℕ) (ids : List ℕ) (features : List Feature) → has_id (ids_of features) id ≡ true
    → first_missing (ids_of features) (id ∷ ids) ≡ first_missing (ids_of (without id features)) ids
missing_later id ids features held = rw (held, ids_without id features) refl

pub missing_here : (id : ℕ) (ids : List ℕ) (features : List Feature) → has_id (ids_of features) id ≡ false
    → first_missing (ids_of features) (id ∷ ids) ≡ Some id
missing_here id ids features absent = rw absent refl

-- ---- puts

put_step : (b : Bool) (f g : Feature) (later : List Feature) → nat_eq f.id g.id ≡ b
    → cond b (last_put later g.id f) (last_put later g.id g) ≡ last_put later (cond b f g).id (cond b f g)
put_step true f g later e = ap (λ (k : ℕ). last_put later k f) (sym (eqb-true f.id g.id e))
put_step false f g later e = refl

-- the first put is done first: it replaces in place
replaced_cons : (f : Feature) (later features : List Feature) → puts_in_place (f ∷ later) features ≡ puts_in_place later (replaced_by f features)
replaced_cons f later [] = refl
replaced_cons f later (g ∷ features) =
    let first : last_put (f ∷ later) g.id g ≡ last_put later (cond (nat_eq f.id g.id) f g).id (cond (nat_eq f.id g.id) f g) = put_step (nat_eq f.id g.id) f g later refl in
    rw first (ap (λ fs. last_put later (cond (nat_eq f.id g.id) f g).id (cond (nat_eq f.id g.id) f g) ∷ fs) (replaced_cons f later features))

id_step : (b : Bool) (f g : Feature) → nat_eq f.id g.id ≡ b → (cond b f g).id ≡ g.id
id_step true f g e = eqb-true f.id g.id e
id_step false f g e = refl

same_ids : (f : Feature) (features : List Feature) → ids_of (replaced_by f features) ≡ ids_of features
same_ids f [] = refl
same_ids f (g ∷ features) = rw (id_step (nat_eq f.id g.id) f g refl) (ap (λ ids. g.id ∷ ids) (same_ids f features))

-- where no feature has the id, its put replaces none
unreplaced : (f : Feature) (features : List Feature) → has_id (ids_of features) f.id ≡ false → replaced_by f features ≡ features
unreplaced f [] fresh = refl
unreplaced f (g ∷ features) fresh =
    rw (no_left (nat_eq f.id g.id) (has_id (ids_of features) f.id) fresh) (ap (λ fs. g ∷ fs) (unreplaced f features (no_right (nat_eq f.id g.id) (has_id (ids_of features) f.id) fresh)))

choose_same : (b c : Bool) (x : Feature) (ps qs rs ss : List Feature) → b ≡ c → ps ≡ rs → qs ≡ ss → cond b ps (x ∷ qs) ≡ cond c rs (x ∷ ss)
choose_same b c x ps qs rs ss e p q = rw (e, p, q) refl

-- what is added depends on which ids are held, and not on their order
added_same : (puts : List Feature) (a b : List ℕ) → ((k : ℕ) → has_id a k ≡ has_id b k) → put_features a puts ≡ put_features b puts
added_same [] a b same = refl
added_same (f ∷ later) a b same =
    choose_same (has_id a f.id) (has_id b f.id) (last_put later f.id f) (put_features a later) (put_features (f.id ∷ a) later) (put_features b later) (put_features (f.id ∷ b) later)
    (same f.id) (added_same later a b same) (added_same later (f.id ∷ a) (f.id ∷ b) (λ k. ap (λ x. nat_eq k f.id || x) (same k)))

or_swapped : (a b : Bool) → (a || b) ≡ (b || (a || false))
or_swapped true true = refl
or_swapped true false = refl
or_swapped false true = refl
or_swapped false false = refl

pushed_id : (features : List Feature) (f : Feature) (k : ℕ) → has_id (f.id ∷ ids_of features) k ≡ has_id (ids_of (features ++ f ∷ [])) k
pushed_id features f k =
    rw (map-append (λ (g : Feature). g.id) features (f ∷ []), list_any-append (nat_eq k) (ids_of features) (f.id ∷ []))
    (or_swapped (nat_eq k f.id) (has_id (ids_of features) k))

known_puts : (f : Feature) (later features : List Feature) → has_id (ids_of features) f.id ≡ true
    → with_puts (f ∷ later) features ≡ with_puts later (replaced_by f features)
known_puts f later features known = rw (known, replaced_cons f later features, same_ids f features) refl

new_puts : (f : Feature) (later features : List Feature) → has_id (ids_of features) f.id ≡ false
    → with_puts (f ∷ later) features ≡ with_puts later (features ++ f ∷ [])
new_puts f later features fresh =
    rw (fresh, replaced_cons f later features, unreplaced f features fresh, map-append (λ (g : Feature). last_put later g.id g) features (f ∷ []), append_assoc)
    (ap (λ (rest : List Feature). puts_in_place later features ++ (last_put later f.id f ∷ rest))
    (added_same later (f.id ∷ ids_of features) (ids_of (features ++ f ∷ [])) (pushed_id features f)))

by_known : (b : Bool) (f : Feature) (later features : List Feature) → has_id (ids_of features) f.id ≡ b
    → with_puts (f ∷ later) features ≡ with_puts later (cond b (replaced_by f features) (features ++ f ∷ []))
by_known true f later features e = known_puts f later features e
by_known false f later features e = new_puts f later features e

-- the first put is done first
pub puts_cons : (f : Feature) (later features : List Feature) → with_puts (f ∷ later) features ≡ with_puts later (with_put f features)
puts_cons f later features = by_known (has_id (ids_of features) f.id) f later features refl

pub puts_nil : (features : List Feature) → with_puts [] features ≡ features
puts_nil [] = refl
puts_nil (f ∷ features) = ap (λ fs. f ∷ fs) (puts_nil features)

-- puts take no feature away
pub puts_grow : (puts features : List Feature) → length features ≤ length (with_puts puts features)
puts_grow puts features =
    let same : length (puts_in_place puts features) ≡ length features = simp length-map in
    omega (arith, length-append (puts_in_place puts features) (put_features (ids_of features) puts))

-- ---- the same at a place of the list, as a loop goes

pub kept_more : (ids : List ℕ) (i : ℕ) (features next : List Feature) → i < length ids → next ≡ without (get_or ids i 0) features
    → without_ids (drop (i + 1) ids) next ≡ without_ids (drop i ids) features
kept_more ids i features next small e = rw (e, add-one i, drop-cons ids i 0 small) (sym (kept_cons (get_or ids i 0) (drop (suc i) ids) features))

pub missing_more : (ids : List ℕ) (i : ℕ) (features next : List Feature) → i < length ids → has_id (ids_of features) (get_or ids i 0) ≡ true
    → next ≡ without (get_or ids i 0) features → first_missing (ids_of next) (drop (i + 1) ids) ≡ first_missing (ids_of features) (drop i ids)
missing_more ids i features next small held e =
    rw (e, add-one i, drop-cons ids i 0 small) (sym (missing_later (get_or ids i 0) (drop (suc i) ids) features held))

pub missing_now : (ids : List ℕ) (i : ℕ) (features : List Feature) → i < length ids → has_id (ids_of features) (get_or ids i 0) ≡ false
    → first_missing (ids_of features) (drop i ids) ≡ Some (get_or ids i 0)
missing_now ids i features small absent = rw (drop-cons ids i 0 small) (missing_here (get_or ids i 0) (drop (suc i) ids) features absent)

pub kept_end : (ids : List ℕ) (i : ℕ) (features : List Feature) → length ids ≤ i → without_ids (drop i ids) features ≡ features
kept_end ids i features past = rw (drop_all i ids past) (kept_nil features)

pub missing_end : (ids : List ℕ) (i : ℕ) (features : List Feature) → length ids ≤ i → first_missing (ids_of features) (drop i ids) ≡ None
missing_end ids i features past = rw (drop_all i ids past) refl

pub puts_more : (puts : List Feature) (i : ℕ) (f : Feature) (features next : List Feature) → i < length puts → f ≡ get_or puts i f
    → next ≡ with_put f features → with_puts (drop (i + 1) puts) next ≡ with_puts (drop i puts) features
puts_more puts i f features next small at e =
    rw (e, add-one i, drop-cons puts i f small, ← at) (sym (puts_cons f (drop (suc i) puts) features))

pub puts_end : (puts : List Feature) (i : ℕ) (features : List Feature) → length puts ≤ i → with_puts (drop i puts) features ≡ features
puts_end puts i features past = rw (drop_all i puts past) (puts_nil features)

-- a put of a new id passes the limit of a full layer
pub puts_full : (puts : List Feature) (i : ℕ) (f : Feature) (features : List Feature) → i < length puts → f ≡ get_or puts i f
    → has_id (ids_of features) f.id ≡ false → 1000000 ≤ length features → is_too_many (with_puts (drop i puts) features) ≡ true
puts_full puts i f features small at fresh full =
    let next : with_put f features ≡ features ++ f ∷ [] = rw fresh refl in
    let same : with_puts (drop (i + 1) puts) (features ++ f ∷ []) ≡ with_puts (drop i puts) features = puts_more puts i f features (features ++ f ∷ []) small at (sym next) in
    let longer : length (features ++ f ∷ []) ≤ length (with_puts (drop i puts) features) = rw same at (puts_grow (drop (i + 1) puts) (features ++ f ∷ [])) in
    lt-ltb 1000000 (length (with_puts (drop i puts) features)) (omega (arith, length-append features (f ∷ [])))
