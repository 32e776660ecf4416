-- The clean entries, in the order of their keys.
use Rattle.std.proofs.Common.{◌≡◌, ℕ, zero, suc, ◌+◌, ◌<◌, Bool, true, false, ◌&&◌, ◌||◌, cond, ◌==◌, nat_lt, List, [], ◌∷◌, ◌++◌, length, take, get_or, map, Option, Some, None, option_map, IsPermutation, All, if◌then◌else◌, Ordering, Less, Equal, Greater, is_lt, nat_cmp, refl, sym, ap, ap₂, ◌∙◌, arith, add-one}
use Rattle.std.specs.Prelude.{slice_get}
use Rattle.std.specs.List.{AllByRecursion, IsDistinct, list_all, cons_option}
use Rattle.std.specs.Map.{keys_of}
use Rattle.std.specs.Ordering.{ordering_then}
use Rattle.std.proofs.lemmas.Bool.{and_from, and_parts}
use Rattle.std.proofs.lemmas.Bool.Decides.{nat_tests}
use Rattle.std.proofs.lemmas.List.Elements.{All-head, All-tail, All-from_recursion}
use Rattle.std.proofs.lemmas.List.Sorted.{All-permutation, IsPermutation-sym, IsPermutation-map}
use Rattle.std.proofs.lemmas.Map.Keys.{IsDistinct-IsPermutation}
use Rattle.farm_history.proofs.Resumed.{key_before-then}
use Rattle.farm_history.specs.declared.keys.Key.{Key}
use Rattle.farm_history.specs.declared.keys.Mark.{Mark}
use Rattle.farm_history.specs.declared.keys.Kept.{Kept}
use Rattle.farm_history.specs.Plans.{same_key}
use Rattle.farm_history.specs.Replays.{key_before, are_rising, kept_of, kept_version}
use Rattle.farm_history.specs.Lists.{Each}
use Rattle.farm_history.proofs.Lists.{each-find, find-passes, same_key-true, same_key-self, same_key-sym}
use Rattle.expiry_lists.specs.Marks.{mark_of, clean_version}
use Rattle.expiry_lists.specs.inner.Nodes.{Node, node_of, node_mark, shown_of}
use Rattle.expiry_lists.specs.inner.Keeping.{kept_at, kept_list}
use Rattle.expiry_lists.proofs.Finding.{Distinct, absent, mark_found}

abbrev pub kept_keys : List Kept → List Key
kept_keys xs = map (λ x. x.key) xs

-- The version that is kept of a key is that of its clean mark.
no_version : (o : Option Kept) → option_map kept_version o ≡ None → o ≡ None
no_version None is = refl
no_version (Some x) is = cc

found_first : (k key : Key) (mark : Option Mark) (rest : List Kept) → (same_key key k ≡ true → kept_of rest k ≡ None) →
    option_map kept_version (kept_of (cons_option (kept_at key mark) rest) k) ≡ cond (same_key key k) (clean_version mark) (option_map kept_version (kept_of rest k))
found_first k key None rest none = go (same_key key k) refl
  where
    go : (b : Bool) → same_key key k ≡ b → option_map kept_version (kept_of rest k) ≡ cond b None (option_map kept_version (kept_of rest k))
    go true same = ap (option_map kept_version) (none same)
    go false other = refl
found_first k key (Some m) rest none = go m.clean
  where
    here : (b : Bool) → option_map kept_version (cond b (Some (record { key = key; version = m.version })) (kept_of rest k)) ≡ cond b (Some m.version) (option_map kept_version (kept_of rest k))
    here true = refl
    here false = refl

    dirty : (b : Bool) → same_key key k ≡ b → option_map kept_version (kept_of rest k) ≡ cond b None (option_map kept_version (kept_of rest k))
    dirty true same = ap (option_map kept_version) (none same)
    dirty false other = refl

    go : (c : Bool) → option_map kept_version (kept_of (cons_option (if c then Some (record { key = key; version = m.version }) else None) rest) k)
        ≡ cond (same_key key k) (if c then Some m.version else None) (option_map kept_version (kept_of rest k))
    go true = here (same_key key k)
    go false = dirty (same_key key k) refl

by_node : (es : List (Key × Node)) → Distinct es → (k : Key) → option_map kept_version (kept_of (kept_list es) k) ≡ clean_version (node_mark (node_of es k))
unfolding IsDistinct
by_node [] apart k = refl
by_node (e ∷ es) apart k = found_first k e.0 e.1.mark (kept_list es) (none (by_node es apart.1 k)) ∙ go (same_key k e.0) (same_key-sym e.0 k) (by_node es apart.1 k)
  where
    none : option_map kept_version (kept_of (kept_list es) k) ≡ clean_version (node_mark (node_of es k)) → same_key e.0 k ≡ true → kept_of (kept_list es) k ≡ None
    none rest same =
        let own : e.0 ≡ k = same_key-true e.0 k same in
        let gone : node_of es k ≡ None = ap (node_of es) (sym own) ∙ absent e.0 es apart.0 in
        no_version (kept_of (kept_list es) k) (rest ∙ ap (λ o. clean_version (node_mark o)) gone)

    go : (b : Bool) → same_key e.0 k ≡ b → option_map kept_version (kept_of (kept_list es) k) ≡ clean_version (node_mark (node_of es k)) →
        cond (same_key e.0 k) (clean_version e.1.mark) (option_map kept_version (kept_of (kept_list es) k)) ≡ clean_version (node_mark (cond b (Some e.1) (node_of es k)))
    go true is rest = rw is refl
    go false is rest = rw is rest

pub kept_found : (es : List (Key × Node)) → Distinct es → (k : Key) → option_map kept_version (kept_of (kept_list es) k) ≡ clean_version (mark_of (shown_of es) k)
kept_found es apart k = by_node es apart k ∙ ap clean_version (sym (mark_found es apart k))

-- The keys that are kept are apart.
others_apart : (k : Key) (es : List (Key × Node)) → AllByRecursion (λ y. same_key k y ≡ false) (keys_of es) → AllByRecursion (λ y. same_key k y ≡ false) (kept_keys (kept_list es))
others_apart k [] none = tt
others_apart k (e ∷ es) none = go e.1.mark (others_apart k es none.1)
  where
    one : (m : Mark) (c : Bool) → AllByRecursion (λ y. same_key k y ≡ false) (kept_keys (kept_list es)) → AllByRecursion (λ y. same_key k y ≡ false) (kept_keys (cons_option (if c then Some (record { key = e.0; version = m.version }) else None) (kept_list es)))
    one m true rest = (none.0, rest)
    one m false rest = rest

    go : (o : Option Mark) → AllByRecursion (λ y. same_key k y ≡ false) (kept_keys (kept_list es)) → AllByRecursion (λ y. same_key k y ≡ false) (kept_keys (cons_option (kept_at e.0 o) (kept_list es)))
    go None rest = rest
    go (Some m) rest = one m m.clean rest

pub kept_apart : (es : List (Key × Node)) → Distinct es → IsDistinct same_key (kept_keys (kept_list es))
unfolding IsDistinct
kept_apart [] apart = tt
kept_apart (e ∷ es) apart = go e.1.mark (kept_apart es apart.1)
  where
    one : (m : Mark) (c : Bool) → IsDistinct same_key (kept_keys (kept_list es)) → IsDistinct same_key (kept_keys (cons_option (if c then Some (record { key = e.0; version = m.version }) else None) (kept_list es)))
    one m true rest = (others_apart e.0 es apart.0, rest)
    one m false rest = rest

    go : (o : Option Mark) → IsDistinct same_key (kept_keys (kept_list es)) → IsDistinct same_key (kept_keys (cons_option (kept_at e.0 o) (kept_list es)))
    go None rest = rest
    go (Some m) rest = one m m.clean rest

-- Of lists with the same elements, whose keys are apart, the same is kept of each key.
later_found : (x : Kept) (xs ys : List Kept) → AllByRecursion (λ y. same_key x.key y ≡ false) (kept_keys ys) → AllByRecursion (λ y. kept_of xs y.key ≡ Some y) ys → AllByRecursion (λ y. kept_of (x ∷ xs) y.key ≡ Some y) ys
later_found x xs [] apart found = tt
later_found x xs (y ∷ ys) apart found = (rw apart.0 found.0, later_found x xs ys apart.1 found.1)

own_found : (xs : List Kept) → IsDistinct same_key (kept_keys xs) → AllByRecursion (λ y. kept_of xs y.key ≡ Some y) xs
unfolding IsDistinct
own_found [] apart = tt
own_found (x ∷ xs) apart = (rw (same_key-self x.key) refl, later_found x xs xs apart.0 (own_found xs apart.1))

each_of_all : {X : Type 0} (P : X → Type 0) (xs : List X) → All P xs → Each P xs
each_of_all P [] all = tt
each_of_all P (x ∷ xs) all = (All-head P x xs all, each_of_all P xs (All-tail P x xs all))

found_across : (xs ys : List Kept) → IsDistinct same_key (kept_keys xs) → IsPermutation xs ys → (k : Key) (y : Kept) → kept_of ys k ≡ Some y → kept_of xs k ≡ Some y
found_across xs ys apart moved k y is =
    let all : All (λ x. kept_of xs x.key ≡ Some x) ys = All-permutation (λ x. kept_of xs x.key ≡ Some x) xs ys moved (All-from_recursion (λ x. kept_of xs x.key ≡ Some x) xs (own_found xs apart)) in
    let here : kept_of xs y.key ≡ Some y = each-find (λ x. kept_of xs x.key ≡ Some x) (λ x. same_key x.key k) ys y (each_of_all _ ys all) is in
    let own : y.key ≡ k = same_key-true y.key k (find-passes (λ x. same_key x.key k) ys y is) in
    sym (ap (kept_of xs) own) ∙ here

same_found : (o p : Option Kept) → ((y : Kept) → o ≡ Some y → p ≡ Some y) → ((y : Kept) → p ≡ Some y → o ≡ Some y) → o ≡ p
same_found None None there back = refl
same_found (Some x) p there back = sym (there x refl)
same_found None (Some y) there back = back y refl

pub kept_moved : (xs ys : List Kept) → IsDistinct same_key (kept_keys xs) → IsPermutation xs ys → (k : Key) → kept_of ys k ≡ kept_of xs k
kept_moved xs ys apart moved k =
    let also : IsDistinct same_key (kept_keys ys) = IsDistinct-IsPermutation same_key same_key-sym (kept_keys xs) (kept_keys ys) (IsPermutation-map (λ x. x.key) xs ys moved) apart in
    same_found (kept_of ys k) (kept_of xs k) (λ y is. found_across xs ys apart moved k y is) (λ y is. found_across ys xs also (IsPermutation-sym xs ys moved) k y is)

pub moved_apart : (xs ys : List Kept) → IsDistinct same_key (kept_keys xs) → IsPermutation xs ys → IsDistinct same_key (kept_keys ys)
moved_apart xs ys apart moved = IsDistinct-IsPermutation same_key same_key-sym (kept_keys xs) (kept_keys ys) (IsPermutation-map (λ x. x.key) xs ys moved) apart

-- An order by one number and then another.
lex_total : (a b : ℕ) (t u same : Bool) → (u ≡ false → same ≡ false → t ≡ true) → (nat_lt b a || ((b == a) && u)) ≡ false → ((a == b) && same) ≡ false → (nat_lt a b || ((a == b) && t)) ≡ true
lex_total a b t u same rest other apart = grind (arith, nat_tests, rest)

last_total : (a b : ℕ) → nat_lt b a ≡ false → (a == b) ≡ false → nat_lt a b ≡ true
last_total a b other apart = grind (arith, nat_tests)

key_before-total : (a b : Key) → key_before b a ≡ false → same_key a b ≡ false → key_before a b ≡ true
key_before-total a b =
    lex_total a.map b.map _ _ _
    (lex_total a.meta.z b.meta.z _ _ _ (lex_total a.meta.x b.meta.x _ _ _ (last_total a.meta.y b.meta.y)))

-- A list that rises from each to the next rises.
pub Climbs : List Kept → Type 0
Climbs [] = Unit {0}
Climbs (x ∷ []) = Unit {0}
Climbs (x ∷ (y ∷ ys)) = (key_before x.key y.key ≡ true) × Climbs (y ∷ ys)

all_after : (x y : Key) (ys : List Kept) → key_before x y ≡ true → list_all (λ z. key_before y z.key) ys ≡ true → list_all (λ z. key_before x z.key) ys ≡ true
all_after x y [] first all = refl
all_after x y (z ∷ zs) first all =
    let parts = and_parts (key_before y z.key) (list_all (λ w. key_before y w.key) zs) all in
    and_from _ _ (key_before-then x y z.key first parts.0) (all_after x y zs first parts.1)

rising_from : (xs : List Kept) → Climbs xs → are_rising xs ≡ true
unfolding Climbs
rising_from [] climbs = refl
rising_from (x ∷ []) climbs = refl
rising_from (x ∷ (y ∷ ys)) climbs =
    let rest : are_rising (y ∷ ys) ≡ true = rising_from (y ∷ ys) climbs.1 in
    let parts = and_parts (list_all (λ z. key_before y.key z.key) ys) (are_rising ys) rest in
    and_from _ _ (and_from _ _ climbs.0 (all_after x.key y.key ys climbs.0 parts.0)) rest

climbs_from : (xs : List Kept) → IsDistinct same_key (kept_keys xs) → ((k : ℕ) (d : Kept) → k + 1 < length xs → key_before (get_or xs (k + 1) d).key (get_or xs k d).key ≡ false) → Climbs xs
unfolding Climbs IsDistinct
climbs_from [] apart sorted = tt
climbs_from (x ∷ []) apart sorted = tt
climbs_from (x ∷ (y ∷ ys)) apart sorted = (
  key_before-total x.key y.key (sorted 0 x (omega arith)) apart.0.0,
  climbs_from (y ∷ ys) apart.1 (λ k d within. let h = sorted (suc k) d (omega (arith, within)) in rw add-one (rw add-one at h)),
)

pub sorted_rises : (xs : List Kept) → IsDistinct same_key (kept_keys xs) → ((k : ℕ) (d : Kept) → k + 1 < length xs → key_before (get_or xs (k + 1) d).key (get_or xs k d).key ≡ false) → are_rising xs ≡ true
sorted_rises xs apart sorted = rising_from xs (climbs_from xs apart sorted)

-- An order by one number after another is that of its comparisons.
pub before_last : (a b : ℕ) → is_lt (nat_cmp a b) ≡ nat_lt a b
before_last a b = go (nat_lt a b) (a == b)
  where
    go : (p q : Bool) → is_lt (cond p Less (cond q Equal Greater)) ≡ p
    go true q = refl
    go false true = refl
    go false false = refl

pub before_then : (a b : ℕ) (o : Ordering) (t : Bool) → is_lt o ≡ t → is_lt (ordering_then (nat_cmp a b) o) ≡ (nat_lt a b || ((a == b) && t))
before_then a b o t is = go (nat_lt a b) (a == b)
  where
    go : (p q : Bool) → is_lt (ordering_then (cond p Less (cond q Equal Greater)) o) ≡ (p || (q && t))
    go true q = refl
    go false true = is
    go false false = refl

then_then : (a b c : Ordering) → ordering_then (ordering_then a b) c ≡ ordering_then a (ordering_then b c)
then_then Less b c = refl
then_then Equal b c = refl
then_then Greater b c = refl

-- The order of keys is that of their four numbers.
pub before_key : (a b : Key) →
    is_lt (ordering_then (ordering_then (ordering_then (nat_cmp a.map b.map) (nat_cmp a.meta.z b.meta.z)) (nat_cmp a.meta.x b.meta.x)) (nat_cmp a.meta.y b.meta.y)) ≡ key_before a b
before_key a b =
    let m = nat_cmp a.map b.map in
    let z = nat_cmp a.meta.z b.meta.z in
    let x = nat_cmp a.meta.x b.meta.x in
    let y = nat_cmp a.meta.y b.meta.y in
    ap is_lt (then_then (ordering_then m z) x y ∙ then_then m z (ordering_then x y))
    ∙ before_then a.map b.map _ _ (before_then a.meta.z b.meta.z _ _ (before_then a.meta.x b.meta.x _ _ (before_last a.meta.y b.meta.y)))

-- The clean ones of one entry more.
abbrev pub kept_some : Option Kept → List Kept
kept_some None = []
kept_some (Some x) = x ∷ []

pub kept_more : (es : List (Key × Node)) (i : ℕ) (k : Key) (m : Option Mark) → slice_get es i ≡ Some (k, record { mark = m }) → kept_list (take (suc i) es) ≡ kept_list (take i es) ++ kept_some (kept_at k m)
kept_more [] i k m at = cc
kept_more (e ∷ es) zero k m at = let same : e ≡ (k, record { mark = m }) = cc in rw same (go (kept_at k m))
  where
    go : (o : Option Kept) → cons_option o [] ≡ [] ++ kept_some o
    go None = refl
    go (Some x) = refl
kept_more (e ∷ es) (suc i) k m at = go (kept_at e.0 e.1.mark) (kept_more es i k m at)
  where
    go : (o : Option Kept) → kept_list (take (suc i) es) ≡ kept_list (take i es) ++ kept_some (kept_at k m) → cons_option o (kept_list (take (suc i) es)) ≡ cons_option o (kept_list (take i es)) ++ kept_some (kept_at k m)
    go None ih = ih
    go (Some x) ih = ap (λ xs. x ∷ xs) ih

pub kept_next : (es : List (Key × Node)) (i : ℕ) (k : Key) (m : Option Mark) (before after : List Kept) (o : Option Kept) → slice_get es i ≡ Some (k, record { mark = m }) → before ≡ kept_list (take i es) → o ≡ kept_at k m → after ≡ before ++ kept_some o → after ≡ kept_list (take (i + 1) es)
kept_next es i k m before after o at was is more = more ∙ (ap₂ (λ xs p. xs ++ kept_some p) was is ∙ (sym (kept_more es i k m at) ∙ ap (λ n. kept_list (take n es)) (sym (add-one i))))
