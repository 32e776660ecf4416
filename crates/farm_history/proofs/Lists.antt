-- Keys, connections and lists of them.
use Rattle.std.proofs.Common.{ap, ◌&&◌, ◌≡◌, Bool, true, false, ◌||◌, cond, List, [], ◌∷◌, ◌++◌, map, filter, find, Some, None, refl, subst, ◌∙◌, arith}
use Rattle.std.specs.List.{list_any}
use Rattle.std.proofs.lemmas.Bool.Decides.{nat_tests}
use Rattle.farm_history.specs.declared.keys.Key.{Key}
use Rattle.farm_history.specs.Lists.{Each}
use Rattle.farm_history.specs.Plans.{Waits, AreApart, same_key, waits_in, without_key}

-- keys that are the same are equal
pub same_key-true : (a b : Key) → same_key a b ≡ true → a ≡ b
same_key-true a b h =
    let m : a.map ≡ b.map = grind (arith, nat_tests) in
    let z : a.meta.z ≡ b.meta.z = grind (arith, nat_tests) in
    let x : a.meta.x ≡ b.meta.x = grind (arith, nat_tests) in
    let y : a.meta.y ≡ b.meta.y = grind (arith, nat_tests) in
    λ i. record { map = m i; meta = record { z = z i; x = x i; y = y i } }

pub same_key-self : (a : Key) → same_key a a ≡ true
same_key-self a = grind (arith, nat_tests)

pub same_key-sym : (a b : Key) → same_key a b ≡ same_key b a
same_key-sym a b = grind (arith, nat_tests)

pub any-append : {X : Type 0} (p : X → Bool) (xs ys : List X) → list_any p (xs ++ ys) ≡ (list_any p xs || list_any p ys)
any-append p [] ys = refl
any-append p (x ∷ xs) ys = grind (arith, any-append p xs ys)

-- what is in a filtered list is in the list
pub any-filter : {X : Type 0} (p q : X → Bool) (xs : List X) → list_any p (filter q xs) ≡ true → list_any p xs ≡ true
any-filter p q [] h = h
any-filter p q (x ∷ xs) h = grind (arith, any-filter p q xs)

-- what passes in a filtered list passes both
pub any-both : {X : Type 0} (p q : X → Bool) (xs : List X) → list_any p (filter q xs) ≡ list_any (λ x. q x && p x) xs
any-both p q [] = refl
any-both p q (x ∷ xs) = go (q x) (any-both p q xs)
  where
    go : (b : Bool) → list_any p (filter q xs) ≡ list_any (λ y. q y && p y) xs → list_any p (cond b (x ∷ filter q xs) (filter q xs)) ≡ ((b && p x) || list_any (λ y. q y && p y) xs)
    go true ih = ap (λ c. p x || c) ih
    go false ih = ih

pub any-map : {X Y : Type 0} (f : X → Y) (p : Y → Bool) (xs : List X) → list_any p (map f xs) ≡ list_any (λ x. p (f x)) xs
any-map f p [] = refl
any-map f p (x ∷ xs) = ap (λ b. p (f x) || b) (any-map f p xs)

pub not_any : {X : Type 0} (p q : X → Bool) (xs : List X) → list_any p xs ≡ false → list_any p (filter q xs) ≡ false
not_any p q [] h = h
not_any p q (x ∷ xs) h = grind (arith, not_any p q xs)

-- a filter takes out what fails its test
pub any-filter_off : {X : Type 0} (p q : X → Bool) (xs : List X) → ((x : X) → p x ≡ true → q x ≡ false) → list_any p (filter q xs) ≡ false
any-filter_off p q [] h = refl
any-filter_off p q (x ∷ xs) h = grind (arith, any-filter_off p q xs h, h x)

-- and leaves what passes it
pub any-filter_on : {X : Type 0} (p q : X → Bool) (xs : List X) → ((x : X) → p x ≡ true → q x ≡ true) → list_any p (filter q xs) ≡ list_any p xs
any-filter_on p q [] h = refl
any-filter_on p q (x ∷ xs) h = grind (arith, any-filter_on p q xs h, h x)

-- what is found is in the list
pub find-any : {X : Type 0} (p q : X → Bool) (xs : List X) (x : X) → find p xs ≡ Some x → q x ≡ true → list_any q xs ≡ true
find-any p q [] x e h = cc
find-any p q (y ∷ ys) x e h = go (p y) (λ rest. find-any p q ys x rest h) e
  where
    go : (b : Bool) → (find p ys ≡ Some x → list_any q ys ≡ true) → cond b (Some y) (find p ys) ≡ Some x → q y || list_any q ys ≡ true
    go true ih is = let same : y ≡ x = cc in rw (same, h) refl
    go false ih is = let there = ih is in grind arith

-- and fails what all fail
pub find-not : {X : Type 0} (p q : X → Bool) (xs : List X) (x : X) → find p xs ≡ Some x → list_any q xs ≡ false → q x ≡ false
find-not p q xs x e h = go (q x) refl
  where
    go : (b : Bool) → q x ≡ b → q x ≡ false
    go true is = let there = find-any p q xs x e is in cc
    go false is = is

-- and passes the test
pub find-passes : {X : Type 0} (p : X → Bool) (xs : List X) (x : X) → find p xs ≡ Some x → p x ≡ true
find-passes p [] x e = cc
find-passes p (y ∷ ys) x e = grind (arith, find-passes p ys x)

-- nothing is found where nothing passes
pub find-none : {X : Type 0} (p : X → Bool) (xs : List X) → list_any p xs ≡ false → find p xs ≡ None
find-none p [] h = refl
find-none p (x ∷ xs) h = grind (arith, find-none p xs)

pub waits_without_same : (k : Key) (ws : List Waits) → waits_in (without_key k ws) k ≡ false
waits_without_same k ws = any-filter_off _ _ ws (λ w h. grind arith)

pub waits_without_other : (k j : Key) (ws : List Waits) → same_key k j ≡ false → waits_in (without_key k ws) j ≡ waits_in ws j
waits_without_other k j ws h = any-filter_on _ _ ws (λ w e. grind (arith, nat_tests))

pub apart-append : {X : Type 0} (key : X → Key) (xs : List X) (x : X) → AreApart key xs → list_any (λ y. same_key (key y) (key x)) xs ≡ false → AreApart key (xs ++ x ∷ [])
apart-append key [] x apart h = (refl, tt)
apart-append key (y ∷ ys) x apart h =
    (any-append (λ z. same_key (key z) (key y)) ys (x ∷ []) ∙ grind (arith, same_key-sym (key x) (key y), apart.0), apart-append key ys x apart.1 (grind arith))

pub apart-filter : {X : Type 0} (key : X → Key) (q : X → Bool) (xs : List X) → AreApart key xs → AreApart key (filter q xs)
apart-filter key q [] apart = tt
apart-filter key q (x ∷ xs) apart = go (q x) (apart-filter key q xs apart.1)
  where
    go : (b : Bool) → AreApart key (filter q xs) → AreApart key (cond b (x ∷ filter q xs) (filter q xs))
    go true ih = (not_any (λ y. same_key (key y) (key x)) q xs apart.0, ih)
    go false ih = ih

pub each-append : {X : Type 0} (P : X → Type 0) (xs : List X) (x : X) → Each P xs → P x → Each P (xs ++ x ∷ [])
each-append P [] x each here = (here, tt)
each-append P (y ∷ ys) x each here = (each.0, each-append P ys x each.1 here)

pub each-map : {X : Type 0} (P Q : X → Type 0) (xs : List X) → ((x : X) → P x → Q x) → Each P xs → Each Q xs
each-map P Q [] f each = tt
each-map P Q (x ∷ xs) f each = (f x each.0, each-map P Q xs f each.1)

pub each-filter : {X : Type 0} (P : X → Type 0) (q : X → Bool) (xs : List X) → Each P xs → Each P (filter q xs)
each-filter P q [] each = tt
each-filter P q (x ∷ xs) each = go (q x) (each-filter P q xs each.1)
  where
    go : (b : Bool) → Each P (filter q xs) → Each P (cond b (x ∷ filter q xs) (filter q xs))
    go true ih = (each.0, ih)
    go false ih = ih

-- of what passes the filter's test, the test holds too
pub each-passes : {X : Type 0} (q : X → Bool) (xs : List X) → Each (λ x. q x ≡ true) (filter q xs)
each-passes q [] = tt
each-passes q (x ∷ xs) = go (q x) refl (each-passes q xs)
  where
    go : (b : Bool) → q x ≡ b → Each (λ y. q y ≡ true) (filter q xs) → Each (λ y. q y ≡ true) (cond b (x ∷ filter q xs) (filter q xs))
    go true is ih = (is, ih)
    go false is ih = ih

pub each-find : {X : Type 0} (P : X → Type 0) (q : X → Bool) (xs : List X) (x : X) → Each P xs → find q xs ≡ Some x → P x
each-find P q [] x each e = cc
each-find P q (y ∷ ys) x each e = go (q y) (each-find P q ys x each.1) e
  where
    go : (b : Bool) → (find q ys ≡ Some x → P x) → cond b (Some y) (find q ys) ≡ Some x → P x
    go true ih is = let same : y ≡ x = cc in subst P same each.0
    go false ih is = ih is

pub each-both : {X : Type 0} (P Q : X → Type 0) (xs : List X) → Each P xs → Each Q xs → Each (λ x. P x × Q x) xs
each-both P Q [] each also = tt
each-both P Q (x ∷ xs) each also = ((each.0, also.0), each-both P Q xs each.1 also.1)

-- nothing passes a test that each fails
pub each-none : {X : Type 0} (q : X → Bool) (xs : List X) → Each (λ x. q x ≡ false) xs → list_any q xs ≡ false
each-none q [] each = refl
each-none q (x ∷ xs) each = grind (arith, each-none q xs each.1, each.0)

pub each-join : {X : Type 0} (P : X → Type 0) (xs ys : List X) → Each P xs → Each P ys → Each P (xs ++ ys)
each-join P [] ys each also = also
each-join P (x ∷ xs) ys each also = (each.0, each-join P xs ys each.1 also)

pub each-over : {X Y : Type 0} (f : X → Y) (P : X → Type 0) (Q : Y → Type 0) (xs : List X) → ((x : X) → P x → Q (f x)) → Each P xs → Each Q (map f xs)
each-over f P Q [] g each = tt
each-over f P Q (x ∷ xs) g each = (g x each.0, each-over f P Q xs g each.1)

-- where nothing passes a test, each fails it
pub none-each : {X : Type 0} (q : X → Bool) (xs : List X) → list_any q xs ≡ false → Each (λ x. q x ≡ false) xs
none-each q [] h = tt
none-each q (x ∷ xs) h = (grind arith, none-each q xs (grind arith))

-- a filter and a map in either order
pub map-filter : {X Y : Type 0} (f : X → Y) (q : X → Bool) (r : Y → Bool) (xs : List X) → ((x : X) → r (f x) ≡ q x) → map f (filter q xs) ≡ filter r (map f xs)
map-filter f q r [] same = refl
map-filter f q r (x ∷ xs) same = rw (same x) (go (q x) (map-filter f q r xs same))
  where
    go : (b : Bool) → map f (filter q xs) ≡ filter r (map f xs) → map f (cond b (x ∷ filter q xs) (filter q xs)) ≡ cond b (f x ∷ filter r (map f xs)) (filter r (map f xs))
    go true ih = ap (λ ys. f x ∷ ys) ih
    go false ih = ih

pub filter-append : {X : Type 0} (q : X → Bool) (xs ys : List X) → filter q (xs ++ ys) ≡ filter q xs ++ filter q ys
filter-append q [] ys = refl
filter-append q (x ∷ xs) ys = go (q x) (filter-append q xs ys)
  where
    go : (b : Bool) → filter q (xs ++ ys) ≡ filter q xs ++ filter q ys → cond b (x ∷ filter q (xs ++ ys)) (filter q (xs ++ ys)) ≡ cond b (x ∷ filter q xs) (filter q xs) ++ filter q ys
    go true ih = ap (λ zs. x ∷ zs) ih
    go false ih = ih

-- filters by tests that agree on each of the list
pub filter-agree : {X : Type 0} (q r : X → Bool) (xs : List X) → Each (λ x. q x ≡ r x) xs → filter q xs ≡ filter r xs
filter-agree q r [] same = refl
filter-agree q r (x ∷ xs) same = rw same.0 (ap (λ zs. cond (r x) (x ∷ zs) zs) (filter-agree q r xs same.1))

-- a filter that all pass
pub filter-all : {X : Type 0} (q : X → Bool) (xs : List X) → Each (λ x. q x ≡ true) xs → filter q xs ≡ xs
filter-all q [] passed = refl
filter-all q (x ∷ xs) passed = rw passed.0 (ap (λ zs. x ∷ zs) (filter-all q xs passed.1))

-- and one that none passes
pub filter-none : {X : Type 0} (q : X → Bool) (xs : List X) → Each (λ x. q x ≡ false) xs → filter q xs ≡ []
filter-none q [] failed = refl
filter-none q (x ∷ xs) failed = rw failed.0 (filter-none q xs failed.1)

-- two filters are one by both tests
pub filter-filter : {X : Type 0} (q r : X → Bool) (xs : List X) → filter q (filter r xs) ≡ filter (λ x. r x && q x) xs
filter-filter q r [] = refl
filter-filter q r (x ∷ xs) = go (r x) (filter-filter q r xs)
  where
    go : (b : Bool) → filter q (filter r xs) ≡ filter (λ y. r y && q y) xs → filter q (cond b (x ∷ filter r xs) (filter r xs)) ≡ cond (b && q x) (x ∷ filter (λ y. r y && q y) xs) (filter (λ y. r y && q y) xs)
    go true ih = ap (λ zs. cond (q x) (x ∷ zs) zs) ih
    go false ih = ih

pub each-all : {X : Type 0} (P : X → Type 0) (xs : List X) → ((x : X) → P x) → Each P xs
each-all P [] f = tt
each-all P (x ∷ xs) f = (f x, each-all P xs f)
