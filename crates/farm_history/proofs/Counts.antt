-- The number of clean keys that pass a test, over any list that has each of them once; the open asks are counted by those that have ended and by chains.
use Rattle.std.proofs.Common.{◌≡◌, ℕ, ◌+◌, Bool, true, false, not, ◌&&◌, ◌||◌, cond, List, [], ◌∷◌, ◌++◌, filter, count_by, Option, Some, None, refl, sym, ap, ◌∙◌, subst, arith}
use Rattle.std.proofs.lemmas.List.Sums.{sum_by-append}
use Rattle.std.proofs.lemmas.Bool.Decides.{nat_tests}
use Rattle.farm_history.specs.declared.keys.Key.{Key}
use Rattle.farm_history.specs.declared.answers.ClaimAnswer.TheVariants.{Job}
use Rattle.farm_history.specs.declared.answers.Finished.TheVariants.{Stored, PutFailed}
use Rattle.farm_history.specs.Entries.{Entry, Claim, Finish}
use Rattle.farm_history.specs.Plans.{Plan, AreApart, own_key, same_key, is_in}
use Rattle.farm_history.specs.Past.{Flight, flights, flight_in, claimed_keys, is_on, stored_on, shown, is_fresh, is_clean, clean_count}
use Rattle.farm_history.specs.Lists.{Each}
use Rattle.farm_history.proofs.Lists.{same_key-true, same_key-self, each-append, each-map, each-filter, each-find, any-append, any-filter_on, any-filter_off, apart-append, apart-filter, none-each, filter-all}

pub count-cons : {X : Type 0} (q : X → Bool) (x : X) (xs : List X) → count_by q (x ∷ xs) ≡ cond (q x) 1 0 + count_by q xs
count-cons q x xs = sum_by-append (λ y. cond (q y) 1 0) (x ∷ []) xs ∙ omega arith

-- each claimed key is listed once
pub claimed_apart : (h : List Entry) → AreApart own_key (claimed_keys h)
unfolding claimed_keys
claimed_apart [] = tt
claimed_apart (Claim worker (Job t k v) ∷ g) = go (is_in k (claimed_keys g)) refl (claimed_apart g)
  where
    go : (b : Bool) → is_in k (claimed_keys g) ≡ b → AreApart own_key (claimed_keys g) → AreApart own_key (cond b (claimed_keys g) (claimed_keys g ++ k ∷ []))
    go true is old = old
    go false is old = apart-append own_key (claimed_keys g) k old is
claimed_apart (_ ∷ g) = claimed_apart g

-- what was claimed stays so
claimed_still : (e : Entry) (g : List Entry) (k : Key) → is_in k (claimed_keys g) ≡ true → is_in k (claimed_keys (e ∷ g)) ≡ true
unfolding claimed_keys
claimed_still (Claim worker (Job t j v)) g k h = go (is_in j (claimed_keys g))
  where
    go : (b : Bool) → is_in k (cond b (claimed_keys g) (claimed_keys g ++ j ∷ [])) ≡ true
    go true = h
    go false = any-append (λ x. same_key x k) (claimed_keys g) (j ∷ []) ∙ grind arith
claimed_still _ g k h = h

claimed_now : (g : List Entry) (worker t : ℕ) (k : Key) (v : ℕ) → is_in k (claimed_keys (Claim worker (Job t k v) ∷ g)) ≡ true
unfolding claimed_keys
claimed_now g worker t k v = go (is_in k (claimed_keys g)) refl
  where
    go : (b : Bool) → is_in k (claimed_keys g) ≡ b → is_in k (cond b (claimed_keys g) (claimed_keys g ++ k ∷ [])) ≡ true
    go true is = is
    go false is = any-append (λ x. same_key x k) (claimed_keys g) (k ∷ []) ∙ grind (arith, same_key-self k)

flights_keyed : (h : List Entry) → Each (λ (f : Flight). is_in f.key (claimed_keys h) ≡ true) (flights h)
unfolding flights
flights_keyed [] = tt
flights_keyed (Claim worker (Job t k v) ∷ g) =
    each-append _ (flights g) _ (each-map _ _ (flights g) (λ f is. claimed_still (Claim worker (Job t k v)) g f.key is) (flights_keyed g)) (claimed_now g worker t k v)
flights_keyed (Finish t drawn answer ∷ g) = each-filter _ _ (flights g) (each-map _ _ (flights g) (λ f is. claimed_still (Finish t drawn answer) g f.key is) (flights_keyed g))
flights_keyed (e ∷ g) = each-map _ _ (flights g) (λ f is. claimed_still e g f.key is) (flights_keyed g)

claimed_by_stored : (t : ℕ) (drawn clean : Bool) (g : List Entry) (k : Key) (before : List Entry) (o : Option Flight) → flight_in (flights g) t ≡ o → (shown g k ≡ Some before → is_in k (claimed_keys g) ≡ true) →
    stored_on o k (shown g k) ≡ Some before → is_in k (claimed_keys g) ≡ true
claimed_by_stored t drawn clean g k before None is old s = old s
claimed_by_stored t drawn clean g k before (Some f) is old s = go (same_key f.key k) refl s
  where
    go : (b : Bool) → same_key f.key k ≡ b → cond b (Some f.before) (shown g k) ≡ Some before → is_in k (claimed_keys g) ≡ true
    go true same s = sym (ap (λ x. is_in x (claimed_keys g)) (same_key-true f.key k same)) ∙ each-find (λ (x : Flight). is_in x.key (claimed_keys g) ≡ true) _ (flights g) f (flights_keyed g) is
    go false other s = old s

claimed_by_lost : (g : List Entry) (k : Key) (before : List Entry) (b : Bool) → (shown g k ≡ Some before → is_in k (claimed_keys g) ≡ true) → cond b None (shown g k) ≡ Some before → is_in k (claimed_keys g) ≡ true
claimed_by_lost g k before true old s = cc
claimed_by_lost g k before false old s = old s

-- what is shown was claimed
pub shown_claimed : (h : List Entry) (k : Key) (before : List Entry) → shown h k ≡ Some before → is_in k (claimed_keys h) ≡ true
unfolding shown
shown_claimed [] k before s = cc
shown_claimed (Finish t drawn (Stored clean) ∷ g) k before s =
    claimed_still (Finish t drawn (Stored clean)) g k (claimed_by_stored t drawn clean g k before (flight_in (flights g) t) refl (λ s'. shown_claimed g k before s') s)
shown_claimed (Finish t drawn PutFailed ∷ g) k before s =
    claimed_still (Finish t drawn PutFailed) g k (claimed_by_lost g k before (is_on (flight_in (flights g) t) k) (λ s'. shown_claimed g k before s') s)
shown_claimed (e ∷ g) k before s = claimed_still e g k (shown_claimed g k before s)

-- and so what is clean
pub clean_claimed : (p : Plan) (h : List Entry) (k : Key) → is_clean p h k ≡ true → is_in k (claimed_keys h) ≡ true
clean_claimed p h k clean = go (shown h k) refl clean
  where
    go : (s : Option (List Entry)) → shown h k ≡ s → is_fresh p h s k ≡ true → is_in k (claimed_keys h) ≡ true
    go None is c = let never : false ≡ true = c in cc
    go (Some before) is c = shown_claimed h k before is

-- Counts over lists that have each key once.

abbrev pub without : Key → List Key → List Key
without k ks = filter (λ x. not (same_key x k)) ks

count_without : (q : Key → Bool) (k : Key) (ks : List Key) → is_in k ks ≡ false → count_by q (without k ks) ≡ count_by q ks
count_without q k ks absent = ap (λ xs. count_by q xs) (filter-all _ ks (each-map _ _ ks (λ x h. ap not h) (none-each (λ x. same_key x k) ks absent)))

-- a key that is there counts once
count_there : (q : Key → Bool) (k : Key) (ks : List Key) → AreApart own_key ks → is_in k ks ≡ true → q k ≡ true → count_by q ks ≡ 1 + count_by q (without k ks)
count_there q k [] apart there passes = cc
count_there q k (x ∷ xs) apart there passes = go (same_key x k) refl (count_there q k xs apart.1)
  where
    go : (b : Bool) → same_key x k ≡ b → (is_in k xs ≡ true → q k ≡ true → count_by q xs ≡ 1 + count_by q (without k xs)) → count_by q (x ∷ xs) ≡ 1 + count_by q (cond (not b) (x ∷ without k xs) (without k xs))
    go true same ih =
        let own : x ≡ k = same_key-true x k same in
        let here : q x ≡ true = ap q own ∙ passes in
        let absent : is_in k xs ≡ false = subst (λ (y : Key). is_in y xs ≡ false) own apart.0 in
        count-cons q x xs ∙ rw here (ap (λ n. 1 + n) (sym (count_without q k xs absent)))
    go false other ih = count-cons q x xs ∙ (ap (λ n. cond (q x) 1 0 + n) (ih (grind arith) passes) ∙ (omega arith ∙ ap (λ n. 1 + n) (sym (count-cons q x (without k xs)))))

count_none : (q : Key → Bool) (ys : List Key) → ((k : Key) → q k ≡ true → is_in k ys ≡ false) → count_by q ys ≡ 0
count_none q [] absent = refl
count_none q (y ∷ ys) absent = count-cons q y ys ∙ go (q y) refl (count_none q ys (λ k passes. let h = absent k passes in grind arith))
  where
    go : (b : Bool) → q y ≡ b → count_by q ys ≡ 0 → cond b 1 0 + count_by q ys ≡ 0
    go true is rest = let never = absent y is in let own = same_key-self y in let impossible : true ≡ false = grind arith in cc
    go false is rest = omega (arith, rest)

-- lists that have each key once, and the same keys among those that pass, have equally many of them
pub same_count : (q : Key → Bool) (xs ys : List Key) → AreApart own_key xs → AreApart own_key ys → ((k : Key) → q k ≡ true → is_in k xs ≡ is_in k ys) → count_by q xs ≡ count_by q ys
same_count q [] ys apart also same = sym (count_none q ys (λ k passes. sym (same k passes)))
same_count q (x ∷ xs) ys apart also same = count-cons q x xs ∙ go (q x) refl (same_count q xs ys apart.1 also) (same_count q xs (without x ys) apart.1 (apart-filter own_key _ ys also))
  where
    go : (b : Bool) → q x ≡ b → (((k : Key) → q k ≡ true → is_in k xs ≡ is_in k ys) → count_by q xs ≡ count_by q ys) → (((k : Key) → q k ≡ true → is_in k xs ≡ is_in k (without x ys)) → count_by q xs ≡ count_by q (without x ys)) →
        cond b 1 0 + count_by q xs ≡ count_by q ys
    go false fails ih other_ih = omega (arith, ih (λ k passes. left k passes (same_key x k) refl (same k passes)))
      where
        left : (k : Key) → q k ≡ true → (c : Bool) → same_key x k ≡ c → c || is_in k xs ≡ is_in k ys → is_in k xs ≡ is_in k ys
        left k passes true own is = let here : q x ≡ true = ap q (same_key-true x k own) ∙ passes in let never : true ≡ false = sym here ∙ fails in cc
        left k passes false own is = is
    go true passes other_ih ih = omega (arith, ih (λ k pass. left k (same_key x k) refl (same k pass)), count_there q x ys also there passes)
      where
        there : is_in x ys ≡ true
        there = sym (same x passes) ∙ grind (arith, same_key-self x)

        left : (k : Key) (c : Bool) → same_key x k ≡ c → c || is_in k xs ≡ is_in k ys → is_in k xs ≡ is_in k (without x ys)
        left k true own is =
            subst (λ (y : Key). is_in y xs ≡ is_in y (without x ys)) (same_key-true x k own) (apart.0 ∙ sym (any-filter_off (λ y. same_key y x) _ ys (λ y h. ap not h)))
        left k false own is = is ∙ sym (any-filter_on (λ y. same_key y k) _ ys (λ y h. grind (arith, nat_tests)))

-- the clean keys that pass a test are counted over any list that has each key once and all that are clean
pub clean_counted : (p : Plan) (h : List Entry) (test : Key → Bool) (ks : List Key) → AreApart own_key ks → ((k : Key) → is_clean p h k ≡ true → is_in k ks ≡ true) → clean_count p h test ≡ count_by (λ k. is_clean p h k && test k) ks
clean_counted p h test ks apart all =
    same_count (λ k. is_clean p h k && test k) (claimed_keys h) ks (claimed_apart h) apart
    (λ k passes. let clean : is_clean p h k ≡ true = grind arith in clean_claimed p h k clean ∙ sym (all k clean))
