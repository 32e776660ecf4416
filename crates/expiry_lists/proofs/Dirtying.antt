-- Expiries of what is shown: one after another, by tests that agree, and of nothing.
use Rattle.std.proofs.Common.{◌≡◌, ℕ, ◌+◌, ◌≤◌, Bool, true, false, not, ◌&&◌, ◌||◌, cond, List, [], ◌∷◌, length, refl, sym, ap, ap₂, ◌∙◌, subst, arith}
use Rattle.farm_history.specs.declared.keys.Key.{Key}
use Rattle.farm_history.specs.Lists.{Each}
use Rattle.farm_history.proofs.Counts.{count-cons}
use Rattle.expiry_lists.specs.Marks.{Shown, touched_by, dirtied_mark, dirtied_marks, clean_marks}
use Rattle.expiry_lists.specs.inner.Walks.{Dirties}

-- one that is shown, with that for its mark's cleanness
with_clean : Shown → Bool → Shown
with_clean s b = record { key = s.key; mark = record { version = s.mark.version; clean = b } }

weight : Bool → ℕ
weight b = cond b 1 0

both_tests : (p q c : Bool) → (not q && (not p && c)) ≡ (not (p || q) && c)
both_tests true true c = refl
both_tests true false c = refl
both_tests false true c = refl
both_tests false false c = refl

both_weights : (p q c : Bool) → weight (c && (p || q)) ≡ weight (c && p) + weight ((not p && c) && q)
unfolding weight
both_weights true q true = refl
both_weights true q false = refl
both_weights false true true = refl
both_weights false false true = refl
both_weights false q false = refl

clean-cons : (p : Key → Bool) (s : Shown) (ss : List Shown) → clean_marks p (s ∷ ss) ≡ weight (s.mark.clean && p s.key) + clean_marks p ss
unfolding weight
clean-cons p s ss = count-cons (λ (t : Shown). t.mark.clean && p t.key) s ss

-- Two expiries, one after the other, are one of the keys that pass either test,
pub dirtied_marks-dirtied_marks : (p q : Key → Bool) (ss : List Shown) → dirtied_marks q (dirtied_marks p ss) ≡ dirtied_marks (λ k. p k || q k) ss
unfolding with_clean
dirtied_marks-dirtied_marks p q [] = refl
dirtied_marks-dirtied_marks p q (s ∷ ss) =
    ap₂ (λ (t : Shown) ts. t ∷ ts) (ap (λ b. with_clean s b) (both_tests (p s.key) (q s.key) s.mark.clean)) (dirtied_marks-dirtied_marks p q ss)

-- and their counts add up: what the first made dirty the second does not count again
pub clean_marks-dirtied_marks : (p q : Key → Bool) (ss : List Shown) → clean_marks (λ k. p k || q k) ss ≡ clean_marks p ss + clean_marks q (dirtied_marks p ss)
clean_marks-dirtied_marks p q [] = refl
clean_marks-dirtied_marks p q (s ∷ ss) =
    omega (
      arith,
      clean-cons (λ k. p k || q k) s ss,
      clean-cons p s ss,
      clean-cons q (dirtied_mark p s) (dirtied_marks p ss),
      both_weights (p s.key) (q s.key) s.mark.clean,
      clean_marks-dirtied_marks p q ss,
    )

pub dirties_then : {p q : Key → Bool} {a b c : List Shown} {m n : ℕ} → Dirties p a b m → Dirties q b c n → Dirties (λ k. p k || q k) a c (m + n)
dirties_then {p} {q} {a} {b} {c} {m} {n} first second = record {
  marks = second.marks ∙ (ap (dirtied_marks q) first.marks ∙ dirtied_marks-dirtied_marks p q a);
  counted = omega (arith, first.counted, second.counted, ap (clean_marks q) first.marks, clean_marks-dirtied_marks p q a);
}

-- Tests that agree on each clean one do the same.
abbrev pub AgreeOn : (Key → Bool) → (Key → Bool) → List Shown → Type 0
AgreeOn p q ss = Each (λ (s : Shown). s.mark.clean ≡ true → p s.key ≡ q s.key) ss

same_clean : (p q c : Bool) → (c ≡ true → p ≡ q) → (not p && c) ≡ (not q && c)
same_clean p q true same = rw (same refl) refl
same_clean true true false same = refl
same_clean true false false same = refl
same_clean false true false same = refl
same_clean false false false same = refl

same_weight : (p q c : Bool) → (c ≡ true → p ≡ q) → weight (c && p) ≡ weight (c && q)
unfolding weight
same_weight p q true same = rw (same refl) refl
same_weight p q false same = refl

pub dirtied_marks-agree : (p q : Key → Bool) (ss : List Shown) → AgreeOn p q ss → dirtied_marks p ss ≡ dirtied_marks q ss
unfolding with_clean
dirtied_marks-agree p q [] same = refl
dirtied_marks-agree p q (s ∷ ss) same =
    ap₂ (λ (t : Shown) ts. t ∷ ts) (ap (λ b. with_clean s b) (same_clean (p s.key) (q s.key) s.mark.clean same.0)) (dirtied_marks-agree p q ss same.1)

pub clean_marks-agree : (p q : Key → Bool) (ss : List Shown) → AgreeOn p q ss → clean_marks p ss ≡ clean_marks q ss
clean_marks-agree p q [] same = refl
clean_marks-agree p q (s ∷ ss) same =
    omega (arith, clean-cons p s ss, clean-cons q s ss, same_weight (p s.key) (q s.key) s.mark.clean same.0, clean_marks-agree p q ss same.1)

pub dirties_agree : {p : Key → Bool} (q : Key → Bool) {a b : List Shown} {n : ℕ} → AgreeOn p q a → Dirties p a b n → Dirties q a b n
dirties_agree {p} q {a} {b} {n} same s = record { marks = s.marks ∙ dirtied_marks-agree p q a same; counted = s.counted ∙ clean_marks-agree p q a same }

-- An expiry of which no clean one passes the test changes nothing.
abbrev pub NoneOf : (Key → Bool) → List Shown → Type 0
NoneOf p ss = Each (λ (s : Shown). s.mark.clean ≡ true → p s.key ≡ false) ss

untouched : (p c : Bool) → (c ≡ true → p ≡ false) → (not p && c) ≡ c
untouched p true none = rw (none refl) refl
untouched true false none = refl
untouched false false none = refl

no_weight : (p c : Bool) → (c ≡ true → p ≡ false) → weight (c && p) ≡ 0
unfolding weight
no_weight p true none = rw (none refl) refl
no_weight p false none = refl

pub dirtied_marks-none : (p : Key → Bool) (ss : List Shown) → NoneOf p ss → ss ≡ dirtied_marks p ss
unfolding with_clean
dirtied_marks-none p [] none = refl
dirtied_marks-none p (s ∷ ss) none =
    ap₂ (λ (t : Shown) ts. t ∷ ts) (ap (λ b. with_clean s b) (sym (untouched (p s.key) s.mark.clean none.0))) (dirtied_marks-none p ss none.1)

pub clean_marks-none : (p : Key → Bool) (ss : List Shown) → NoneOf p ss → 0 ≡ clean_marks p ss
clean_marks-none p [] none = refl
clean_marks-none p (s ∷ ss) none = omega (arith, clean-cons p s ss, no_weight (p s.key) s.mark.clean none.0, clean_marks-none p ss none.1)

pub dirties_none : (p : Key → Bool) (a : List Shown) → NoneOf p a → Dirties p a a 0
dirties_none p a none = record { marks = dirtied_marks-none p a none; counted = clean_marks-none p a none }

-- Of two tests that nothing passes both, the counts add up.
apart_weights : (p q c : Bool) → (p && q) ≡ false → weight (c && (p || q)) ≡ weight (c && p) + weight (c && q)
unfolding weight
apart_weights true true c apart = cc
apart_weights true false true apart = refl
apart_weights true false false apart = refl
apart_weights false q true apart = omega arith
apart_weights false q false apart = refl

pub clean_marks-or : (p q : Key → Bool) → ((k : Key) → (p k && q k) ≡ false) → (ss : List Shown) → clean_marks (λ k. p k || q k) ss ≡ clean_marks p ss + clean_marks q ss
clean_marks-or p q apart [] = refl
clean_marks-or p q apart (s ∷ ss) =
    omega (arith, clean-cons (λ k. p k || q k) s ss, clean-cons p s ss, clean-cons q s ss, apart_weights (p s.key) (q s.key) s.mark.clean (apart s.key), clean_marks-or p q apart ss)

light : (b : Bool) → weight b ≤ 1
unfolding weight
light true = omega arith
light false = omega arith

-- No more are clean than are shown.
pub clean_marks-le : (p : Key → Bool) (ss : List Shown) → clean_marks p ss ≤ length ss
clean_marks-le p [] = omega arith
clean_marks-le p (s ∷ ss) = omega (arith, clean-cons p s ss, light (s.mark.clean && p s.key), clean_marks-le p ss)

-- one more that is shown, which the expiry does not touch
pub dirties_other : (p : Key → Bool) (s : Shown) {xs ys : List Shown} {n : ℕ} → p s.key ≡ false → Dirties p xs ys n → Dirties p (s ∷ xs) (s ∷ ys) n
unfolding with_clean weight
dirties_other p s {xs} {ys} {n} other rest = record {
  marks = ap₂ (λ (t : Shown) ts. t ∷ ts) (ap (λ c. with_clean s (not c && s.mark.clean)) (sym other)) rest.marks;
  counted = omega (arith, clean-cons p s xs, rest.counted, no_weight (p s.key) s.mark.clean (λ _. other));
}

-- one more that is shown, which the expiry touches
pub dirties_more : (p : Key → Bool) (s : Shown) {xs ys : List Shown} {n : ℕ} → p s.key ≡ true → Dirties p xs ys n → Dirties p (s ∷ xs) (record { key = s.key; mark = touched_by true s.mark } ∷ ys) (cond s.mark.clean 1 0 + n)
unfolding with_clean weight
dirties_more p s {xs} {ys} {n} here rest = record {
  marks = ap₂ (λ (t : Shown) ts. t ∷ ts) (ap (λ c. with_clean s (not c && s.mark.clean)) (sym here)) rest.marks;
  counted = omega (arith, clean-cons p s xs, rest.counted, whole s.mark.clean (p s.key) here);
}
  where
    whole : (x y : Bool) → y ≡ true → weight (x && y) ≡ cond x 1 0
    whole true y is = rw is refl
    whole false y is = refl

-- where it touches nothing else
pub dirties_here : (p : Key → Bool) (s : Shown) {xs ys : List Shown} → p s.key ≡ true → Dirties p xs ys 0 → Dirties p (s ∷ xs) (record { key = s.key; mark = touched_by true s.mark } ∷ ys) (cond s.mark.clean 1 0)
dirties_here p s {xs} {ys} here rest =
    let alone : cond s.mark.clean 1 0 + 0 ≡ cond s.mark.clean 1 0 = omega arith in
    subst (λ n. Dirties p (s ∷ xs) (record { key = s.key; mark = touched_by true s.mark } ∷ ys) n) alone (dirties_more p s here rest)
