-- Tables of marks: what touches keys makes their marks dirty, and the clean marks of keys that pass a test are counted as the clean keys are.
use Rattle.std.proofs.Common.{◌≡◌, Bool, true, false, ◌&&◌, cond, List, [], ◌∷◌, map, find, count_by, Option, Some, None, option_map, refl, sym, ap, ◌∙◌, arith}
use Rattle.std.specs.List.{list_any}
use Rattle.std.specs.Option.{option_and_then}
use Rattle.farm_history.specs.declared.keys.Key.{Key}
use Rattle.farm_history.specs.declared.keys.Mark.{Mark}
use Rattle.farm_history.specs.Lists.{Each}
use Rattle.farm_history.specs.Entries.{Entry}
use Rattle.farm_history.specs.Plans.{Plan, AreApart, own_key, same_key, is_in}
use Rattle.farm_history.specs.Past.{shown, is_fresh, is_clean, clean_count}
use Rattle.farm_history.specs.Seen.{dirtied, mark_at, mark_after, mark_in, is_clean_mark}
use Rattle.farm_history.proofs.Lists.{same_key-self, same_key-true, same_key-sym, each-map}
use Rattle.farm_history.proofs.Counts.{clean_counted}
use Rattle.farm_history.proofs.Opens.{count-map, count-agree}

-- what is found after each row was dirtied is what was found, dirtied
pub dirtied_rows : {R : Type 0} (key : R → Key) (mark : R → Option Mark) (dirty_row : R → R) (test : Key → Bool) → ((r : R) → key (dirty_row r) ≡ key r) → ((r : R) → mark (dirty_row r) ≡ option_map (dirtied (test (key r))) (mark r)) →
    (rows : List R) (k : Key) → mark_in key mark (map dirty_row rows) k ≡ option_map (dirtied (test k)) (mark_in key mark rows k)
dirtied_rows key mark dirty_row test keys marks [] k = refl
dirtied_rows {R} key mark dirty_row test keys marks (r ∷ rows) k = rw (keys r) (go (same_key k (key r)) refl (dirtied_rows key mark dirty_row test keys marks rows k))
  where
    go : (b : Bool) → same_key k (key r) ≡ b → mark_in key mark (map dirty_row rows) k ≡ option_map (dirtied (test k)) (mark_in key mark rows k) →
        option_and_then mark (cond b (Some (dirty_row r)) (find (λ x. same_key k (key x)) (map dirty_row rows))) ≡ option_map (dirtied (test k)) (option_and_then mark (cond b (Some r) (find (λ x. same_key k (key x)) rows)))
    go true same ih = marks r ∙ ap (λ j. option_map (dirtied (test j)) (mark r)) (sym (same_key-true k (key r) same))
    go false other ih = ih

-- where the keys of the rows differ, each row is the one that its key finds
own_row : {R : Type 0} (key : R → Key) (mark : R → Option Mark) (rows : List R) → AreApart key rows → Each (λ r. mark_in key mark rows (key r) ≡ mark r) rows
own_row key mark [] apart = tt
own_row {R} key mark (r ∷ rows) apart = (own, each-later rows apart.0 (own_row key mark rows apart.1))
  where
    own : mark_in key mark (r ∷ rows) (key r) ≡ mark r
    own = rw (same_key-self (key r)) refl

    each-later : (xs : List R) → list_any (λ y. same_key (key y) (key r)) xs ≡ false → Each (λ x. mark_in key mark rows (key x) ≡ mark x) xs → Each (λ x. mark_in key mark (r ∷ rows) (key x) ≡ mark x) xs
    each-later [] h each = tt
    each-later (x ∷ xs) h each = ((let off : same_key (key x) (key r) ≡ false = grind arith in rw off each.0), each-later xs (grind arith) each.1)

-- a key without a row has no mark
no_row : {R : Type 0} (key : R → Key) (mark : R → Option Mark) (rows : List R) (k : Key) → is_in k (map key rows) ≡ false → mark_in key mark rows k ≡ None
no_row key mark [] k h = refl
no_row {R} key mark (r ∷ rows) k h = let off : same_key k (key r) ≡ false = same_key-sym k (key r) ∙ grind arith in rw off (no_row key mark rows k (grind arith))

apart_keys : {R : Type 0} (key : R → Key) (rows : List R) → AreApart key rows → AreApart own_key (map key rows)
apart_keys key [] apart = tt
apart_keys {R} key (r ∷ rows) apart = (over rows apart.0, apart_keys key rows apart.1)
  where
    over : (xs : List R) → list_any (λ y. same_key (key y) (key r)) xs ≡ false → list_any (λ y. same_key y (key r)) (map key xs) ≡ false
    over [] h = refl
    over (x ∷ xs) h = grind (arith, over xs)

clean_at : (p : Plan) (h : List Entry) (k : Key) (s : Option (List Entry)) → is_clean_mark (mark_at p h k s) ≡ is_fresh p h s k
clean_at p h k None = refl
clean_at p h k (Some before) = refl

-- where a table has the marks of a history, and each key once, its clean marks of keys that pass the test are as many as the clean keys
pub counted_marks : {R : Type 0} (key : R → Key) (mark : R → Option Mark) (p : Plan) (h : List Entry) (test : Key → Bool) (rows : List R) → AreApart key rows → ((k : Key) → mark_in key mark rows k ≡ mark_after p h k) →
    clean_count p h test ≡ count_by (λ r. is_clean_mark (mark r) && test (key r)) rows
counted_marks {R} key mark p h test rows apart are =
    clean_counted p h test (map key rows) (apart_keys key rows apart) there
    ∙ (count-map key (λ k. is_clean p h k && test k) rows ∙ count-agree _ _ rows (each-map _ _ rows same (own_row key mark rows apart)))
  where
    clean_is : (k : Key) → is_clean p h k ≡ is_clean_mark (mark_in key mark rows k)
    clean_is k = sym (ap is_clean_mark (are k) ∙ clean_at p h k (shown h k))

    there : (k : Key) → is_clean p h k ≡ true → is_in k (map key rows) ≡ true
    there k clean = go (is_in k (map key rows)) refl
      where
        go : (b : Bool) → is_in k (map key rows) ≡ b → is_in k (map key rows) ≡ true
        go true is = is
        go false is = let never : true ≡ false = sym clean ∙ (clean_is k ∙ ap is_clean_mark (no_row key mark rows k is)) in cc

    same : (r : R) → mark_in key mark rows (key r) ≡ mark r → (is_clean p h (key r) && test (key r)) ≡ (is_clean_mark (mark r) && test (key r))
    same r own = ap (λ b. b && test (key r)) (clean_is (key r) ∙ ap is_clean_mark own)
