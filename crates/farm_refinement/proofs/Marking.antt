-- The marks: what an event that touches keys makes of them, and how many were clean.
use Rattle.std.proofs.Common.{◌≡◌, ◌+◌, Bool, true, false, ◌&&◌, ◌||◌, cond, List, [], ◌∷◌, find, Option, Some, None, is_some, option_map, refl, sym, ap, ap₂, ◌∙◌, arith}
use Rattle.std.specs.List.{list_any}
use Rattle.std.specs.Option.{option_and_then}
use Rattle.farm_history.specs.declared.keys.Key.{Key}
use Rattle.farm_history.specs.declared.keys.Mark.{Mark}
use Rattle.farm_history.specs.Entries.{Entry}
use Rattle.farm_history.specs.Plans.{Plan, AreApart, same_key}
use Rattle.farm_history.specs.Past.{shown, is_fresh, is_clean, clean_count, touches}
use Rattle.farm_history.specs.Seen.{dirtied, mark_at, mark_after, mark_in, is_clean_mark}
use Rattle.farm_history.proofs.Lists.{same_key-self}
use Rattle.farm_history.proofs.Counts.{count-cons}
use Rattle.farm_history.proofs.Marks.{is_finish, mark_dirtied}
use Rattle.farm_history.proofs.Marked.{dirtied_rows, counted_marks}
use Rattle.expiry_lists.specs.Marks.{Shown, shown_key, mark_of, dirtied_mark, dirtied_marks, clean_marks}

abbrev mark_here : Shown → Option Mark
mark_here s = Some s.mark

-- two ways to say the mark that a table has of a key
in_is : (rows : List Shown) (k : Key) → mark_in shown_key mark_here rows k ≡ mark_of rows k
in_is rows k = go (find (λ (s : Shown). same_key k s.key) rows)
  where
    go : (o : Option Shown) → option_and_then mark_here o ≡ option_map (λ s. s.mark) o
    go None = refl
    go (Some s) = refl

-- what touches keys makes their marks dirty
pub dirtied_at : (test : Key → Bool) (rows : List Shown) (k : Key) → mark_of (dirtied_marks test rows) k ≡ option_map (dirtied (test k)) (mark_of rows k)
dirtied_at test rows k =
    sym (in_is (dirtied_marks test rows) k) ∙ (dirtied_rows shown_key mark_here (dirtied_mark test) test (λ s. refl) (λ s. refl) rows k ∙ ap (option_map (dirtied (test k))) (in_is rows k))

-- tests that agree on what is shown do the same
pub dirtied_agree : (test also : Key → Bool) (m : Option Mark) (k : Key) → (is_some m ≡ true → test k ≡ also k) → option_map (dirtied (test k)) m ≡ option_map (dirtied (also k)) m
dirtied_agree test also None k agree = refl
dirtied_agree test also (Some m) k agree = ap (λ b. Some (dirtied b m)) (agree refl)

-- each that is shown has a mark
found_some : (rows : List Shown) (s : Shown) → list_any (λ (x : Shown). same_key s.key x.key) rows ≡ true → is_some (mark_of rows s.key) ≡ true
found_some [] s h = let never : false ≡ true = h in cc
found_some (x ∷ rows) s h = go (same_key s.key x.key) refl h (found_some rows s)
  where
    go : (b : Bool) → same_key s.key x.key ≡ b → b || list_any (λ (y : Shown). same_key s.key y.key) rows ≡ true → (list_any (λ (y : Shown). same_key s.key y.key) rows ≡ true → is_some (mark_of rows s.key) ≡ true) →
        is_some (option_map (λ (y : Shown). y.mark) (cond b (Some x) (find (λ (y : Shown). same_key s.key y.key) rows))) ≡ true
    go true same there ih = refl
    go false other there ih = ih there

count_agree : (test also : Key → Bool) (rows all : List Shown) → ((k : Key) → is_some (mark_of all k) ≡ true → test k ≡ also k) → ((s : Shown) → list_any (λ (x : Shown). same_key s.key x.key) rows ≡ true → list_any (λ (x : Shown). same_key s.key x.key) all ≡ true) → clean_marks test rows ≡ clean_marks also rows
count_agree test also [] all agree there = refl
count_agree test also (s ∷ rows) all agree there =
    count-cons (λ (x : Shown). x.mark.clean && test x.key) s rows
    ∙ (ap₂ (λ b n. cond (s.mark.clean && b) 1 0 + n) (agree s.key (found_some all s (there s (let own = same_key-self s.key in grind arith)))) (count_agree test also rows all agree (λ x h. there x (grind arith)))
    ∙ sym (count-cons (λ (x : Shown). x.mark.clean && also x.key) s rows))

pub clean_agree : (test also : Key → Bool) (rows : List Shown) → ((k : Key) → is_some (mark_of rows k) ≡ true → test k ≡ also k) → clean_marks test rows ≡ clean_marks also rows
clean_agree test also rows agree = count_agree test also rows rows agree (λ s h. h)

-- the marks after an entry that touches the keys which pass the test
pub marks_touched : (p : Plan) (g : List Entry) (e : Entry) (test : Key → Bool) (old new : List Shown) → is_finish e ≡ false → ((k : Key) → touches p g e k ≡ test k) →
    ((k : Key) → mark_of new k ≡ option_map (dirtied (test k)) (mark_of old k)) → ((k : Key) → mark_of old k ≡ mark_after p g k) → (k : Key) → mark_of new k ≡ mark_after p (e ∷ g) k
marks_touched p g e test old new no_finish tests marks are k =
    marks k ∙ (ap₂ (λ b m. option_map (dirtied b) m) (sym (tests k)) (are k) ∙ sym (mark_dirtied p g e k no_finish))

-- and how many of them were clean
pub marks_counted : (p : Plan) (g : List Entry) (test : Key → Bool) (rows : List Shown) → AreApart shown_key rows → ((k : Key) → mark_of rows k ≡ mark_after p g k) → clean_count p g test ≡ clean_marks test rows
marks_counted p g test rows apart are = counted_marks shown_key mark_here p g test rows apart (λ k. in_is rows k ∙ are k)

-- whether a key is clean
pub clean_is : (p : Plan) (g : List Entry) (k : Key) → is_clean_mark (mark_after p g k) ≡ is_clean p g k
clean_is p g k = go (shown g k)
  where
    go : (s : Option (List Entry)) → is_clean_mark (mark_at p g k s) ≡ is_fresh p g s k
    go None = refl
    go (Some before) = refl
