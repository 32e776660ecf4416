-- What contents hold after a put.
use Rattle.std.proofs.Common.{◌≡◌, ◌≢◌, ℕ, suc, ◌+◌, ◌<◌, ◌≤◌, List, [], ◌∷◌, ◌++◌, length, length-append, get_or, set, Bool, true, false, not, cond, Some, None, nat_lt, refl, sym, ap, ◌∙◌, arith}
use Rattle.std.specs.Prelude.{option_map, find, position}
use Rattle.std.specs.List.{position_or_len}
use Rattle.std.proofs.lemmas.Slice.Eq.{bytes_eq-Decides}
use Rattle.std.specs.Str.{bytes_eq}
use Rattle.std.proofs.lemmas.Bool.{false_from_ne_true, ltb-true, ltb-false}
use Rattle.std.proofs.lemmas.Option.{cond_some}
use Rattle.farm_base.proofs.Outcomes.{none_past}
use Rattle.farm_base.specs.declared.files.FailedCall.{FailedCall}
use Rattle.farm_base.specs.InMemory.{content_of}
use Rattle.farm_base.specs.Outside.{Counted}
use Rattle.tile_store.specs.Held.{with_content, StoreHeld, told_of}
use Rattle.tile_store.specs.Stores.{Stored, PutFailed, failed_put}

abbrev Pair : Type 0
Pair = List ℕ × List ℕ

replaced_by : (b : Bool) (x : Pair) (xs rest : List Pair) (bytes : List ℕ) (n : ℕ) (d : Pair)
    → (b ≡ false → set xs n ((get_or xs n d).0, bytes) ≡ rest)
    → set (x ∷ xs) (cond (not b) (1 + n) 0) ((get_or (x ∷ xs) (cond (not b) (1 + n) 0) d).0, bytes) ≡ cond b ((x.0, bytes) ∷ xs) (x ∷ rest)
replaced_by true x xs rest bytes n d h = refl
replaced_by false x xs rest bytes n d h =
    let e : 1 + n ≡ suc n = omega arith in
    ap (λ i. set (x ∷ xs) i ((get_or (x ∷ xs) i d).0, bytes)) e ∙ ap (λ ys. x ∷ ys) (h refl)

tail_below : (b : Bool) (n k : ℕ) → cond (not b) (1 + n) 0 < suc k → b ≡ false → n < k
tail_below true n k h e = cc
tail_below false n k h e = omega arith

replaced : (pairs : List Pair) (path bytes : List ℕ) (d : Pair)
    → position_or_len (λ p. bytes_eq p.0 path) pairs < length pairs
    → set pairs (position_or_len (λ p. bytes_eq p.0 path) pairs) ((get_or pairs (position_or_len (λ p. bytes_eq p.0 path) pairs) d).0, bytes)
    ≡ with_content pairs path bytes
replaced [] path bytes d h = absurd (omega arith)
replaced (x ∷ xs) path bytes d h =
    replaced_by (bytes_eq x.0 path) x xs (with_content xs path bytes) bytes (position_or_len (λ p. bytes_eq p.0 path) xs) d
    (λ e. replaced xs path bytes d (tail_below (bytes_eq x.0 path) _ (length xs) h e))

-- the first pair of the path, replaced
pub content_replaced : (pairs : List Pair) (path bytes : List ℕ) (i : ℕ) (d : Pair) → position (λ p. bytes_eq p.0 path) pairs ≡ Some i
    → set pairs i ((get_or pairs i d).0, bytes) ≡ with_content pairs path bytes
content_replaced pairs path bytes i d h =
    let inv = cond_some (nat_lt (position_or_len (λ p. bytes_eq p.0 path) pairs) (length pairs)) (position_or_len (λ p. bytes_eq p.0 path) pairs) i h in
    ap (λ n. set pairs n ((get_or pairs n d).0, bytes)) (sym inv.1) ∙ replaced pairs path bytes d (ltb-true _ _ inv.0)

added_by : (b : Bool) (x : Pair) (xs rest : List Pair) (path bytes : List ℕ) → b ≡ false → xs ++ (path, bytes) ∷ [] ≡ rest
    → (x ∷ xs) ++ (path, bytes) ∷ [] ≡ cond b ((x.0, bytes) ∷ xs) (x ∷ rest)
added_by true x xs rest path bytes e h = cc
added_by false x xs rest path bytes e h = ap (λ ys. x ∷ ys) h

none_here : (b : Bool) (n k : ℕ) → suc k ≤ cond (not b) (1 + n) 0 → (b ≡ false) × (k ≤ n)
none_here true n k h = absurd (omega arith)
none_here false n k h = (refl, omega arith)

added : (pairs : List Pair) (path bytes : List ℕ) → length pairs ≤ position_or_len (λ p. bytes_eq p.0 path) pairs
    → pairs ++ (path, bytes) ∷ [] ≡ with_content pairs path bytes
added [] path bytes h = refl
added (x ∷ xs) path bytes h =
    let n = none_here (bytes_eq x.0 path) (position_or_len (λ p. bytes_eq p.0 path) xs) (length xs) h in
    added_by (bytes_eq x.0 path) x xs (with_content xs path bytes) path bytes n.0 (added xs path bytes n.1)

-- a pair of a path that stands nowhere goes last
pub content_added : (pairs : List Pair) (path bytes : List ℕ) → position (λ p. bytes_eq p.0 path) pairs ≡ None
    → pairs ++ (path, bytes) ∷ [] ≡ with_content pairs path bytes
content_added pairs path bytes h =
    added pairs path bytes (ltb-false _ _ (none_past (nat_lt (position_or_len (λ p. bytes_eq p.0 path) pairs) (length pairs)) (position_or_len (λ p. bytes_eq p.0 path) pairs) h))

-- what a path holds, by the first pair
content_cons : (b : Bool) (x : Pair) (xs : List Pair) (q : List ℕ) → bytes_eq x.0 q ≡ b
    → content_of (x ∷ xs) q ≡ cond b (Some x.1) (content_of xs q)
content_cons true x xs q e = ap (λ t. option_map (λ (f : Pair). f.1) (cond t (Some x) (find (λ f. bytes_eq f.0 q) xs))) e
content_cons false x xs q e = ap (λ t. option_map (λ (f : Pair). f.1) (cond t (Some x) (find (λ f. bytes_eq f.0 q) xs))) e

same_text : (a : List ℕ) → bytes_eq a a ≡ true
same_text a = (bytes_eq-Decides a a).1 refl

text_from : (a b : List ℕ) → bytes_eq a b ≡ true → a ≡ b
text_from a b h = (bytes_eq-Decides a b).0 h

same_by : (b : Bool) (x : Pair) (xs rest : List Pair) (path bytes : List ℕ) → bytes_eq x.0 path ≡ b → content_of rest path ≡ Some bytes
    → content_of (cond b ((x.0, bytes) ∷ xs) (x ∷ rest)) path ≡ Some bytes
same_by true x xs rest path bytes e h = content_cons true (x.0, bytes) xs path e
same_by false x xs rest path bytes e h = content_cons false x rest path e ∙ h

-- after a put the path holds the bytes
pub content_with : (pairs : List Pair) (path bytes : List ℕ) → content_of (with_content pairs path bytes) path ≡ Some bytes
content_with [] path bytes = content_cons true (path, bytes) [] path (same_text path)
content_with (x ∷ xs) path bytes =
    same_by (bytes_eq x.0 path) x xs (with_content xs path bytes) path bytes refl (content_with xs path bytes)

either_by : (b : Bool) (x : Pair) (xs rest : List Pair) (q : List ℕ) → bytes_eq x.0 q ≡ b → content_of rest q ≡ content_of xs q
    → content_of (x ∷ rest) q ≡ content_of (x ∷ xs) q
either_by true x xs rest q e h = content_cons true x rest q e ∙ sym (content_cons true x xs q e)
either_by false x xs rest q e h = content_cons false x rest q e ∙ h ∙ sym (content_cons false x xs q e)

other_by : (b : Bool) (x : Pair) (xs rest : List Pair) (path bytes q : List ℕ) → bytes_eq x.0 path ≡ b → q ≢ path
    → content_of rest q ≡ content_of xs q
    → content_of (cond b ((x.0, bytes) ∷ xs) (x ∷ rest)) q ≡ content_of (x ∷ xs) q
other_by true x xs rest path bytes q e ne h =
    let apart : bytes_eq x.0 q ≡ false =
    false_from_ne_true (bytes_eq x.0 q) (λ t. ne (sym (text_from x.0 q t) ∙ text_from x.0 path e)) in
    content_cons false (x.0, bytes) xs q apart ∙ sym (content_cons false x xs q apart)
other_by false x xs rest path bytes q e ne h = either_by (bytes_eq x.0 q) x xs rest q refl h

-- and every other path what it held
pub content_other : (pairs : List Pair) (path bytes q : List ℕ) → q ≢ path → content_of (with_content pairs path bytes) q ≡ content_of pairs q
content_other [] path bytes q ne =
    content_cons false (path, bytes) [] q (false_from_ne_true (bytes_eq path q) (λ t. ne (sym (text_from path q t))))
content_other (x ∷ xs) path bytes q ne =
    other_by (bytes_eq x.0 path) x xs (with_content xs path bytes) path bytes q refl ne (content_other xs path bytes q ne)

-- a put, as the trait says it
pub stored : (old new : StoreHeld) (path bytes : List ℕ) → new.held ≡ with_content old.held path bytes → new.failed ≡ old.failed
    → Stored (told_of old) (told_of new) path bytes
stored old new path bytes held failed = record {
  held = ap (λ pairs. content_of pairs path) held ∙ content_with old.held path bytes;
  others = λ q ne. ap (λ pairs. content_of pairs q) held ∙ content_other old.held path bytes q ne;
  failed = failed;
}

-- a failed put, as the trait says it
pub half_stored : (old new : StoreHeld) (path bytes : List ℕ) → new.held ≡ with_content old.held path bytes
    → new.failed ≡ old.failed ++ failed_put path ∷ [] → PutFailed (told_of old) (told_of new) path
half_stored old new path bytes held failed = record {
  others = λ q ne. ap (λ pairs. content_of pairs q) held ∙ content_other old.held path bytes q ne;
  failed = failed;
}

-- one more call that failed is counted
pub counted_one : (before now : List FailedCall) (call : FailedCall) → now ≡ before ++ call ∷ [] → Counted (length before) (length now)
counted_one before now call is =
    let len : length now ≡ length before + 1 = ap length is ∙ length-append before (call ∷ []) in
    (omega arith, omega arith)
