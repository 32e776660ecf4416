-- The open asks are those whose reply waits, and those in the chains of what waits and what is being drawn.
use Rattle.std.proofs.Common.{◌≡◌, ◌+◌, Bool, true, false, ◌&&◌, ◌||◌, cond, List, [], ◌∷◌, ◌++◌, length, map, filter, count_by, refl, sym, ap, ap₂, ◌∙◌, arith}
use Rattle.std.proofs.lemmas.List.Sums.{sum_by-append}
use Rattle.farm_history.specs.declared.queues.Conn.{Conn}
use Rattle.farm_history.specs.Entries.{Entry, Finish}
use Rattle.farm_history.specs.Past.{Numbered, is_ended_after, is_end_of, reply_to, replies_to}
use Rattle.farm_history.specs.Lists.{Each}
use Rattle.farm_history.proofs.Lists.{each-all}
use Rattle.farm_history.proofs.Counts.{count-cons}

pub count-append : {X : Type 0} (q : X → Bool) (xs ys : List X) → count_by q (xs ++ ys) ≡ count_by q xs + count_by q ys
count-append q xs ys = sum_by-append (λ x. cond (q x) 1 0) xs ys

pub count-map : {X Y : Type 0} (f : X → Y) (q : Y → Bool) (xs : List X) → count_by q (map f xs) ≡ count_by (λ x. q (f x)) xs
count-map f q [] = refl
count-map f q (x ∷ xs) = count-cons q (f x) (map f xs) ∙ (ap (λ n. cond (q (f x)) 1 0 + n) (count-map f q xs) ∙ sym (count-cons (λ y. q (f y)) x xs))

pub count-filter : {X : Type 0} (q r : X → Bool) (xs : List X) → count_by q (filter r xs) ≡ count_by (λ x. r x && q x) xs
count-filter q r [] = refl
count-filter q r (x ∷ xs) = go (r x) (count-filter q r xs) ∙ sym (count-cons (λ y. r y && q y) x xs)
  where
    go : (b : Bool) → count_by q (filter r xs) ≡ count_by (λ y. r y && q y) xs → count_by q (cond b (x ∷ filter r xs) (filter r xs)) ≡ cond (b && q x) 1 0 + count_by (λ y. r y && q y) xs
    go true ih = count-cons q x (filter r xs) ∙ ap (λ n. cond (q x) 1 0 + n) ih
    go false ih = ih ∙ omega arith

-- tests that agree on each count the same
pub count-agree : {X : Type 0} (q r : X → Bool) (xs : List X) → Each (λ x. q x ≡ r x) xs → count_by q xs ≡ count_by r xs
count-agree q r [] same = refl
count-agree q r (x ∷ xs) same = count-cons q x xs ∙ (ap₂ (λ b n. cond b 1 0 + n) same.0 (count-agree q r xs same.1) ∙ sym (count-cons r x xs))

-- what passes one of two tests that exclude each other
pub count-either : {X : Type 0} (q r s : X → Bool) (xs : List X) → Each (λ x. (q x ≡ (r x || s x)) × (r x && s x ≡ false)) xs → count_by q xs ≡ count_by r xs + count_by s xs
count-either q r s [] each = refl
count-either q r s (x ∷ xs) each =
    count-cons q x xs ∙ (step (r x) (s x) (q x) each.0.0 each.0.1 (count-either q r s xs each.1) ∙ ap₂ (λ m n. m + n) (sym (count-cons r x xs)) (sym (count-cons s x xs)))
  where
    step : (b c d : Bool) → d ≡ (b || c) → b && c ≡ false → count_by q xs ≡ count_by r xs + count_by s xs → cond d 1 0 + count_by q xs ≡ (cond b 1 0 + count_by r xs) + (cond c 1 0 + count_by s xs)
    step true true d either both ih = cc
    step true false d either both ih = rw either (omega arith)
    step false true d either both ih = rw either (omega arith)
    step false false d either both ih = rw either (omega arith)

pub count-zero : {X : Type 0} (q : X → Bool) (xs : List X) → Each (λ x. q x ≡ false) xs → count_by q xs ≡ 0
count-zero q [] fails = refl
count-zero q (x ∷ xs) fails = count-cons q x xs ∙ ap₂ (λ b n. cond b 1 0 + n) fails.0 (count-zero q xs fails.1) ∙ omega arith

-- as many replies wait as asks have ended
pub count_replies : (q : Conn → Bool) (asks : List Numbered) (h : List Entry) →
    count_by (λ r. q r.conn) (replies_to asks h) ≡ count_by (λ a. q a.conn && is_ended_after h (length a.before) a.key) asks
unfolding replies_to is_ended_after
count_replies q asks [] = sym (count-zero _ asks (each-all _ asks (λ a. grind arith)))
count_replies q asks (Finish t drawn answer ∷ g) =
    count-append (λ r. q r.conn) (replies_to asks g) _
    ∙ (ap₂ (λ m n. m + n) (count_replies q asks g) (count-map (reply_to answer) (λ r. q r.conn) (filter (is_end_of g e) asks) ∙ count-filter (λ a. q a.conn) (is_end_of g e) asks)
    ∙ sym (count-either _ (λ a. q a.conn && is_ended_after g (length a.before) a.key) (λ a. is_end_of g e a && q a.conn) asks (each-all _ asks (λ a. (grind arith, grind arith)))))
  where
    e : Entry
    e = Finish t drawn answer
count_replies q asks (_ ∷ g) = count_replies q asks g
