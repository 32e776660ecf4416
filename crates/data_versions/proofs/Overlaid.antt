-- Slots into some of which something was put.
use Rattle.std.proofs.Common.{◌≡◌, ℕ, zero, suc, ◌+◌, ◌-◌, ◌<◌, ◌≤◌, List, [], ◌∷◌, ◌++◌, length, get_or, set, refl, sym, ap, ◌∙◌, inl, inr, append-nil, append_assoc, length-append, arith}
use Rattle.std.specs.Prelude.{Bool, true, false, nat_eq, cond, map, replicate, slice_get, Option, Some, None, option_map, unwrap_or}
use Rattle.std.specs.Ordering.{nat_cmp}
use Rattle.std.specs.declared.cmp.Ordering.TheVariants.{Less}
use Rattle.std.specs.Map.{lookup, keys_of}
use Rattle.std.specs.BTreeMap.{BTreeMap, Updates, is_at, IsOrdered}
use Rattle.std.specs.List.Sorted.{IsStrictlySortedBy}
use Rattle.std.specs.List.{AllByRecursion, cons_option}
use Rattle.std.specs.Borrow.{Bor}
use Rattle.std.specs.Option.{option_copied, option_to_list}
use Rattle.std.proofs.lemmas.Bool.{cases_eq, cases_lt, eq-eqb}
use Rattle.std.proofs.lemmas.Bool.Decides.{nat_tests}
use Rattle.std.proofs.lemmas.Map.Keys.{sorted_head, sorted_tail}
use Rattle.std.proofs.lemmas.List.{length-map, length-replicate, replicate_more}
use Rattle.plain_shapes.specs.Features.{Feature}
use Rattle.data_versions.specs.inner.Slots.{standing, base_slots, overlaid, IsPutWithin}
use Rattle.data_versions.specs.inner.Edits.{edits_of, standing_edits, edited}

abbrev Put : Type 0
Put = List (ℕ × Option (Bor Feature))

abbrev free : Option Feature
free = None

-- what was put into the slot of the number, if something was
abbrev put_at : Put → ℕ → Option (Option (Bor Feature))
put_at put n = lookup (is_at (nat_cmp n)) put

length-overlaid : (n : ℕ) (put : Put) (slots : List (Option Feature)) → length (overlaid n put slots) ≡ length slots
length-overlaid n put [] = refl
length-overlaid n put (s ∷ slots) = ap suc (length-overlaid (suc n) put slots)

pub nothing_put : (n : ℕ) (slots : List (Option Feature)) → overlaid n [] slots ≡ slots
nothing_put n [] = refl
nothing_put n (s ∷ slots) = ap (λ ss. s ∷ ss) (nothing_put (suc n) slots)

-- ---- the slots from the start

length-base : (features : List Feature) (count : ℕ) → length features ≤ count → length (base_slots features count) ≡ count
length-base features count enough =
    omega (arith, length-append (map Some features) (replicate (count - length features) None), length-map features Some, length-replicate {A = Option Feature} (count - length features) None)

pub base_first : (features : List Feature) (count : ℕ) → count ≡ length features → base_slots features count ≡ map Some features
base_first features count e =
    let none : count - length features ≡ 0 = omega (arith, e) in
    ap (λ (n : ℕ). map Some features ++ replicate n None) none ∙ append-nil (map Some features)

base_more : (features : List Feature) (count : ℕ) → length features ≤ count → base_slots features (count + 1) ≡ base_slots features count ++ None ∷ []
base_more features count enough =
    let more : count + 1 - length features ≡ count - length features + 1 = omega arith in
    ap (λ (n : ℕ). map Some features ++ replicate n None) more ∙ ap (λ ss. map Some features ++ ss) (sym (replicate_more (count - length features) None))
    ∙ sym (append_assoc (map Some features) (replicate (count - length features) None) (None ∷ []))

nothing : (n i : ℕ) → get_or (replicate n free) i None ≡ None
nothing zero i = refl
nothing (suc n) zero = refl
nothing (suc n) (suc i) = nothing n i

base_at : (features : List Feature) (n i : ℕ) → get_or (map Some features ++ replicate n None) i None ≡ slice_get features i
base_at [] n i = nothing n i
base_at (f ∷ features) n zero = refl
base_at (f ∷ features) n (suc i) = base_at features n i

-- ---- what stands in a slot

overlaid_at : (n i : ℕ) (put : Put) (slots : List (Option Feature)) → i < length slots
    → get_or (overlaid n put slots) i None ≡ unwrap_or (option_map option_copied (put_at put (n + i))) (get_or slots i None)
overlaid_at n i put [] small = absurd (omega arith)
overlaid_at n zero put (s ∷ slots) small = let e : n ≡ n + 0 = omega arith in ap (λ (m : ℕ). unwrap_or (option_map option_copied (put_at put m)) s) e
overlaid_at n (suc i) put (s ∷ slots) small =
    let e : suc n + i ≡ n + suc i = omega arith in
    overlaid_at (suc n) i put slots (omega arith) ∙ ap (λ (m : ℕ). unwrap_or (option_map option_copied (put_at put m)) (get_or slots i None)) e

past_all : (slots : List (Option Feature)) (i : ℕ) → length slots ≤ i → get_or slots i None ≡ None
past_all [] i past = refl
past_all (s ∷ slots) zero past = absurd (omega arith)
past_all (s ∷ slots) (suc i) past = past_all slots i (omega arith)

stands_at : (put : Put) (features : List Feature) (count i : ℕ) → IsPutWithin put features count
    → get_or (overlaid 0 put (base_slots features count)) i None ≡ unwrap_or (option_map option_copied (put_at put i)) (slice_get features i)
stands_at put features count i is = elim (cases_lt i count) [
  | inl small ↦ (let e : 0 + i ≡ i = omega arith in
      overlaid_at 0 i put (base_slots features count) (omega (arith, length-base features count is.enough))
      ∙ ap (λ (m : ℕ). unwrap_or (option_map option_copied (put_at put m)) (get_or (base_slots features count) i None)) e
      ∙ ap (λ s. unwrap_or (option_map option_copied (put_at put i)) s) (base_at features (count - length features) i))
  | inr past ↦ (
      past_all (overlaid 0 put (base_slots features count)) i (omega (arith, length-overlaid 0 put (base_slots features count), length-base features count is.enough))
      ∙ sym (ap (λ o. unwrap_or (option_map option_copied o) (slice_get features i)) (is.none i past) ∙ beyond features i (omega (arith, is.enough))))
]
  where
    beyond : (features : List Feature) (i : ℕ) → length features ≤ i → slice_get features i ≡ None
    beyond [] i past = refl
    beyond (f ∷ features) zero past = absurd (omega arith)
    beyond (f ∷ features) (suc i) past = beyond features i (omega arith)

pub slot_count : (put : Put) (features : List Feature) (count : ℕ) → IsPutWithin put features count → length (overlaid 0 put (base_slots features count)) ≡ count
slot_count put features count is = length-overlaid 0 put (base_slots features count) ∙ length-base features count is.enough

pub put_there : (put : Put) (features : List Feature) (count i : ℕ) (v : Option (Bor Feature)) → IsPutWithin put features count → put_at put i ≡ Some v
    → get_or (overlaid 0 put (base_slots features count)) i None ≡ option_copied v
put_there put features count i v is there = stands_at put features count i is ∙ ap (λ o. unwrap_or (option_map option_copied o) (slice_get features i)) there

pub none_put : (put : Put) (features : List Feature) (count i : ℕ) → IsPutWithin put features count → put_at put i ≡ None
    → get_or (overlaid 0 put (base_slots features count)) i None ≡ slice_get features i
none_put put features count i is none = stands_at put features count i is ∙ ap (λ o. unwrap_or (option_map option_copied o) (slice_get features i)) none

-- ---- something more is put

other_slot : (a b : ℕ) → (a ≡ b → ⊥) → is_at (nat_cmp a) b ≡ false
other_slot a b h = grind (arith, nat_tests)

own_slot : (a : ℕ) → is_at (nat_cmp a) a ≡ true
own_slot a = grind (arith, nat_tests)

module _ (old new : BTreeMap ℕ (Option (Bor Feature))) (k : ℕ) (v : Option (Bor Feature)) (updates : Updates nat_cmp old new k (Some v)) where
  stays : (q : ℕ) → (k ≡ q → ⊥) → put_at new.entries q ≡ put_at old.entries q
  stays q other = updates.2 q (other_slot k q other)

  lies : put_at new.entries k ≡ Some v
  lies = updates.1

  overlaid_before : (n : ℕ) (slots : List (Option Feature)) → n + length slots ≤ k → overlaid n new.entries slots ≡ overlaid n old.entries slots
  overlaid_before n [] before = refl
  overlaid_before n (s ∷ slots) before =
      rw (stays n (λ e. absurd (omega (arith, e, before))), overlaid_before (suc n) slots (omega (arith, before))) refl

  overlaid_after : (n : ℕ) (slots : List (Option Feature)) → k < n → overlaid n new.entries slots ≡ overlaid n old.entries slots
  overlaid_after n [] after = refl
  overlaid_after n (s ∷ slots) after = rw (stays n (λ e. absurd (omega (arith, e, after))), overlaid_after (suc n) slots (omega (arith, after))) refl

  overlaid_set : (n j : ℕ) (slots : List (Option Feature)) → k ≡ n + j → j < length slots
      → overlaid n new.entries slots ≡ set (overlaid n old.entries slots) j (option_copied v)
  overlaid_set n j [] e small = absurd (omega arith)
  overlaid_set n zero (s ∷ slots) e small =
      let here : n ≡ k = omega (arith, e) in
      rw (ap (put_at new.entries) here ∙ lies, overlaid_after (suc n) slots (omega (arith, e))) refl
  overlaid_set n (suc j) (s ∷ slots) e small =
      rw (stays n (λ h. absurd (omega (arith, e, h))), overlaid_set (suc n) j slots (omega (arith, e)) (omega (arith, small))) refl

  pub put_is : (features : List Feature) (count : ℕ) → k < length (overlaid 0 old.entries (base_slots features count))
      → overlaid 0 new.entries (base_slots features count) ≡ set (overlaid 0 old.entries (base_slots features count)) k (option_copied v)
  put_is features count small =
      overlaid_set 0 k (base_slots features count) (omega arith) (omega (arith, small, length-overlaid 0 old.entries (base_slots features count)))

  pub put_within : (features : List Feature) (count : ℕ) → IsPutWithin old.entries features count → k < length (overlaid 0 old.entries (base_slots features count))
      → IsPutWithin new.entries features count
  put_within features count is small =
      let below : k < count = omega (arith, small, slot_count old.entries features count is) in record {
        enough = is.enough;
        none = λ n past. stays n (λ e. absurd (omega (arith, e, below, past))) ∙ is.none n past;
      }

  pub pushed_is : (features : List Feature) (count : ℕ) → length features ≤ count → k ≡ count
      → overlaid 0 new.entries (base_slots features (count + 1)) ≡ overlaid 0 old.entries (base_slots features count) ++ option_copied v ∷ []
  pushed_is features count enough last =
      ap (overlaid 0 new.entries) (base_more features count enough) ∙ at_end 0 (base_slots features count) (omega (arith, last, length-base features count enough))
    where
      at_end : (n : ℕ) (slots : List (Option Feature)) → n + length slots ≡ k → overlaid n new.entries (slots ++ None ∷ []) ≡ overlaid n old.entries slots ++ option_copied v ∷ []
      at_end n [] e = let here : n ≡ k = omega (arith, e) in rw (ap (put_at new.entries) here ∙ lies) refl
      at_end n (s ∷ slots) e = rw (stays n (λ h. absurd (omega (arith, e, h))), at_end (suc n) slots (omega (arith, e))) refl

-- ---- what stands in all slots is what the edits leave

-- no number is below n
abbrev FromOn : ℕ → Put → Type 0
FromOn n put = AllByRecursion (λ (q : ℕ). n ≤ q) (keys_of put)

after_first : (n m : ℕ) (qs : List ℕ) → n ≤ m → AllByRecursion (λ (q : ℕ). nat_cmp m q ≡ Less) qs → AllByRecursion (λ (q : ℕ). suc n ≤ q) qs
after_first n m [] h each = tt
after_first n m (q ∷ qs) h each = (above n m q h each.0, after_first n m qs h each.1)
  where
    above : (n m q : ℕ) → n ≤ m → nat_cmp m q ≡ Less → suc n ≤ q
    above n m q h e = grind (arith, nat_tests)

none_at_first : (n : ℕ) (put : Put) → AllByRecursion (λ (q : ℕ). suc n ≤ q) (keys_of put) → put_at put n ≡ None
none_at_first n [] each = refl
none_at_first n (e ∷ put) each = rw (other_slot n e.0 (λ h. absurd (omega (arith, h, each.0)))) (none_at_first n put each.1)

-- an entry of an earlier number is of no slot
overlaid_skip : (n : ℕ) (e : ℕ × Option (Bor Feature)) (put : Put) (slots : List (Option Feature)) → e.0 < n → overlaid n (e ∷ put) slots ≡ overlaid n put slots
overlaid_skip n e put [] early = refl
overlaid_skip n e put (s ∷ slots) early =
    rw (other_slot n e.0 (λ h. absurd (omega (arith, h, early))), overlaid_skip (suc n) e put slots (omega (arith, early))) refl

none_stand : (n : ℕ) (m : ℕ) → standing (replicate m free) ≡ []
none_stand n zero = refl
none_stand n (suc m) = none_stand n m

cons_is : (s : Option Feature) (fs : List Feature) → cons_option s fs ≡ option_to_list s ++ fs
cons_is None fs = refl
cons_is (Some f) fs = refl

tail_lacks : (e : ℕ × Option (Bor Feature)) (put : Put) (q : ℕ) → put_at (e ∷ put) q ≡ None → put_at put q ≡ None
tail_lacks e put q none = by_test (is_at (nat_cmp q) e.0) none
  where
    by_test : (b : Bool) → cond b (Some e.1) (put_at put q) ≡ None → put_at put q ≡ None
    by_test true h = cc
    by_test false h = h

-- past the features, what was put stands, and nothing else
rest_stands : (m n : ℕ) (put : Put) → IsStrictlySortedBy nat_cmp (keys_of put) → FromOn n put → ((q : ℕ) → n + m ≤ q → put_at put q ≡ None)
    → standing (overlaid n put (replicate m free)) ≡ standing_edits (edits_of put)
rest_stands m n [] sorted from within = ap standing (nothing_put n (replicate m free)) ∙ none_stand n m
rest_stands zero n (e ∷ put) sorted from within =
    let there : put_at (e ∷ put) e.0 ≡ Some e.1 = rw (own_slot e.0) refl in
    let none : put_at (e ∷ put) e.0 ≡ None = within e.0 (omega (arith, from.0)) in cc
rest_stands (suc m) n (e ∷ put) sorted from within = elim (cases_eq e.0 n) [
  | inl here ↦ (
      let there : put_at (e ∷ put) n ≡ Some e.1 = rw (← here, own_slot e.0) refl in
      rw there (ap (cons_option (option_copied e.1))
      (ap standing (overlaid_skip (suc n) e put (replicate m free) (omega (arith, here)))
      ∙ rest_stands m (suc n) put (sorted_tail nat_cmp e.0 (keys_of put) sorted) (after_first n e.0 (keys_of put) (omega (arith, here)) (sorted_head nat_cmp e.0 (keys_of put) sorted))
      (λ q past. tail_lacks e put q (within q (omega (arith, past)))))))
  | inr other ↦ (
      let later : AllByRecursion (λ (q : ℕ). suc n ≤ q) (keys_of (e ∷ put)) = (omega (arith, from.0), after_first n e.0 (keys_of put) from.0 (sorted_head nat_cmp e.0 (keys_of put) sorted)) in
      rw (none_at_first n (e ∷ put) later) (rest_stands m (suc n) (e ∷ put) sorted later (λ q past. within q (omega (arith, past)))))
]

all_stand : (features : List Feature) (m : ℕ) → standing (map Some features ++ replicate m free) ≡ features
all_stand [] m = none_stand 0 m
all_stand (f ∷ features) m = ap (λ fs. f ∷ fs) (all_stand features m)

stands_edited : (features : List Feature) (m n : ℕ) (put : Put) → IsStrictlySortedBy nat_cmp (keys_of put) → FromOn n put → ((q : ℕ) → n + length features + m ≤ q → put_at put q ≡ None)
    → standing (overlaid n put (map Some features ++ replicate m free)) ≡ edited n (edits_of put) features
stands_edited [] m n put sorted from within = rest_stands m n put sorted from (λ q past. within q (omega (arith, past)))
stands_edited (f ∷ features) m n [] sorted from within = ap standing (nothing_put n (Some f ∷ (map Some features ++ replicate m free))) ∙ all_stand (f ∷ features) m
stands_edited (f ∷ features) m n (e ∷ put) sorted from within = elim (cases_eq e.0 n) [
  | inl here ↦ (
      let there : put_at (e ∷ put) n ≡ Some e.1 = rw (← here, own_slot e.0) refl in
      rw (there, eq-eqb e.0 n here) (ap (cons_option (option_copied e.1))
      (ap standing (overlaid_skip (suc n) e put (map Some features ++ replicate m free) (omega (arith, here)))
      ∙ stands_edited features m (suc n) put (sorted_tail nat_cmp e.0 (keys_of put) sorted) (after_first n e.0 (keys_of put) (omega (arith, here)) (sorted_head nat_cmp e.0 (keys_of put) sorted))
      (λ q past. tail_lacks e put q (within q (omega (arith, past)))))
      ∙ cons_is (option_copied e.1) (edited (suc n) (edits_of put) features)))
  | inr other ↦ (
      let later : AllByRecursion (λ (q : ℕ). suc n ≤ q) (keys_of (e ∷ put)) = (omega (arith, from.0), after_first n e.0 (keys_of put) from.0 (sorted_head nat_cmp e.0 (keys_of put) sorted)) in
      let not_here : nat_eq e.0 n ≡ false = differs e.0 n other in
      rw (none_at_first n (e ∷ put) later, not_here) (ap (λ fs. f ∷ fs) (stands_edited features m (suc n) (e ∷ put) sorted later (λ q past. within q (omega (arith, past))))))
]
  where
    differs : (a b : ℕ) → (a ≡ b → ⊥) → nat_eq a b ≡ false
    differs a b h = grind (arith, nat_tests)

pub all_edited : (put : BTreeMap ℕ (Option (Bor Feature))) (features : List Feature) (count : ℕ) → IsPutWithin put.entries features count → IsOrdered nat_cmp put
    → standing (overlaid 0 put.entries (base_slots features count)) ≡ edited 0 (edits_of put.entries) features
all_edited put features count is ordered =
    stands_edited features (count - length features) 0 put.entries ordered (from_nothing (keys_of put.entries)) (λ q past. is.none q (omega (arith, is.enough, past)))
  where
    from_nothing : (qs : List ℕ) → AllByRecursion (λ (q : ℕ). 0 ≤ q) qs
    from_nothing [] = tt
    from_nothing (q ∷ qs) = (omega arith, from_nothing qs)
