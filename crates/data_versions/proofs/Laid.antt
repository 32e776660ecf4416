-- Parts that are laid one after another.
use Rattle.std.proofs.Common.{◌≡◌, ℕ, suc, ◌+◌, ◌-◌, ◌<◌, ◌≤◌, List, [], ◌∷◌, ◌++◌, length, take, drop, get_or, refl, sym, ap, ◌∙◌, subst, inl, inr, arith, append-nil, append_assoc, length-append, length-drop}
use Rattle.std.specs.Prelude.{slice_get, Bool, false, All, filter, position, Option, Some, None, option_map}
use Rattle.std.specs.List.{flat_map, AllByRecursion}
use Rattle.std.proofs.lemmas.Bool.{cases_eq, cases_lt}
use Rattle.std.proofs.lemmas.List.{take_more, drop_more, drop_all, take_all, take-take, take-append-le, take-append-drop, drop-append-le, get_or_push, get_or_append_left, get_or-append-add, get_or_read, get_or-drop, get_or-take, drop-drop, length-take, length-take-le}
use Rattle.std.proofs.lemmas.List.Concat.{flat_map-append}
use Rattle.std.proofs.lemmas.List.Elements.{All-append, filter-append, recursion_from_All}
use Rattle.std.proofs.lemmas.Option.{slice_get-get_or}
use Rattle.data_versions.specs.inner.Parts.{IsLaid, IsPart, next_answer}
use Rattle.data_versions.proofs.Finds.{found_left, found_right, none_passes, none_kept}

drop_past : {A : Type 0} (xs ys : List A) (n : ℕ) → drop (length xs + n) (xs ++ ys) ≡ drop n ys
drop_past [] ys n = let e : 0 + n ≡ n = omega arith in ap (λ (m : ℕ). drop m ys) e
drop_past (x ∷ xs) ys n = let e : suc (length xs) + n ≡ suc (length xs + n) = omega arith in ap (λ (m : ℕ). drop m (x ∷ (xs ++ ys))) e ∙ drop_past xs ys n

module _ {B A : Type 0} (f : B → List A) where
  pub laid_more : (ps : List B) (k : ℕ) (p : B) → k < length ps → p ≡ get_or ps k p → flat_map f (take (k + 1) ps) ≡ flat_map f (take k ps) ++ f p
  laid_more ps k p small at =
      ap (flat_map f) (take_more ps k p small) ∙ flat_map-append f (take k ps) (get_or ps k p ∷ [])
      ∙ ap (λ xs. flat_map f (take k ps) ++ xs) (append-nil (f (get_or ps k p)) ∙ ap f (sym at))

  pub laid_rest : (ps : List B) (k : ℕ) (p : B) → k < length ps → p ≡ get_or ps k p → flat_map f (drop k ps) ≡ f p ++ flat_map f (drop (k + 1) ps)
  laid_rest ps k p small at = ap (flat_map f) (drop_more ps k p small) ∙ ap (λ q. f q ++ flat_map f (drop (k + 1) ps)) (sym at)

  laid_split : (ps : List B) (k : ℕ) → flat_map f ps ≡ flat_map f (take k ps) ++ flat_map f (drop k ps)
  laid_split ps k = ap (flat_map f) (sym (take-append-drop k ps)) ∙ flat_map-append f (take k ps) (drop k ps)

  pub laid_within : (ps : List B) (k : ℕ) → length (flat_map f (take k ps)) ≤ length (flat_map f ps)
  laid_within ps k = omega (arith, ap length (laid_split ps k), length-append (flat_map f (take k ps)) (flat_map f (drop k ps)))

  pub length_more : (ps : List B) (k : ℕ) (p : B) → k < length ps → p ≡ get_or ps k p
      → length (flat_map f (take (k + 1) ps)) ≡ length (flat_map f (take k ps)) + length (f p)
  length_more ps k p small at = ap length (laid_more ps k p small at) ∙ length-append (flat_map f (take k ps)) (f p)

  -- the part, and all else
  laid_around : (ps : List B) (k : ℕ) (p : B) → k < length ps → p ≡ get_or ps k p
      → flat_map f ps ≡ flat_map f (take k ps) ++ (f p ++ flat_map f (drop (k + 1) ps))
  laid_around ps k p small at = laid_split ps k ∙ ap (λ xs. flat_map f (take k ps) ++ xs) (laid_rest ps k p small at)

  -- ---- the places at which parts start

  starts_push : (starts : List ℕ) (count : ℕ) (ps : List B) (p : B) → IsLaid f starts count ps
      → IsLaid f (starts ++ count ∷ []) (count + length (f p)) (ps ++ p ∷ [])
  starts_push starts count ps p is =
      let whole : flat_map f (ps ++ p ∷ []) ≡ flat_map f ps ++ f p = flat_map-append f ps (p ∷ []) ∙ ap (λ xs. flat_map f ps ++ xs) (append-nil (f p)) in
      record {
        long = omega (arith, is.long, length-append starts (count ∷ []), length-append ps (p ∷ []));
        each = λ k small. elim (cases_eq k (length ps)) [
          | inl same ↦ subst (λ (n : ℕ). get_or (starts ++ count ∷ []) n 0 ≡ length (flat_map f (take n (ps ++ p ∷ [])))) (sym same)
              (get_or_push starts count 0 (length ps) is.long ∙ is.counted ∙ sym (ap (λ qs. length (flat_map f qs)) (take-append-le (length ps) ps (p ∷ []) (omega arith) ∙ take_all (length ps) ps (omega arith))))
          | inr other ↦ (
              let below : k < length ps = omega (arith, length-append ps (p ∷ [])) in
              get_or_append_left starts (count ∷ []) 0 k (omega (arith, is.long)) ∙ is.each k below
              ∙ sym (ap (λ qs. length (flat_map f qs)) (take-append-le k ps (p ∷ []) (omega arith))))
        ];
        counted = omega (arith, is.counted, ap length whole, length-append (flat_map f ps) (f p));
      }

  pub starts_more : (starts : List ℕ) (count : ℕ) (ps : List B) (k : ℕ) (p : B) → k < length ps → p ≡ get_or ps k p
      → IsLaid f starts count (take k ps) → IsLaid f (starts ++ count ∷ []) (count + length (f p)) (take (k + 1) ps)
  starts_more starts count ps k p small at is =
      subst (λ qs. IsLaid f (starts ++ count ∷ []) (count + length (f p)) qs) (sym (take_more ps k p small ∙ ap (λ q. take k ps ++ q ∷ []) (sym at)))
      (starts_push starts count (take k ps) p is)

  -- a start that was read is how many elements stand before its part
  pub start_is : (starts : List ℕ) (count : ℕ) (ps : List B) (k start : ℕ) → IsLaid f starts count ps → k < length ps
      → start ≡ get_or starts k start → start ≡ length (flat_map f (take k ps))
  start_is starts count ps k start is small at = get_or_read starts k start (omega (arith, is.long)) at 0 ∙ is.each k small

  -- the last part that starts at the place or before it reaches past it
  pub last_reaches : (starts : List ℕ) (count : ℕ) (ps : List B) (k i : ℕ) → IsLaid f starts count ps → k < length starts → i < count
      → (k + 1 < length starts → i < get_or starts (k + 1) 0) → i < length (flat_map f (take (k + 1) ps))
  last_reaches starts count ps k i is small below next = elim (cases_lt (k + 1) (length ps)) [
    | inl more ↦ omega (arith, next (omega (arith, is.long)), is.each (k + 1) more)
    | inr last ↦ omega (arith, is.counted, ap (λ qs. length (flat_map f qs)) (take_all (k + 1) ps last))
  ]

  -- ---- the element at a place

  pub read_in : (ps : List B) (k j : ℕ) (p : B) (d : A) → k < length ps → p ≡ get_or ps k p → j < length (f p)
      → get_or (flat_map f ps) (length (flat_map f (take k ps)) + j) d ≡ get_or (f p) j d
  read_in ps k j p d small at within =
      ap (λ xs. get_or xs (length (flat_map f (take k ps)) + j) d) (laid_around ps k p small at)
      ∙ get_or-append-add (flat_map f (take k ps)) (f p ++ flat_map f (drop (k + 1) ps)) j d ∙ get_or_append_left (f p) (flat_map f (drop (k + 1) ps)) d j within

  pub get_in : (starts : List ℕ) (count : ℕ) (ps : List B) (k i start : ℕ) (p : B) → IsLaid f starts count ps → k < length starts
      → start ≡ get_or starts k start → p ≡ get_or ps k p → i < count → get_or starts k 0 ≤ i → (k + 1 < length starts → i < get_or starts (k + 1) 0)
      → slice_get (f p) (i - start) ≡ slice_get (flat_map f ps) i
  get_in starts count ps k i start p is inside at here below begun next =
      let small : k < length ps = omega (arith, is.long) in
      let begins : start ≡ length (flat_map f (take k ps)) = start_is starts count ps k start is small at in
      let place : length (flat_map f (take k ps)) + (i - start) ≡ i = omega (arith, is.each k small) in
      let reach : i - start < length (f p) = omega (arith, is.each k small, last_reaches starts count ps k i is inside below next, length_more ps k p small here) in
      sym (get_same (flat_map f ps) (f p) i (i - start) (omega (arith, is.counted)) reach
      (λ d. ap (λ (n : ℕ). get_or (flat_map f ps) n d) (sym place) ∙ read_in ps k (i - start) p d small here reach))
    where
      get_same : (xs ys : List A) (i j : ℕ) → i < length xs → j < length ys → ((d : A) → get_or xs i d ≡ get_or ys j d) → slice_get xs i ≡ slice_get ys j
      get_same [] ys i j small within same = absurd (omega arith)
      get_same (x ∷ xs) ys i j small within same = slice_get-get_or (x ∷ xs) i x small ∙ ap Some (same x) ∙ sym (slice_get-get_or ys j x within)

  -- ---- what holds of the elements of one part more

  pub holds_more : (P Q R : A → Type 0) (ps : List B) (k : ℕ) (p : B) → k < length ps → p ≡ get_or ps k p → ((x : A) → P x → R x) → ((x : A) → Q x → R x)
      → All P (flat_map f (take k ps)) → All Q (f p) → All R (flat_map f (take (k + 1) ps))
  holds_more P Q R ps k p small at old new before here =
      subst (λ xs. All R xs) (sym (laid_more ps k p small at))
      (All-append R (flat_map f (take k ps)) (f p) (λ i d h. old _ (before i d h)) (λ i d h. new _ (here i d h)))

  -- ---- what is looked for, from a place on

  -- none passes from the place on among the elements of the first parts
  abbrev pub NoneBefore : (A → Bool) → List B → ℕ → ℕ → Type 0
  NoneBefore p ps from k = (i : ℕ) (d : A) → from ≤ i → i < length (flat_map f (take k ps)) → p (get_or (flat_map f ps) i d) ≡ false

  pub none_more : (p : A → Bool) (ps : List B) (from k : ℕ) (b : B) → k < length ps → b ≡ get_or ps k b → All (λ x. p x ≡ false) (f b)
      → NoneBefore p ps from k → NoneBefore p ps from (k + 1)
  none_more p ps from k b small at none before i d after within = elim (cases_lt i (length (flat_map f (take k ps)))) [
    | inl low ↦ before i d after low
    | inr high ↦ (
        let start : ℕ = length (flat_map f (take k ps)) in
        let place : start + (i - start) ≡ i = omega arith in
        let inside : i - start < length (f b) = omega (arith, length_more ps k b small at) in
        ap (λ (n : ℕ). p (get_or (flat_map f ps) n d)) (sym place) ∙ ap p (read_in ps k (i - start) b d small at inside) ∙ none (i - start) d inside)
  ]

  pub reach_more : (ps : List B) (from k : ℕ) → from < length (flat_map f (take (k + 1) ps)) → from < length (flat_map f (take (k + 1 + 1) ps))
  reach_more ps from k reach =
      omega (arith, laid_within (take (k + 1 + 1) ps) (k + 1), ap (λ qs. length (flat_map f qs)) (take-take (k + 1) (k + 1 + 1) ps (omega arith)))

  -- a part of one of the parts is one of all
  pub part_in : (p : A → Bool) (ps : List B) (from k start place : ℕ) (b : B) (part : List A) → k < length ps → b ≡ get_or ps k b
      → start ≡ length (flat_map f (take k ps)) → from < length (flat_map f (take (k + 1) ps)) → NoneBefore p ps from k
      → IsPart p (from - start) place part (f b) → IsPart p from (start + place) part (flat_map f ps)
  part_in p ps from k start place b part small at begins reach before is =
      let size : length (flat_map f (take (k + 1) ps)) ≡ start + length (f b) = length_more ps k b small at ∙ ap (λ (n : ℕ). n + length (f b)) (sym begins) in
      let rest : List A = flat_map f (drop (k + 1) ps) in
      let within : place + length part ≤ length (f b) = is.within (omega arith) in
      let cut : (n : ℕ) → n ≤ length (f b) → drop (start + n) (flat_map f ps) ≡ drop n (f b) ++ rest = λ n h.
      ap (λ xs. drop (start + n) xs) (laid_around ps k b small at) ∙ ap (λ (m : ℕ). drop (m + n) (flat_map f (take k ps) ++ (f b ++ rest))) begins
      ∙ drop_past (flat_map f (take k ps)) (f b ++ rest) n ∙ drop-append-le n (f b) rest h in
      record {
        since = omega (arith, is.since);
        none = λ i d after early inside. elim (cases_lt i start) [
          | inl low ↦ before i d after (omega arith)
          | inr high ↦ (
              let at_i : length (flat_map f (take k ps)) + (i - start) ≡ i = omega arith in
              let here : i - start < length (f b) = omega (arith, within) in
              ap (λ (n : ℕ). p (get_or (flat_map f ps) n d)) (sym at_i) ∙ ap p (read_in ps k (i - start) b d small at here)
              ∙ is.none (i - start) d (omega arith) (omega arith) here)
        ];
        side = cut place (omega (arith, within)) ∙ ap (λ xs. xs ++ rest) is.side ∙ append_assoc part (drop (place + length part) (f b)) rest
            ∙ ap (λ xs. part ++ xs) (sym (cut (place + length part) within) ∙ ap (λ (n : ℕ). drop n (flat_map f ps)) (omega arith));
        on = λ _. elim (cases_lt from start) [
          | inl low ↦ omega arith
          | inr high ↦ omega (arith, is.on (omega arith))
        ];
        within = λ _. omega (arith, within, size, laid_within ps (k + 1));
      }

-- ---- parts

two_steps : (o : Option ℕ) (a b c : ℕ) → a + b ≡ c → option_map (λ k. a + k) (option_map (λ k. b + k) o) ≡ option_map (λ k. c + k) o
two_steps None a b c e = refl
two_steps (Some k) a b c e = ap Some (omega arith)

module _ {A : Type 0} (p : A → Bool) (all : List A) where
  -- all that is left
  pub part_left : (from : ℕ) → from < length all → IsPart p from from (drop from all) all
  part_left from small = record {
    since = omega arith;
    none = λ i d after early inside. absurd (omega arith);
    side = sym (ap (λ xs. drop from all ++ xs) (drop_all (from + length (drop from all)) all (omega (arith, length-drop from all))) ∙ append-nil (drop from all));
    on = λ _. omega (arith, length-drop from all);
    within = λ _. omega (arith, length-drop from all);
  }

  -- what is skipped on the way to the part
  abbrev skipped : ℕ → ℕ → List A
  skipped from at = take (at - from) (drop from all)

  skip : (from at : ℕ) (part : List A) → IsPart p from at part all → drop from all ≡ skipped from at ++ drop at all
  skip from at part is =
      sym (take-append-drop (at - from) (drop from all)) ∙ ap (λ xs. skipped from at ++ xs) (drop-drop (at - from) from all ∙ ap (λ (n : ℕ). drop n all) (omega (arith, is.since)))

  none_skipped : (from at : ℕ) (part : List A) → IsPart p from at part all → AllByRecursion (λ x. p x ≡ false) (skipped from at)
  none_skipped from at part is = recursion_from_All (λ x. p x ≡ false) (skipped from at) (λ i d small.
      let few : i < at - from = omega (arith, length-take (at - from) (drop from all)) in
      let here : i < length (drop from all) = omega (arith, length-take (at - from) (drop from all)) in
      ap p (get_or-take (at - from) (drop from all) i d few ∙ get_or-drop from all i d)
      ∙ is.none (from + i) d (omega arith) (omega arith) (omega (arith, length-drop from all)))

  pub part_kept : (from at : ℕ) (part : List A) → IsPart p from at part all → filter p (drop from all) ≡ filter p (part ++ drop (at + length part) all)
  part_kept from at part is =
      ap (filter p) (skip from at part is) ∙ filter-append p (skipped from at) (drop at all)
      ∙ ap (λ xs. xs ++ filter p (drop at all)) (none_kept p (skipped from at) (none_skipped from at part is)) ∙ ap (filter p) is.side

  -- the first place of one that passes is that in the part, or behind it
  at_part : (from at : ℕ) (part : List A) → from < length all → IsPart p from at part all
      → next_answer p all from ≡ option_map (λ k. at + k) (position p (drop at all))
  at_part from at part small is =
      let size : length (skipped from at) ≡ at - from = length-take-le (at - from) (drop from all) (omega (arith, is.within, length-drop from all)) in
      ap (λ xs. option_map (λ k. from + k) (position p xs)) (skip from at part is)
      ∙ ap (λ o. option_map (λ k. from + k) o) (found_right p (skipped from at) (drop at all) (none_passes p (skipped from at) (none_skipped from at part is)))
      ∙ two_steps (position p (drop at all)) from (length (skipped from at)) at (omega (arith, is.since, size))

  pub part_found : (from at k : ℕ) (part : List A) → from < length all → IsPart p from at part all → position p part ≡ Some k
      → next_answer p all from ≡ Some (at + k)
  part_found from at k part small is found =
      at_part from at part small is ∙ ap (λ xs. option_map (λ k. at + k) (position p xs)) is.side
      ∙ ap (λ o. option_map (λ k. at + k) o) (found_left p part (drop (at + length part) all) k found)

  pub part_lacks : (from at : ℕ) (part : List A) → from < length all → IsPart p from at part all → position p part ≡ None
      → next_answer p all from ≡ next_answer p all (at + length part)
  part_lacks from at part small is none =
      at_part from at part small is ∙ ap (λ xs. option_map (λ k. at + k) (position p xs)) is.side
      ∙ ap (λ o. option_map (λ k. at + k) o) (found_right p part (drop (at + length part) all) none)
      ∙ two_steps (position p (drop (at + length part) all)) at (length part) (at + length part) refl
