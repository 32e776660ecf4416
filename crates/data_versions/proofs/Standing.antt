-- What a removal and a put do to the slots of a layer, and to the places of its ids.
use Rattle.std.proofs.Common.{◌≡◌, ℕ, zero, suc, ◌+◌, ◌<◌, List, [], ◌∷◌, ◌++◌, length, get_or, set, refl, sym, ◌∙◌, ap, subst, inl, inr, length-append, arith}
use Rattle.std.specs.Prelude.{◌⊎◌, true, false, nat_eq, Option, Some, None}
use Rattle.std.specs.Ordering.{nat_cmp}
use Rattle.std.specs.BTreeMap.{BTreeMap, get, Updates, is_at}
use Rattle.std.specs.Map.{lookup}
use Rattle.std.specs.List.{AllByRecursion, IsDistinct}
use Rattle.std.proofs.lemmas.Bool.{cases_eq, eq-eqb, or_right}
use Rattle.std.proofs.lemmas.Bool.Decides.{nat_tests}
use Rattle.std.proofs.lemmas.List.{length-map, get_or-set_same, get_or-set_other}
use Rattle.std.proofs.lemmas.List.Elements.{filter_map-append}
use Rattle.plain_shapes.specs.Features.{Feature}
use Rattle.plain_shapes.specs.Data.{has_id, ids_of}
use Rattle.geo_model.proofs.Boxes.{no_left, no_right}
use Rattle.data_versions.specs.inner.Slots.{standing, slot_id, KnowsPlaces, StandsNowhere, without, replaced_by, with_put}

apart : (a b : ℕ) → (a ≡ b → ⊥) → nat_eq a b ≡ false
apart a b h = grind (arith, nat_tests)

pub none_some : {A : Type 0} {x : Option ℕ} {k : ℕ} → x ≡ None → x ≡ Some k → A
none_some h g = cc

pub some_same : (a b : ℕ) → Some a ≡ Some b → a ≡ b
some_same a b h = cc

-- ---- where no slot has the id

none_without : (slots : List (Option Feature)) (id : ℕ) → ((j : ℕ) → slot_id (get_or slots j None) ≡ Some id → ⊥)
    → without id (standing slots) ≡ standing slots
none_without [] id none = refl
none_without (None ∷ slots) id none = none_without slots id (λ j. none (suc j))
none_without (Some f ∷ slots) id none =
    let other : nat_eq id f.id ≡ false = apart id f.id (λ e. none 0 (ap Some (sym e))) in
    rw other (ap (λ fs. f ∷ fs) (none_without slots id (λ j. none (suc j))))

none_replaced : (slots : List (Option Feature)) (g : Feature) → ((j : ℕ) → slot_id (get_or slots j None) ≡ Some g.id → ⊥)
    → replaced_by g (standing slots) ≡ standing slots
none_replaced [] g none = refl
none_replaced (None ∷ slots) g none = none_replaced slots g (λ j. none (suc j))
none_replaced (Some f ∷ slots) g none =
    let other : nat_eq g.id f.id ≡ false = apart g.id f.id (λ e. none 0 (ap Some (sym e))) in
    rw other (ap (λ fs. f ∷ fs) (none_replaced slots g (λ j. none (suc j))))

pub none_has : (slots : List (Option Feature)) (id : ℕ) → ((j : ℕ) → slot_id (get_or slots j None) ≡ Some id → ⊥)
    → has_id (ids_of (standing slots)) id ≡ false
none_has [] id none = refl
none_has (None ∷ slots) id none = none_has slots id (λ j. none (suc j))
none_has (Some f ∷ slots) id none =
    let other : nat_eq id f.id ≡ false = apart id f.id (λ e. none 0 (ap Some (sym e))) in
    rw other (none_has slots id (λ j. none (suc j)))

-- ---- where one slot has it

no_suc : (k : ℕ) → 0 ≡ suc k → ⊥
no_suc k h = absurd (omega arith)

one_less : (j k : ℕ) → suc j ≡ suc k → j ≡ k
one_less j k h = omega arith

pub one_has : (slots : List (Option Feature)) (id k : ℕ) → slot_id (get_or slots k None) ≡ Some id → has_id (ids_of (standing slots)) id ≡ true
one_has [] id k here = cc
one_has (None ∷ slots) id zero here = cc
one_has (None ∷ slots) id (suc k) here = one_has slots id k here
one_has (Some f ∷ slots) id zero here =
    let same : nat_eq id f.id ≡ true = eq-eqb id f.id (sym (some_same f.id id here)) in
    rw same refl
one_has (Some f ∷ slots) id (suc k) here = or_right (nat_eq id f.id) (has_id (ids_of (standing slots)) id) (one_has slots id k here)

standing_removed : (slots : List (Option Feature)) (id k : ℕ) → slot_id (get_or slots k None) ≡ Some id
    → ((j : ℕ) → slot_id (get_or slots j None) ≡ Some id → j ≡ k) → standing (set slots k None) ≡ without id (standing slots)
standing_removed [] id k here only = cc
standing_removed (None ∷ slots) id zero here only = cc
standing_removed (None ∷ slots) id (suc k) here only = standing_removed slots id k here (λ j h. one_less j k (only (suc j) h))
standing_removed (Some f ∷ slots) id zero here only =
    let same : nat_eq id f.id ≡ true = eq-eqb id f.id (sym (some_same f.id id here)) in
    rw same (sym (none_without slots id (λ j h. no_suc j (sym (only (suc j) h)))))
standing_removed (Some f ∷ slots) id (suc k) here only =
    let other : nat_eq id f.id ≡ false = apart id f.id (λ e. no_suc k (only 0 (ap Some (sym e)))) in
    rw other (ap (λ fs. f ∷ fs) (standing_removed slots id k here (λ j h. one_less j k (only (suc j) h))))

standing_replaced : (slots : List (Option Feature)) (g : Feature) (k : ℕ) → slot_id (get_or slots k None) ≡ Some g.id
    → ((j : ℕ) → slot_id (get_or slots j None) ≡ Some g.id → j ≡ k) → standing (set slots k (Some g)) ≡ replaced_by g (standing slots)
standing_replaced [] g k here only = cc
standing_replaced (None ∷ slots) g zero here only = cc
standing_replaced (None ∷ slots) g (suc k) here only = standing_replaced slots g k here (λ j h. one_less j k (only (suc j) h))
standing_replaced (Some f ∷ slots) g zero here only =
    let same : nat_eq g.id f.id ≡ true = eq-eqb g.id f.id (sym (some_same f.id g.id here)) in
    rw same (ap (λ fs. g ∷ fs) (sym (none_replaced slots g (λ j h. no_suc j (sym (only (suc j) h))))))
standing_replaced (Some f ∷ slots) g (suc k) here only =
    let other : nat_eq g.id f.id ≡ false = apart g.id f.id (λ e. no_suc k (only 0 (ap Some (sym e)))) in
    rw other (ap (λ fs. f ∷ fs) (standing_replaced slots g k here (λ j h. one_less j k (only (suc j) h))))

-- ---- how many stand

pub fewer_standing : (slots : List (Option Feature)) (id k : ℕ) → slot_id (get_or slots k None) ≡ Some id
    → length (standing (set slots k None)) + 1 ≡ length (standing slots)
fewer_standing [] id k here = cc
fewer_standing (None ∷ slots) id zero here = cc
fewer_standing (None ∷ slots) id (suc k) here = fewer_standing slots id k here
fewer_standing (Some f ∷ slots) id zero here = omega arith
fewer_standing (Some f ∷ slots) id (suc k) here = omega (arith, fewer_standing slots id k here)

pub same_standing : (g : Feature) (features : List Feature) → length (replaced_by g features) ≡ length features
same_standing g features = simp length-map

-- ---- the places, after each step

pub in_slots : (slots : List (Option Feature)) (k id : ℕ) → slot_id (get_or slots k None) ≡ Some id → k < length slots
in_slots [] k id here = cc
in_slots (s ∷ slots) zero id here = omega arith
in_slots (s ∷ slots) (suc k) id here = omega (arith, in_slots slots k id here)

same_number : (k q : ℕ) → is_at (nat_cmp k) q ≡ nat_eq k q
same_number k q = grind (arith, nat_tests)

-- at another id the places are as they were
kept_place : (places after : BTreeMap ℕ ℕ) (id q : ℕ) (w : Option ℕ) → Updates nat_cmp places after id w → (id ≡ q → ⊥) → get nat_cmp after q ≡ get nat_cmp places q
kept_place places after id q w updates other = updates.2 q (same_number id q ∙ apart id q other)

set_other : (slots : List (Option Feature)) (k j : ℕ) (s : Option Feature) → (j ≡ k → ⊥) → get_or (set slots k s) j None ≡ get_or slots j None
set_other slots k j s other = get_or-set_other slots k j s None other

set_same : (slots : List (Option Feature)) (k : ℕ) (s : Option Feature) → k < length slots → get_or (set slots k s) k None ≡ s
set_same slots k s small = get_or-set_same slots k s None small

-- what stands once a slot is emptied stood before, in another slot
stood : (slots : List (Option Feature)) (k j q : ℕ) → slot_id (get_or (set slots k None) j None) ≡ Some q → slot_id (get_or slots j None) ≡ Some q
stood [] k j q there = there
stood (s ∷ slots) zero zero q there = cc
stood (s ∷ slots) zero (suc j) q there = there
stood (s ∷ slots) (suc k) zero q there = there
stood (s ∷ slots) (suc k) (suc j) q there = stood slots k j q there

not_emptied : (slots : List (Option Feature)) (k j q : ℕ) → slot_id (get_or (set slots k None) j None) ≡ Some q → j ≡ k → ⊥
not_emptied [] k j q there e = cc
not_emptied (s ∷ slots) zero zero q there e = cc
not_emptied (s ∷ slots) zero (suc j) q there e = no_suc j (sym e)
not_emptied (s ∷ slots) (suc k) zero q there e = no_suc k e
not_emptied (s ∷ slots) (suc k) (suc j) q there e = not_emptied slots k j q there (one_less j k e)

pub knows_removed : (places after : BTreeMap ℕ ℕ) (features : List Feature) (slots : List (Option Feature)) (id k : ℕ) → KnowsPlaces places features slots
    → slot_id (get_or slots k None) ≡ Some id → Updates nat_cmp places after id None → KnowsPlaces after features (set slots k None)
knows_removed places after features slots id k knows here updates = record {
  found = λ q j there. elim (cases_eq id q) [
    | inl e ↦ (let gone : get nat_cmp after q ≡ None = subst (λ (x : ℕ). get nat_cmp after x ≡ None) e updates.1 in cc)
    | inr other ↦ (
        let slot : slot_id (get_or slots j None) ≡ Some q = knows.found q j (sym (kept_place places after id q None updates other) ∙ there) in
        let away : (j ≡ k → ⊥) = λ e. other (some_same id q (sym here ∙ ap (λ i. slot_id (get_or slots i None)) (sym e) ∙ slot)) in
        rw (set_other slots k j None away) slot)
  ];
  held = λ q j there.
      let slot : slot_id (get_or slots j None) ≡ Some q = stood slots k j q there in
      let other : (id ≡ q → ⊥) = λ e. not_emptied slots k j q there (knows.one id j k (slot ∙ ap Some (sym e)) here) in
      elim (knows.held q j slot) [
        | inl told ↦ inl (kept_place places after id q None updates other ∙ told)
        | inr first ↦ inr first
      ];
  one = λ q i j a b. knows.one q i j (stood slots k i q a) (stood slots k j q b);
}

-- a slot whose feature is replaced by another of its id
same_ids : (slots : List (Option Feature)) (g : Feature) (k j : ℕ) → slot_id (get_or slots k None) ≡ Some g.id
    → slot_id (get_or (set slots k (Some g)) j None) ≡ slot_id (get_or slots j None)
same_ids slots g k j here = elim (cases_eq j k) [
  | inl e ↦ subst (λ (x : ℕ). slot_id (get_or (set slots k (Some g)) x None) ≡ slot_id (get_or slots x None)) (sym e)
      (ap slot_id (set_same slots k (Some g) (in_slots slots k g.id here)) ∙ sym here)
  | inr away ↦ ap slot_id (set_other slots k j (Some g) away)
]

pub knows_replaced : (places : BTreeMap ℕ ℕ) (features : List Feature) (slots : List (Option Feature)) (g : Feature) (k : ℕ)
    → KnowsPlaces places features slots → slot_id (get_or slots k None) ≡ Some g.id → KnowsPlaces places features (set slots k (Some g))
knows_replaced places features slots g k knows here = record {
  found = λ q j there. same_ids slots g k j here ∙ knows.found q j there;
  held = λ q j there. knows.held q j (sym (same_ids slots g k j here) ∙ there);
  one = λ q i j a b. knows.one q i j (sym (same_ids slots g k i here) ∙ a) (sym (same_ids slots g k j here) ∙ b);
}

pushed_last : (slots : List (Option Feature)) (s : Option Feature) → get_or (slots ++ s ∷ []) (length slots) None ≡ s
pushed_last [] s = refl
pushed_last (x ∷ slots) s = pushed_last slots s

pushed_other : (slots : List (Option Feature)) (s : Option Feature) (j : ℕ) → (j ≡ length slots → ⊥) → get_or (slots ++ s ∷ []) j None ≡ get_or slots j None
pushed_other [] s zero other = absurd (other refl)
pushed_other [] s (suc j) other = refl
pushed_other (x ∷ slots) s zero other = refl
pushed_other (x ∷ slots) s (suc j) other = pushed_other slots s j (λ e. other (ap suc e))

past_end : (slots : List (Option Feature)) (id j : ℕ) → slot_id (get_or slots j None) ≡ Some id → (j ≡ length slots → ⊥)
past_end slots id j here e = let small : j < length slots = in_slots slots j id here in absurd (omega arith)

-- what stands once a slot more is there: its feature, or what stood before
pushed_id : (slots : List (Option Feature)) (g : Feature) (q j : ℕ) → slot_id (get_or (slots ++ Some g ∷ []) j None) ≡ Some q
    → ((j ≡ length slots) × (g.id ≡ q)) ⊎ (slot_id (get_or slots j None) ≡ Some q)
pushed_id [] g q zero there = inl (refl, some_same g.id q there)
pushed_id [] g q (suc j) there = cc
pushed_id (s ∷ slots) g q zero there = inr there
pushed_id (s ∷ slots) g q (suc j) there = elim (pushed_id slots g q j there) [
  | inl last ↦ inl (ap suc last.0, last.1)
  | inr slot ↦ inr slot
]

-- one more feature, of a new id, goes last
pub knows_added : (places after : BTreeMap ℕ ℕ) (features : List Feature) (slots : List (Option Feature)) (g : Feature) → KnowsPlaces places features slots
    → StandsNowhere slots g.id → Updates nat_cmp places after g.id (Some (length slots)) → KnowsPlaces after features (slots ++ Some g ∷ [])
knows_added places after features slots g knows nowhere updates = record {
  found = λ q j there. elim (cases_eq g.id q) [
    | inl e ↦ (
        let last : j ≡ length slots = some_same j (length slots) (sym there ∙ subst (λ (x : ℕ). get nat_cmp after x ≡ Some (length slots)) e updates.1) in
        subst (λ (x : ℕ). slot_id (get_or (slots ++ Some g ∷ []) x None) ≡ Some q) (sym last) (ap slot_id (pushed_last slots (Some g)) ∙ ap Some e))
    | inr other ↦ (
        let slot : slot_id (get_or slots j None) ≡ Some q = knows.found q j (sym (kept_place places after g.id q (Some (length slots)) updates other) ∙ there) in
        ap slot_id (pushed_other slots (Some g) j (past_end slots q j slot)) ∙ slot)
  ];
  held = λ q j there. elim (pushed_id slots g q j there) [
    | inl last ↦ inl (subst (λ (x : ℕ). get nat_cmp after x ≡ Some j) last.1 (updates.1 ∙ ap Some (sym last.0)))
    | inr slot ↦ (
        let other : (g.id ≡ q → ⊥) = λ e. nowhere j (slot ∙ ap Some (sym e)) in
        elim (knows.held q j slot) [
          | inl told ↦ inl (kept_place places after g.id q (Some (length slots)) updates other ∙ told)
          | inr first ↦ inr first
        ])
  ];
  one = λ q i j a b. elim (pushed_id slots g q i a) [
    | inl last ↦ elim (pushed_id slots g q j b) [
      | inl end ↦ last.0 ∙ sym end.0
      | inr slot ↦ absurd (nowhere j (slot ∙ ap Some (sym last.1)))
    ]
    | inr slot ↦ elim (pushed_id slots g q j b) [
      | inl end ↦ absurd (nowhere i (slot ∙ ap Some (sym end.1)))
      | inr other ↦ knows.one q i j slot other
    ]
  ];
}

-- an id that stands nowhere was put among the places, and taken out again
pub knows_undone : (places between after : BTreeMap ℕ ℕ) (features : List Feature) (slots : List (Option Feature)) (id : ℕ) (w : Option ℕ) → KnowsPlaces places features slots
    → StandsNowhere slots id → Updates nat_cmp places between id w → Updates nat_cmp between after id None → KnowsPlaces after features slots
knows_undone places between after features slots id w knows nowhere put taken = record {
  found = λ q j there. elim (cases_eq id q) [
    | inl e ↦ (let gone : get nat_cmp after q ≡ None = subst (λ (x : ℕ). get nat_cmp after x ≡ None) e taken.1 in cc)
    | inr other ↦ knows.found q j (sym (kept_place places between id q w put other) ∙ sym (kept_place between after id q None taken other) ∙ there)
  ];
  held = λ q j there.
      let other : (id ≡ q → ⊥) = λ e. nowhere j (there ∙ ap Some (sym e)) in
      elim (knows.held q j there) [
        | inl told ↦ inl (kept_place between after id q None taken other ∙ kept_place places between id q w put other ∙ told)
        | inr first ↦ inr first
      ];
  one = knows.one;
}

-- ---- what the features are, after each step

pub removed_is : (slots : List (Option Feature)) (id k : ℕ) → ((i j : ℕ) → slot_id (get_or slots i None) ≡ Some id → slot_id (get_or slots j None) ≡ Some id → i ≡ j)
    → slot_id (get_or slots k None) ≡ Some id → standing (set slots k None) ≡ without id (standing slots)
removed_is slots id k one here = standing_removed slots id k here (λ j there. one j k there here)

pub replaced_is : (slots : List (Option Feature)) (g : Feature) (k : ℕ)
    → ((i j : ℕ) → slot_id (get_or slots i None) ≡ Some g.id → slot_id (get_or slots j None) ≡ Some g.id → i ≡ j)
    → slot_id (get_or slots k None) ≡ Some g.id → standing (set slots k (Some g)) ≡ replaced_by g (standing slots)
replaced_is slots g k one here = standing_replaced slots g k here (λ j there. one j k there here)

pub added_is : (slots : List (Option Feature)) (g : Feature) → standing (slots ++ Some g ∷ []) ≡ standing slots ++ g ∷ []
added_is slots g = filter_map-append (λ s. s) slots (Some g ∷ [])

-- a map with the same entries
pub knows_same : (places after : BTreeMap ℕ ℕ) (features : List Feature) (slots : List (Option Feature)) → KnowsPlaces places features slots
    → after.entries ≡ places.entries → KnowsPlaces after features slots
knows_same places after features slots knows same = record {
  found = λ q j there. knows.found q j (sym (ap (λ es. lookup (is_at (nat_cmp q)) es) same) ∙ there);
  held = λ q j there. elim (knows.held q j there) [
    | inl told ↦ inl (ap (λ es. lookup (is_at (nat_cmp q)) es) same ∙ told)
    | inr first ↦ inr first
  ];
  one = knows.one;
}

-- a put of a known id, and of a new one
pub put_known : (f : Feature) (features : List Feature) → has_id (ids_of features) f.id ≡ true → replaced_by f features ≡ with_put f features
put_known f features known = rw known refl

pub put_new : (f : Feature) (features : List Feature) → has_id (ids_of features) f.id ≡ false → features ++ f ∷ [] ≡ with_put f features
put_new f features fresh = rw fresh refl

-- a new id stands nowhere
pub unheld : (slots : List (Option Feature)) (id : ℕ) → has_id (ids_of (standing slots)) id ≡ false → StandsNowhere slots id
unheld slots id fresh j there = let held : has_id (ids_of (standing slots)) id ≡ true = one_has slots id j there in cc

pub added_count : (slots : List (Option Feature)) (g : Feature) (n : ℕ) → n ≡ length (standing slots) → n + 1 ≡ length (standing (slots ++ Some g ∷ []))
added_count slots g n e = rw (added_is slots g) (omega (arith, length-append (standing slots) (g ∷ [])))

-- ---- no two features of one id stand

apart_ids : (ids : List ℕ) (id : ℕ) → has_id ids id ≡ false → AllByRecursion (λ k. nat_eq id k ≡ false) ids
apart_ids [] id fresh = tt
apart_ids (k ∷ ids) id fresh = (no_left (nat_eq id k) (has_id ids id) fresh, apart_ids ids id (no_right (nat_eq id k) (has_id ids id) fresh))

distinct_slots : (slots : List (Option Feature)) → ((id i j : ℕ) → slot_id (get_or slots i None) ≡ Some id → slot_id (get_or slots j None) ≡ Some id → i ≡ j)
    → IsDistinct nat_eq (ids_of (standing slots))
unfolding IsDistinct
distinct_slots [] one = tt
distinct_slots (None ∷ slots) one = distinct_slots slots (λ id i j p q. one_less i j (one id (suc i) (suc j) p q))
distinct_slots (Some f ∷ slots) one = (
  apart_ids (ids_of (standing slots)) f.id (none_has slots f.id (λ j h. no_suc j (one f.id 0 (suc j) refl h))),
  distinct_slots slots (λ id i j p q. one_less i j (one id (suc i) (suc j) p q)),
)

pub standing_distinct : (places : BTreeMap ℕ ℕ) (features : List Feature) (slots : List (Option Feature)) → KnowsPlaces places features slots
    → IsDistinct nat_eq (ids_of (standing slots))
standing_distinct places features slots knows = distinct_slots slots knows.one
