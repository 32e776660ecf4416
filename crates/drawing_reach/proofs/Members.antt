-- Elements of lists that a test picks, and facts of all elements.
use Rattle.std.proofs.Common.{◌≡◌, ◌-◌, Bool, true, false, ◌||◌, List, [], ◌∷◌, ◌++◌, length, flat_map, refl, ap, ◌∙◌, inl, inr, arith, Some}
use Rattle.std.specs.Prelude.{slice_get, All}
use Rattle.std.specs.List.{AllByRecursion, list_any}
use Rattle.std.proofs.lemmas.Bool.{or_cases, or_left, or_right}
use Rattle.std.proofs.lemmas.List.Elements.{recursion_from_All}

-- what the element that a test picks shows
pub any_in : {X : Type 0} (P : X → Type 0) (Q : Type 0) (t : X → Bool) → ((x : X) → P x → t x ≡ true → Q) → (xs : List X) → AllByRecursion P xs → list_any t xs ≡ true → Q
any_in P Q t each [] all h = absurd (cc)
any_in P Q t each (x ∷ xs) all h = elim (or_cases (t x) (list_any t xs) h) [
  | inl e ↦ each x all.0 e
  | inr e ↦ any_in P Q t each xs all.1 e
]

-- the element that a test picks; any other test that picks it picks some element too
pub picked : {X : Type 0} (t : X → Bool) (xs : List X) → list_any t xs ≡ true → (x : X) × (t x ≡ true) × ((u : X → Bool) → u x ≡ true → list_any u xs ≡ true)
picked t [] h = absurd (cc)
picked t (x ∷ xs) h = elim (or_cases (t x) (list_any t xs) h) [
  | inl e ↦ (x, e, λ u k. or_left (u x) (list_any u xs) k)
  | inr e ↦ (let r = picked t xs e in (r.0, r.1, λ u k. or_right (u x) (list_any u xs) (r.2 u k)))
]

-- what no element passes
none_by : {X : Type 0} (t : X → Bool) (x : X) (xs : List X) (b : Bool) → t x ≡ b → (b || list_any t xs) ≡ false
    → (list_any t xs ≡ false → AllByRecursion (λ y. t y ≡ false) xs) → AllByRecursion (λ y. t y ≡ false) (x ∷ xs)
none_by t x xs true e k rest = absurd (cc)
none_by t x xs false e k rest = (e, rest k)

pub none_passes : {X : Type 0} (t : X → Bool) (xs : List X) → list_any t xs ≡ false → AllByRecursion (λ x. t x ≡ false) xs
none_passes t [] h = tt
none_passes t (x ∷ xs) h = none_by t x xs (t x) refl h (none_passes t xs)

pub all_map : {X : Type 0} (P Q : X → Type 0) → ((x : X) → P x → Q x) → (xs : List X) → AllByRecursion P xs → AllByRecursion Q xs
all_map P Q f [] h = tt
all_map P Q f (x ∷ xs) h = (f x h.0, all_map P Q f xs h.1)

pub all_pair : {X : Type 0} (P Q : X → Type 0) → (xs : List X) → AllByRecursion P xs → AllByRecursion Q xs → AllByRecursion (λ x. P x × Q x) xs
all_pair P Q [] h k = tt
all_pair P Q (x ∷ xs) h k = ((h.0, k.0), all_pair P Q xs h.1 k.1)

split_all : {X : Type 0} (P : X → Type 0) (xs ys : List X) → AllByRecursion P (xs ++ ys) → AllByRecursion P xs × AllByRecursion P ys
split_all P [] ys h = (tt, h)
split_all P (x ∷ xs) ys h = (let r = split_all P xs ys h.1 in ((h.0, r.0), r.1))

-- what holds of the elements of all lists laid end to end holds in each list
pub all_parts : {X : Type 0} (P : X → Type 0) (xss : List (List X)) → AllByRecursion P (flat_map (λ l. l) xss) → AllByRecursion (AllByRecursion P) xss
all_parts P [] h = tt
all_parts P (xs ∷ xss) h = (let r = split_all P xs (flat_map (λ l. l) xss) h in (r.0, all_parts P xss r.1))

pub parts_by_recursion : {X : Type 0} (P : X → Type 0) (xss : List (List X)) → All (All P) xss → AllByRecursion (AllByRecursion P) xss
parts_by_recursion P xss h = all_map (All P) (AllByRecursion P) (recursion_from_All P) xss (recursion_from_All (All P) xss h)

-- the last element of a list
abbrev pub last_of : {X : Type 0} → X → List X → X
last_of p [] = p
last_of p (q ∷ qs) = last_of q qs

at_end : {X : Type 0} (p : X) (ps : List X) → slice_get (p ∷ ps) (length ps) ≡ Some (last_of p ps)
at_end p [] = refl
at_end p (q ∷ qs) = at_end q qs

pub last_at : {X : Type 0} (p : X) (ps : List X) → slice_get (p ∷ ps) (length (p ∷ ps) - 1) ≡ Some (last_of p ps)
last_at p ps = (let e : length (p ∷ ps) - 1 ≡ length ps = omega arith in ap (slice_get (p ∷ ps)) e ∙ at_end p ps)

pub last_has : {X : Type 0} (P : X → Type 0) (p : X) (ps : List X) → P p → AllByRecursion P ps → P (last_of p ps)
last_has P p [] h all = h
last_has P p (q ∷ qs) h all = last_has P q qs all.0 all.1
