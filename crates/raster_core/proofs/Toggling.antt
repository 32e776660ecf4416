-- How the parities of a row change with one crossing more, and how edges, rings and rows add up.
use Rattle.std.proofs.Common.{◌≡◌, ◌≢◌, ◌==◌, ℕ, ◌+◌, ◌*◌, ◌%◌, ◌<◌, ◌≤◌, Bool, true, false, not, ◌&&◌, List, [], ◌∷◌, ◌++◌, length, take, get_or, set, replicate, count_by, cond, if◌then◌else◌, zero, suc, refl, ap, sym, subst, ◌∙◌, inl, inr, arith}
use Rattle.std.specs.Prelude.{nat_le}
use Rattle.std.specs.List.{All}
use Rattle.std.specs.List.Sorted.{IsPermutation, IsNonDecreasing}
use Rattle.std.proofs.Math.Nat.{mul-le-mul_right}
use Rattle.std.proofs.Math.Bool.{and-false}
use Rattle.std.proofs.lemmas.Bool.{cases_Bool, cases_lt, cases_eq, le-leb, lt-leb}
use Rattle.std.proofs.lemmas.Nat.{row_fits}
use Rattle.std.proofs.lemmas.List.Elements.{All-push, All-cons, All-weaker}
use Rattle.std.proofs.lemmas.List.Sorted.{sum_by-IsPermutation}
use Rattle.std.proofs.lemmas.List.Sums.{sum_by-cons, count_by_more_yes, count_by_more_no}
use Rattle.plain_world.specs.declared.world.Window.{Window}
use Rattle.plain_shapes.specs.Rings.{is_odd}
use Rattle.raster_core.specs.inner.Toggles.{flip, is_up_to, parity_at, AllInside, Toggled, RowToggled, RowsToggled, SameParities, set_places}

-- one more that counts, or not
pub is_odd_suc : (n : ℕ) → is_odd (1 + n) ≡ not (is_odd n)
is_odd_suc n = elim (cases_eq (n % 2) 1) [
  | inl e ↦ (let f : (1 + n) % 2 ≡ 0 = omega arith in ap (λ t. t == 1) f ∙ sym (ap (λ t. not (t == 1)) e))
  | inr e ↦ (let g : n % 2 ≡ 0 = even_of n e in let f : (1 + n) % 2 ≡ 1 = omega arith in ap (λ t. t == 1) f ∙ sym (ap (λ t. not (t == 1)) g))
]
  where
    even_of : (n : ℕ) → (n % 2 ≡ 1 → ⊥) → n % 2 ≡ 0
    even_of n e = omega arith

pub odd_cons : {X : Type 0} (p : X → Bool) (x : X) (xs : List X) → is_odd (count_by p (x ∷ xs)) ≡ flip (p x) (is_odd (count_by p xs))
odd_cons p x xs = ap is_odd (sum_by-cons (λ e. cond (p e) 1 0) x xs) ∙ by_test (p x) (count_by p xs)
  where
    by_test : (t : Bool) (n : ℕ) → is_odd (cond t 1 0 + n) ≡ flip t (is_odd n)
    by_test true n = is_odd_suc n
    by_test false n = ap is_odd (let e : 0 + n ≡ n = omega arith in e)

pub flip_flip : (a b c : Bool) → flip (flip a b) c ≡ flip a (flip b c)
flip_flip true true true = refl
flip_flip true true false = refl
flip_flip true false c = refl
flip_flip false b c = refl

pub odd_append : {X : Type 0} (p : X → Bool) (xs ys : List X) → is_odd (count_by p (xs ++ ys)) ≡ flip (is_odd (count_by p xs)) (is_odd (count_by p ys))
odd_append p [] ys = refl
odd_append p (x ∷ xs) ys =
    odd_cons p x (xs ++ ys) ∙ ap (flip (p x)) (odd_append p xs ys)
    ∙ sym (flip_flip (p x) (is_odd (count_by p xs)) (is_odd (count_by p ys)))
    ∙ ap (λ t. flip t (is_odd (count_by p ys))) (sym (odd_cons p x xs))

pub odd_push : {X : Type 0} (p : X → Bool) (xs : List X) (x : X) → is_odd (count_by p (xs ++ x ∷ [])) ≡ flip (p x) (is_odd (count_by p xs))
odd_push p xs x =
    odd_append p xs (x ∷ []) ∙ ap (flip (is_odd (count_by p xs))) (odd_cons p x []) ∙ swapped (is_odd (count_by p xs)) (p x)
  where
    swapped : (a b : Bool) → flip a (flip b false) ≡ flip b a
    swapped true true = refl
    swapped true false = refl
    swapped false true = refl
    swapped false false = refl

-- one place more
pub odd_more : {X : Type 0} (p : X → Bool) (xs : List X) (k : ℕ) (d : X) → k < length xs
    → is_odd (count_by p (take (k + 1) xs)) ≡ flip (p (get_or xs k d)) (is_odd (count_by p (take k xs)))
odd_more p xs k d lt = elim (cases_Bool (p (get_or xs k d))) [
  | inl t ↦ (
      let e : count_by p (take k xs) + 1 ≡ 1 + count_by p (take k xs) = omega arith in
      ap is_odd (count_by_more_yes p xs k d lt t ∙ e) ∙ is_odd_suc (count_by p (take k xs)) ∙ sym (ap (λ b. flip b (is_odd (count_by p (take k xs)))) t))
  | inr t ↦ ap is_odd (count_by_more_no p xs k d lt t) ∙ sym (ap (λ b. flip b (is_odd (count_by p (take k xs)))) t)
]

-- a place counts in its own row from its column on, and in no other row
in_row : (cols j k i : ℕ) → is_up_to cols j i (j * cols + k) ≡ nat_le k i
in_row cols j k i =
    ap (λ t. t && nat_le (j * cols + k) (j * cols + i)) (le-leb (j * cols) (j * cols + k) (omega arith))
    ∙ elim (cases_lt i k) [
      | inl h ↦ lt-leb (j * cols + k) (j * cols + i) (omega arith) ∙ sym (lt-leb k i h)
      | inr h ↦ le-leb (j * cols + k) (j * cols + i) (omega arith) ∙ sym (le-leb k i h)
    ]

in_other : (cols j' j k i : ℕ) → i < cols → k < cols → j' ≢ j → is_up_to cols j' i (j * cols + k) ≡ false
in_other cols j' j k i col inside ne = elim (cases_lt j j') [
  | inl h ↦ (let q : j + 1 ≤ j' = omega arith in
      ap (λ t. t && nat_le (j * cols + k) (j' * cols + i)) (lt-leb (j' * cols) (j * cols + k) (omega (arith, mul-le-mul_right cols q))))
  | inr h ↦ (let q : j' + 1 ≤ j = next j' j h ne in
      ap (λ t. nat_le (j' * cols) (j * cols + k) && t) (lt-leb (j * cols + k) (j' * cols + i) (omega (arith, mul-le-mul_right cols q)))
      ∙ and-false (nat_le (j' * cols) (j * cols + k)))
]
  where
    next : (j' j : ℕ) → j' ≤ j → j' ≢ j → j' + 1 ≤ j
    next j' j h ne = omega arith

-- a crossing at the first column where the member begins
pub row_toggled : (w : Window) (m : ℕ → ℕ → Bool) (k j : ℕ) (old new : List ℕ) → k < w.cols → j < w.rows
    → ((i : ℕ) → i < w.cols → nat_le k i ≡ m j i) → new ≡ old ++ (j * w.cols + k) ∷ [] → RowToggled w m j old new
row_toggled w m k j old new inside row splits is =
    let place : ℕ = j * w.cols + k in
    let within : place < w.rows * w.cols = omega (arith, row_fits j w.cols w.rows w.cols row (omega arith)) in
    let P : List ℕ → Type 0 = AllInside w in
    let more : (j' i : ℕ) → parity_at w.cols new j' i ≡ flip (is_up_to w.cols j' i place) (parity_at w.cols old j' i) =
    λ j' i. ap (λ ps. parity_at w.cols ps j' i) is ∙ odd_push (is_up_to w.cols j' i) old place in
    record {
      inside = λ all. subst P (sym is) (All-push (λ p. p < w.rows * w.cols) old place all within);
      at = λ i p. more j i ∙ ap (λ t. flip t (parity_at w.cols old j i)) (in_row w.cols j k i ∙ splits i p);
      others = λ j' i ne p. more j' i ∙ ap (λ t. flip t (parity_at w.cols old j' i)) (in_other w.cols j' j k i p inside ne);
    }

-- the member begins past the last column: no crossing
pub row_same : (w : Window) (m : ℕ → ℕ → Bool) (k j : ℕ) (places : List ℕ) → w.cols ≤ k
    → ((i : ℕ) → i < w.cols → nat_le k i ≡ m j i) → RowToggled w m j places places
row_same w m k j places past splits = record {
  inside = λ all. all;
  at = λ i p. sym (ap (λ t. flip t (parity_at w.cols places j i)) (sym (splits i p) ∙ lt-leb k i (omega arith)));
  others = λ j' i ne p. refl;
}

pub flip_swap : (r e p : Bool) → flip r (flip e p) ≡ flip (flip e r) p
flip_swap true true true = refl
flip_swap true true false = refl
flip_swap true false p = refl
flip_swap false true p = refl
flip_swap false false p = refl

pub rows_start : (w : Window) (m : ℕ → ℕ → Bool) (top : ℕ) (old : List ℕ)
    → ((j i : ℕ) → j < top → j < w.rows → i < w.cols → m j i ≡ false) → RowsToggled w m top old old
rows_start w m top old off = record {
  inside = λ all. all;
  done = λ j i p q r. sym (ap (λ t. flip t (parity_at w.cols old j i)) (off j i p q r));
  rest = λ j i p q. refl;
}

pub rows_more : (w : Window) (m : ℕ → ℕ → Bool) (j : ℕ) (old now next : List ℕ)
    → RowsToggled w m j old now → RowToggled w m j now next → RowsToggled w m (j + 1) old next
rows_more w m j old now next r s = record {
  inside = λ all. s.inside (r.inside all);
  done = λ j' i p q i-in. elim (cases_eq j' j) [
    | inl e ↦ (
        ap (λ k. parity_at w.cols next k i) e ∙ s.at i i-in
        ∙ ap (flip (m j i)) (r.rest j i (omega arith) i-in)
        ∙ ap (λ k. flip (m k i) (parity_at w.cols old k i)) (sym e))
    | inr ne ↦ s.others j' i ne i-in ∙ r.done j' i (before j' j p ne) q i-in
  ];
  rest = λ j' i p i-in. s.others j' i (λ e. omega arith) i-in ∙ r.rest j' i (omega arith) i-in;
}
  where
    before : (j' j : ℕ) → j' < j + 1 → j' ≢ j → j' < j
    before j' j p ne = omega arith

pub rows_end : (w : Window) (m : ℕ → ℕ → Bool) (n : ℕ) (old now : List ℕ) → RowsToggled w m n old now
    → ((j i : ℕ) → n ≤ j → j < w.rows → i < w.cols → m j i ≡ false) → Toggled w m old now
rows_end w m n old now r off = record {
  inside = r.inside;
  at = λ j i p q. elim (cases_lt j n) [
    | inl h ↦ r.done j i h p q
    | inr h ↦ r.rest j i h q ∙ sym (ap (λ t. flip t (parity_at w.cols old j i)) (off j i h p q))
  ];
}

-- one place more, of which the bit is turned round
pub swapped : (a b c : Bool) → flip a (flip b c) ≡ flip b (flip a c)
swapped true true c = refl
swapped true false c = refl
swapped false b c = refl

twice : (a b : Bool) → flip a (flip a b) ≡ b
twice true true = refl
twice true false = refl
twice false b = refl

pub turned_bit : (p : ℕ → Bool) (n k : ℕ) (bits : List Bool) → k < length bits
    → is_odd (count_by p (set_places n (set bits k (not (get_or bits k false))))) ≡ flip (p (n + k)) (is_odd (count_by p (set_places n bits)))
turned_bit p n k [] within = absurd (omega arith)
turned_bit p n zero (true ∷ bits) within =
    let e : n + 0 ≡ n = omega arith in
    sym (ap (λ v. flip (p v) (is_odd (count_by p (n ∷ set_places (n + 1) bits)))) e ∙ ap (flip (p n)) (odd_cons p n (set_places (n + 1) bits))
    ∙ twice (p n) (is_odd (count_by p (set_places (n + 1) bits))))
turned_bit p n zero (false ∷ bits) within =
    let e : n + 0 ≡ n = omega arith in
    odd_cons p n (set_places (n + 1) bits) ∙ ap (λ v. flip (p v) (is_odd (count_by p (set_places (n + 1) bits)))) (sym e)
turned_bit p n (suc k) (true ∷ bits) within =
    let e : n + 1 + k ≡ n + suc k = omega arith in
    odd_cons p n (set_places (n + 1) (set bits k (not (get_or bits k false)))) ∙ ap (flip (p n)) (turned_bit p (n + 1) k bits (omega arith)) ∙ swapped (p n) (p (n + 1 + k)) (is_odd (count_by p (set_places (n + 1) bits)))
    ∙ ap (λ v. flip (p v) (flip (p n) (is_odd (count_by p (set_places (n + 1) bits))))) e
    ∙ ap (flip (p (n + suc k))) (sym (odd_cons p n (set_places (n + 1) bits)))
turned_bit p n (suc k) (false ∷ bits) within =
    let e : n + 1 + k ≡ n + suc k = omega arith in
    turned_bit p (n + 1) k bits (omega arith) ∙ ap (λ v. flip (p v) (is_odd (count_by p (set_places (n + 1) bits)))) e

pub none_set : (n count : ℕ) → set_places n (replicate count false) ≡ []
none_set n zero = refl
none_set n (suc count) = none_set (n + 1) count

-- the bits of the first k places, and of one more
pub bits_more : (p : ℕ → Bool) (places : List ℕ) (bits next : List Bool) (k place d : ℕ) → k < length places → get_or places k d ≡ place → place < length bits
    → next ≡ set bits place (not (get_or bits place false))
    → is_odd (count_by p (set_places 0 bits)) ≡ is_odd (count_by p (take k places))
    → is_odd (count_by p (set_places 0 next)) ≡ is_odd (count_by p (take (k + 1) places))
bits_more p places bits next k place d lt at inside is before =
    ap (λ bs. is_odd (count_by p (set_places 0 bs))) is
    ∙ turned_bit p 0 place bits inside
    ∙ ap (λ v. flip (p v) (is_odd (count_by p (set_places 0 bits)))) (let e : 0 + place ≡ place = omega arith in e)
    ∙ ap (flip (p place)) before ∙ ap (λ v. flip (p v) (is_odd (count_by p (take k places)))) (sym at) ∙ sym (odd_more p places k d lt)

-- one bit more that is gone through
set_more : (n k : ℕ) (bits : List Bool) → k < length bits
    → set_places n (take (k + 1) bits) ≡ set_places n (take k bits) ++ (if get_or bits k false then (n + k) ∷ [] else [])
set_more n k [] within = absurd (omega arith)
set_more n zero (true ∷ bits) within = ap (λ v. v ∷ []) (let e : n ≡ n + 0 = omega arith in e)
set_more n zero (false ∷ bits) within = refl
set_more n (suc k) (true ∷ bits) within =
    ap (λ m. set_places n (take m (true ∷ bits))) (let e : suc k + 1 ≡ suc (k + 1) = omega arith in e)
    ∙ ap (λ ps. n ∷ ps) (set_more (n + 1) k bits (omega arith))
    ∙ ap (λ v. n ∷ (set_places (n + 1) (take k bits) ++ (if get_or bits k false then v ∷ [] else []))) (let e : n + 1 + k ≡ n + suc k = omega arith in e)
set_more n (suc k) (false ∷ bits) within =
    ap (λ m. set_places n (take m (false ∷ bits))) (let e : suc k + 1 ≡ suc (k + 1) = omega arith in e)
    ∙ set_more (n + 1) k bits (omega arith)
    ∙ ap (λ v. set_places (n + 1) (take k bits) ++ (if get_or bits k false then v ∷ [] else [])) (let e : n + 1 + k ≡ n + suc k = omega arith in e)

pub next_set : (k : ℕ) (bits : List Bool) → k < length bits → set_places 0 (take (k + 1) bits) ≡ set_places 0 (take k bits) ++ (if get_or bits k false then k ∷ [] else [])
next_set k bits within =
    set_more 0 k bits within ∙ ap (λ v. set_places 0 (take k bits) ++ (if get_or bits k false then v ∷ [] else [])) (let e : 0 + k ≡ k = omega arith in e)

-- the places of bits lie among them, in order
pub set_from : (n : ℕ) (bits : List Bool) → All (λ x. n ≤ x) (set_places n bits)
set_from n [] = λ k d within. absurd (omega arith)
set_from n (true ∷ bits) = All-cons (λ x. n ≤ x) n (set_places (n + 1) bits) (omega arith) (All-weaker (λ x. n + 1 ≤ x) (λ x. n ≤ x) (λ x le. omega arith) (set_places (n + 1) bits) (set_from (n + 1) bits))
set_from n (false ∷ bits) = All-weaker (λ x. n + 1 ≤ x) (λ x. n ≤ x) (λ x le. omega arith) (set_places (n + 1) bits) (set_from (n + 1) bits)

pub set_below : (n area : ℕ) (bits : List Bool) → n + length bits ≡ area → All (λ x. x < area) (set_places n bits)
set_below n area [] is = λ k d within. absurd (omega arith)
set_below n area (true ∷ bits) is = All-cons (λ x. x < area) n (set_places (n + 1) bits) (omega arith) (set_below (n + 1) area bits (omega arith))
set_below n area (false ∷ bits) is = set_below (n + 1) area bits (omega arith)

rising : (n : ℕ) (xs : List ℕ) → All (λ x. n ≤ x) xs → IsNonDecreasing xs → IsNonDecreasing (n ∷ xs)
rising n xs least order zero zero d le within = omega arith
rising n xs least order zero (suc j) d le within = least j d (omega arith)
rising n xs least order (suc i) zero d le within = absurd (omega arith)
rising n xs least order (suc i) (suc j) d le within = order i j d (omega arith) (omega arith)

pub set_order : (n : ℕ) (bits : List Bool) → IsNonDecreasing (set_places n bits)
set_order n [] = λ i j d le within. absurd (omega arith)
set_order n (true ∷ bits) = rising n (set_places (n + 1) bits) (All-weaker (λ x. n + 1 ≤ x) (λ x. n ≤ x) (λ x le. omega arith) (set_places (n + 1) bits) (set_from (n + 1) bits)) (set_order (n + 1) bits)
set_order n (false ∷ bits) = set_order (n + 1) bits

-- places put in order
pub same_sorted : (old sorted : List ℕ) → IsPermutation old sorted → SameParities old sorted
same_sorted old sorted moved = record { parity = λ p. ap is_odd (sum_by-IsPermutation (λ x. cond (p x) 1 0) old sorted moved) }
