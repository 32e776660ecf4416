-- The centres of a window by their places, and bits that are marked place by place.
use Rattle.std.proofs.Common.{◌≡◌, ℕ, suc, zero, ◌+◌, ◌-◌, ◌*◌, ◌/◌, ◌%◌, ◌<◌, ◌≤◌, Bool, true, false, ◌||◌, List, [], ◌∷◌, ◌++◌, length, take, get_or, set, flat_map, refl, ap, sym, ◌∙◌, inl, inr, arith, length-append}
use Rattle.std.specs.List.{range_with_len, list_any}
use Rattle.std.proofs.Math.Nat.{mul-le-mul_right, div-add-mod, mod-lt}
use Rattle.std.proofs.lemmas.Bool.{cases_lt}
use Rattle.std.proofs.lemmas.Nat.{row_fits}
use Rattle.std.proofs.lemmas.List.{get_or_append_left, get_or-append-add, take_all}
use Rattle.std.proofs.lemmas.List.Folds.{list_any_more}
use Rattle.std.proofs.lemmas.List.FromFn.{get_or-map-range_with_len, length-map-range_with_len}
use Rattle.std.proofs.Math.Bool.{or_assoc, or-false}
use Rattle.plain_world.specs.declared.world.Point.{Point}
use Rattle.plain_world.specs.declared.world.Window.{Window}
use Rattle.plain_world.specs.World.{centre, row_centres, centres}
use Rattle.plain_shapes.specs.Images.{Bits}
use Rattle.plain_shapes.specs.inner.Canvas.{marked, Reached}

-- n pieces of one length, laid end to end
pub length_pieces : {X : Type 0} (f : ℕ → List X) (m : ℕ) → ((k : ℕ) → length (f k) ≡ m) → (a n : ℕ) → length (flat_map f (range_with_len a n)) ≡ n * m
length_pieces f m each a zero = omega arith
length_pieces f m each a (suc n) =
    length-append (f a) (flat_map f (range_with_len (a + 1) n)) ∙ omega (arith, each a, length_pieces f m each (a + 1) n)

pub get_or_pieces : {X : Type 0} (f : ℕ → List X) (m : ℕ) → ((k : ℕ) → length (f k) ≡ m) → (a n j i : ℕ) (d : X) → i < m → j < n
    → get_or (flat_map f (range_with_len a n)) (j * m + i) d ≡ get_or (f (a + j)) i d
get_or_pieces f m each a zero j i d p q = absurd (omega arith)
get_or_pieces f m each a (suc n) zero i d p q =
    let e : 0 * m + i ≡ i = omega arith in
    let e0 : a ≡ a + 0 = omega arith in
    let lt : i < length (f a) = omega (arith, each a) in
    ap (λ k. get_or (f a ++ flat_map f (range_with_len (a + 1) n)) k d) e
    ∙ get_or_append_left (f a) (flat_map f (range_with_len (a + 1) n)) d i lt
    ∙ ap (λ k. get_or (f k) i d) e0
get_or_pieces f m each a (suc n) (suc j) i d p q =
    let e : suc j * m + i ≡ length (f a) + (j * m + i) = omega (arith, each a) in
    let e1 : a + 1 + j ≡ a + suc j = omega arith in
    ap (λ k. get_or (f a ++ flat_map f (range_with_len (a + 1) n)) k d) e
    ∙ get_or-append-add (f a) (flat_map f (range_with_len (a + 1) n)) (j * m + i) d
    ∙ get_or_pieces f m each (a + 1) n j i d p (omega arith)
    ∙ ap (λ k. get_or (f k) i d) e1

length-row_centres : (w : Window) (j : ℕ) → length (row_centres w j) ≡ w.cols
length-row_centres w j = length-map-range_with_len (λ i. centre w i j) 0 w.cols

-- a window has as many centres as pixels
pub length-centres : (w : Window) → length (centres w) ≡ w.rows * w.cols
length-centres w = length_pieces (λ j. row_centres w j) w.cols (length-row_centres w) 0 w.rows

-- the centre at a place is that of its column and row
pub get_or-centres : (w : Window) (j i : ℕ) (d : Point) → i < w.cols → j < w.rows → get_or (centres w) (j * w.cols + i) d ≡ centre w i j
get_or-centres w j i d p q =
    get_or_pieces (λ k. row_centres w k) w.cols (length-row_centres w) 0 w.rows j i d p q
    ∙ get_or-map-range_with_len (λ k. centre w k (0 + j)) 0 w.cols i i d p (omega arith)
    ∙ ap (λ k. centre w i k) (let e : 0 + j ≡ j = omega arith in e)

or_true : (b : Bool) → (b || true) ≡ true
or_true true = refl
or_true false = refl

-- one centre more, a member: its bit is set
marked_suc_yes : (m : Point → Bool) (cs : List Point) (bs : List Bool) (n : ℕ) (d : Point) → n < length cs → m (get_or cs n d) ≡ true
    → marked m (take (suc n) cs) bs ≡ set (marked m (take n cs) bs) n true
marked_suc_yes m [] bs n d lt h = absurd (omega arith)
marked_suc_yes m (c ∷ cs) [] zero d lt h = refl
marked_suc_yes m (c ∷ cs) [] (suc n) d lt h = refl
marked_suc_yes m (c ∷ cs) (b ∷ bs) zero d lt h = ap (λ v. v ∷ bs) (ap (λ v. b || v) h ∙ or_true b)
marked_suc_yes m (c ∷ cs) (b ∷ bs) (suc n) d lt h = ap (λ v. (b || m c) ∷ v) (marked_suc_yes m cs bs n d (omega arith) h)

-- one centre more, no member: the bits stay
marked_suc_no : (m : Point → Bool) (cs : List Point) (bs : List Bool) (n : ℕ) (d : Point) → n < length cs → m (get_or cs n d) ≡ false
    → marked m (take (suc n) cs) bs ≡ marked m (take n cs) bs
marked_suc_no m [] bs n d lt h = absurd (omega arith)
marked_suc_no m (c ∷ cs) [] zero d lt h = refl
marked_suc_no m (c ∷ cs) [] (suc n) d lt h = refl
marked_suc_no m (c ∷ cs) (b ∷ bs) zero d lt h = ap (λ v. v ∷ bs) (ap (λ v. b || v) h ∙ or-false b)
marked_suc_no m (c ∷ cs) (b ∷ bs) (suc n) d lt h = ap (λ v. (b || m c) ∷ v) (marked_suc_no m cs bs n d (omega arith) h)

-- some centres more, none of them a member
marked_skip : (m : Point → Bool) (cs : List Point) (bs : List Bool) (n k : ℕ) (d : Point) → n + k ≤ length cs
    → ((p : ℕ) → n ≤ p → p < n + k → m (get_or cs p d) ≡ false)
    → marked m (take (n + k) cs) bs ≡ marked m (take n cs) bs
marked_skip m cs bs n zero d fits none = ap (λ v. marked m (take v cs) bs) (let e : n + 0 ≡ n = omega arith in e)
marked_skip m cs bs n (suc k) d fits none =
    ap (λ v. marked m (take v cs) bs) (let e : n + suc k ≡ suc (n + k) = omega arith in e)
    ∙ marked_suc_no m cs bs (n + k) d (omega arith) (none (n + k) (omega arith) (omega arith))
    ∙ marked_skip m cs bs n k d (omega arith) (λ p low high. none p low (omega arith))

pub reached_start : (m : Point → Bool) (w : Window) (old : Bits) → Reached m w 0 old old
reached_start m w old = record { is = refl }

pub reached_yes : (m : Point → Bool) (w : Window) (j i n next : ℕ) (old now : Bits) → n ≡ j * w.cols + i → next ≡ n + 1 → i < w.cols → j < w.rows
    → m (centre w i j) ≡ true → Reached m w n old now → Reached m w next old (record now { bits = set now.bits n true })
reached_yes m w j i n next old now e f p q h r =
    let d : Point = centre w 0 0 in
    let inside : n < length (centres w) = omega (arith, length-centres w, row_fits j w.cols w.rows w.cols q (omega arith)) in
    let member : m (get_or (centres w) n d) ≡ true = ap (λ k. m (get_or (centres w) k d)) e ∙ ap m (get_or-centres w j i d p q) ∙ h in
    record {
      is =
          ap (λ (b : Bits). record b { bits = set b.bits n true }) r.is
          ∙ ap (λ bs. record old { bits = bs }) (sym (marked_suc_yes m (centres w) old.bits n d inside member) ∙ ap (λ k. marked m (take k (centres w)) old.bits) (let g : suc n ≡ next = omega arith in g));
    }

-- past places none of which is a member
pub reached_skip : (m : Point → Bool) (w : Window) (n next : ℕ) (old now : Bits) → 1 ≤ w.cols → n ≤ next → next ≤ w.rows * w.cols
    → ((j i : ℕ) → i < w.cols → j < w.rows → n ≤ j * w.cols + i → j * w.cols + i < next → m (centre w i j) ≡ false)
    → Reached m w n old now → Reached m w next old now
reached_skip m w n next old now some le fits none r =
    let d : Point = centre w 0 0 in
    let k : ℕ = next - n in
    let at : n + k ≡ next = omega arith in
    let each : (p : ℕ) → n ≤ p → p < n + k → m (get_or (centres w) p d) ≡ false = λ p low high.
    (let split : p / w.cols * w.cols + p % w.cols ≡ p = omega (arith, div-add-mod p w.cols) in
    let col : p % w.cols < w.cols = mod-lt p (omega arith) in
    let row : p / w.cols < w.rows = place_row p w.cols w.rows some (omega arith) in
    ap (λ q. m (get_or (centres w) q d)) (sym split)
    ∙ ap m (get_or-centres w (p / w.cols) (p % w.cols) d col row)
    ∙ none (p / w.cols) (p % w.cols) col row (omega arith) (omega arith)) in
    record {
      is = r.is ∙ ap (λ bs. record old { bits = bs })
          (sym (marked_skip m (centres w) old.bits n k d (omega (arith, length-centres w)) each) ∙ ap (λ q. marked m (take q (centres w)) old.bits) at);
    }
  where
    place_row : (p c r : ℕ) → 1 ≤ c → p < r * c → p / c < r
    place_row p c r some lt = elim (cases_lt (p / c) r) [ inl h ↦ h | inr h ↦ absurd (omega (arith, mul-le-mul_right c h, div-add-mod p c)) ]

pub reached_end : (m : Point → Bool) (w : Window) (n : ℕ) (old now : Bits) → n ≡ w.rows * w.cols → Reached m w n old now → now ≡ record old { bits = marked m (centres w) old.bits }
reached_end m w n old now e r = r.is ∙ ap (λ cs. record old { bits = marked m cs old.bits })
    (ap (λ k. take k (centres w)) (e ∙ sym (length-centres w)) ∙ take_all (length (centres w)) (centres w) (omega arith))

-- two tests that agree on all points mark the same bits
pub marked_same : (m n : Point → Bool) → ((c : Point) → m c ≡ n c) → (cs : List Point) (bs : List Bool) → marked m cs bs ≡ marked n cs bs
marked_same m n same [] bs = refl
marked_same m n same (c ∷ cs) [] = refl
marked_same m n same (c ∷ cs) (b ∷ bs) = ap (λ v. (b || v) ∷ marked m cs bs) (same c) ∙ ap (λ v. (b || n c) ∷ v) (marked_same m n same cs bs)

-- a test that no point meets marks nothing
pub marked_none : (m : Point → Bool) → ((c : Point) → m c ≡ false) → (cs : List Point) (bs : List Bool) → marked m cs bs ≡ bs
marked_none m none [] bs = refl
marked_none m none (c ∷ cs) [] = refl
marked_none m none (c ∷ cs) (b ∷ bs) = ap (λ v. v ∷ marked m cs bs) (ap (λ v. b || v) (none c) ∙ or-false b) ∙ ap (λ v. b ∷ v) (marked_none m none cs bs)

-- two marks one after another are the mark of what meets one of the tests
pub marked-marked : (m n : Point → Bool) (cs : List Point) (bs : List Bool) → marked n cs (marked m cs bs) ≡ marked (λ c. m c || n c) cs bs
marked-marked m n [] bs = refl
marked-marked m n (c ∷ cs) [] = refl
marked-marked m n (c ∷ cs) (b ∷ bs) = ap (λ v. v ∷ marked n cs (marked m cs bs)) (or_assoc b (m c) (n c)) ∙ ap (λ v. (b || (m c || n c)) ∷ v) (marked-marked m n cs bs)

-- a mask before the first of several shapes
pub mask_start : {X : Type 0} (f : Point → X → Bool) (xs : List X) (w : Window) (old : Bits)
    → old ≡ record old { bits = marked (λ c. list_any (f c) (take 0 xs)) (centres w) old.bits }
mask_start f xs w old = ap (λ bs. record old { bits = bs }) (sym (marked_none (λ c. list_any (f c) (take 0 xs)) (λ c. refl) (centres w) old.bits))

-- one shape more
pub mask_more : {X : Type 0} (f : Point → X → Bool) (xs : List X) (i : ℕ) (x d : X) (w : Window) (old now next : Bits) → i < length xs → x ≡ get_or xs i d
    → now ≡ record old { bits = marked (λ c. list_any (f c) (take i xs)) (centres w) old.bits }
    → next ≡ record now { bits = marked (λ c. f c x) (centres w) now.bits }
    → next ≡ record old { bits = marked (λ c. list_any (f c) (take (i + 1) xs)) (centres w) old.bits }
mask_more f xs i x d w old now next lt is before step =
    step ∙ ap (λ (b : Bits). record b { bits = marked (λ c. f c x) (centres w) b.bits }) before
    ∙ ap (λ bs. record old { bits = bs })
    (marked-marked (λ c. list_any (f c) (take i xs)) (λ c. f c x) (centres w) old.bits
    ∙ marked_same (λ c. list_any (f c) (take i xs) || f c x) (λ c. list_any (f c) (take (i + 1) xs))
    (λ c. ap (λ y. list_any (f c) (take i xs) || f c y) is ∙ sym (list_any_more (f c) xs i d lt)) (centres w) old.bits)

-- all shapes
pub mask_all : {X : Type 0} (f : Point → X → Bool) (xs : List X) (i : ℕ) (w : Window) (old now : Bits) → length xs ≤ i
    → now ≡ record old { bits = marked (λ c. list_any (f c) (take i xs)) (centres w) old.bits }
    → now ≡ record old { bits = marked (λ c. list_any (f c) xs) (centres w) old.bits }
mask_all f xs i w old now le r = r ∙ ap (λ ys. record old { bits = marked (λ c. list_any (f c) ys) (centres w) old.bits }) (take_all i xs le)

-- what is left to mark makes the whole of it
pub record Left (left whole : Point → Bool) (w : Window) (old now : Bits) : Type 0 where
  pub is : record now { bits = marked left (centres w) now.bits } ≡ record old { bits = marked whole (centres w) old.bits }

pub left_start : (whole : Point → Bool) (w : Window) (old : Bits) → Left whole whole w old old
left_start whole w old = record { is = refl }

pub left_more : (left m rest whole : Point → Bool) (w : Window) (old now next : Bits) → ((c : Point) → left c ≡ (m c || rest c))
    → next ≡ record now { bits = marked m (centres w) now.bits } → Left left whole w old now → Left rest whole w old next
left_more left m rest whole w old now next split step r = record {
  is =
      ap (λ (b : Bits). record b { bits = marked rest (centres w) b.bits }) step
      ∙ ap (λ bs. record now { bits = bs }) (marked-marked m rest (centres w) now.bits ∙ marked_same (λ c. m c || rest c) left (λ c. sym (split c)) (centres w) now.bits)
      ∙ r.is;
}

pub left_end : (left whole : Point → Bool) (w : Window) (old now : Bits) → ((c : Point) → left c ≡ false) → Left left whole w old now
    → now ≡ record old { bits = marked whole (centres w) old.bits }
left_end left whole w old now none r = ap (λ bs. record now { bits = bs }) (sym (marked_none left none (centres w) now.bits)) ∙ r.is

-- two marks one after another
pub both_marks : (m n : Point → Bool) (w : Window) (old now next : Bits) → now ≡ record old { bits = marked m (centres w) old.bits }
    → next ≡ record now { bits = marked n (centres w) now.bits } → next ≡ record old { bits = marked (λ c. m c || n c) (centres w) old.bits }
both_marks m n w old now next a b =
    b ∙ ap (λ (x : Bits). record x { bits = marked n (centres w) x.bits }) a ∙ ap (λ bs. record old { bits = bs }) (marked-marked m n (centres w) old.bits)

-- a mark by a test that says the same
pub same_mark : (m n : Point → Bool) (w : Window) (old now : Bits) → ((c : Point) → m c ≡ n c) → now ≡ record old { bits = marked m (centres w) old.bits }
    → now ≡ record old { bits = marked n (centres w) old.bits }
same_mark m n w old now same a = a ∙ ap (λ bs. record old { bits = bs }) (marked_same m n same (centres w) old.bits)

-- no mark
pub no_mark : (m : Point → Bool) (w : Window) (old : Bits) → ((c : Point) → m c ≡ false) → old ≡ record old { bits = marked m (centres w) old.bits }
no_mark m w old none = ap (λ bs. record old { bits = bs }) (sym (marked_none m none (centres w) old.bits))
