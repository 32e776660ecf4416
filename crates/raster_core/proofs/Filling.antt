-- The runs of members between crossings in order, and the bits that they set.
use Rattle.std.proofs.Common.{◌≡◌, ℕ, suc, zero, ◌+◌, ◌-◌, ◌*◌, ◌/◌, ◌%◌, ◌<◌, ◌≤◌, min, max, Bool, true, false, ◌&&◌, List, [], length, take, get_or, refl, ap, sym, subst, ◌∙◌, inl, inr, arith}
use Rattle.std.specs.Prelude.{nat_le, Result, Ok, Err, OnOk}
use Rattle.std.specs.List.Sorted.{IsNonDecreasing}
use Rattle.std.proofs.Math.Bool.{and-false}
use Rattle.std.proofs.Math.Nat.{mul-le-mul_right, div-add-mod, mod-lt}
use Rattle.std.proofs.lemmas.Bool.{cases_lt, le-leb, lt-leb}
use Rattle.std.proofs.lemmas.List.{take_all, get_or_past, get_or_default}
use Rattle.plain_world.specs.declared.world.Point.{Point}
use Rattle.plain_world.specs.declared.world.Window.{Window}
use Rattle.plain_world.specs.World.{IsWindow, centre, centres}
use Rattle.plain_shapes.specs.Images.{Bits}
use Rattle.plain_shapes.specs.inner.Canvas.{marked, Reached}
use Rattle.plain_shapes.proofs.Places.{reached_skip, reached_end}
use Rattle.raster_core.specs.declared.columns.Crossed.{Crossed}
use Rattle.raster_core.specs.declared.runs.Run.{Run}
use Rattle.raster_core.specs.inner.Toggles.{flip, is_up_to, parity_at, AllInside, SameParities}
use Rattle.raster_core.specs.inner.Columns.{Turned, Lists}
use Rattle.raster_core.specs.inner.Crossings.{Crossings, Done, IsNext}
use Rattle.raster_core.proofs.Toggling.{odd_more}
use Rattle.raster_core.proofs.Corners.{none_of}

-- where a place counts
counted : (cols j i p : ℕ) → j * cols ≤ p → p ≤ j * cols + i → is_up_to cols j i p ≡ true
counted cols j i p from to = ap (λ t. t && nat_le p (j * cols + i)) (le-leb (j * cols) p from) ∙ le-leb p (j * cols + i) to

past_it : (cols j i p : ℕ) → j * cols + i < p → is_up_to cols j i p ≡ false
past_it cols j i p h = ap (λ t. nat_le (j * cols) p && t) (lt-leb p (j * cols + i) h) ∙ and-false (nat_le (j * cols) p)

above_it : (cols j i p : ℕ) → p < j * cols → is_up_to cols j i p ≡ false
above_it cols j i p h = ap (λ t. t && nat_le p (j * cols + i)) (lt-leb (j * cols) p h)

-- crossings past a pixel do not count there
parity_rest : (cols : ℕ) (places : List ℕ) (k n j i : ℕ) → k + n ≤ length places
    → ((x : ℕ) → k ≤ x → x < k + n → j * cols + i < get_or places x 0)
    → parity_at cols (take (k + n) places) j i ≡ parity_at cols (take k places) j i
parity_rest cols places k zero j i fits far = ap (λ m. parity_at cols (take m places) j i) (let e : k + 0 ≡ k = omega arith in e)
parity_rest cols places k (suc n) j i fits far =
    ap (λ m. parity_at cols (take m places) j i) (let e : k + suc n ≡ k + n + 1 = omega arith in e)
    ∙ odd_more (is_up_to cols j i) places (k + n) 0 (omega arith)
    ∙ ap (λ b. flip b (parity_at cols (take (k + n) places) j i)) (past_it cols j i (get_or places (k + n) 0) (far (k + n) (omega arith) (omega arith)))
    ∙ parity_rest cols places k n j i (omega arith) (λ x from to. far x from (omega arith))

parity_all : (cols : ℕ) (places : List ℕ) (k j i : ℕ) → k ≤ length places
    → ((x : ℕ) → k ≤ x → x < length places → j * cols + i < get_or places x 0)
    → parity_at cols places j i ≡ parity_at cols (take k places) j i
parity_all cols places k j i fits far =
    let n : ℕ = length places - k in
    let e : k + n ≡ length places = omega arith in
    sym (ap (λ ps. parity_at cols ps j i) (ap (λ m. take m places) e ∙ take_all (length places) places (omega arith)))
    ∙ parity_rest cols places k n j i (omega arith) (λ x from to. far x from (omega arith))

pub done_none : (w : Window) (places : List ℕ) → Done w places 0 0
done_none w places = record {
  fits = omega arith;
  rest = λ d lt. omega arith;
  even = λ j i col from. refl;
}

-- the pixels from the last crossing's end on
pub done_all : (w : Window) (m : Point → Bool) (places : List ℕ) (k n j i : ℕ) → Crossings w m places → Done w places k n → length places ≤ k
    → i < w.cols → j < w.rows → n ≤ j * w.cols + i → m (centre w i j) ≡ false
done_all w m places k n j i is done past col row from =
    is.tells j i row col ∙ parity_all w.cols places k j i done.fits (λ x low high. absurd (omega arith)) ∙ done.even j i col from

row_of : (j row i cols p : ℕ) → i < cols → row * cols ≤ p → p ≤ j * cols + i → j * cols ≤ p → p < row * cols + cols → j ≡ row
row_of j row i cols p col low to from high = elim (cases_lt j row) [
  | inl h ↦ (let k : j + 1 ≤ row = omega arith in absurd (omega (arith, mul-le-mul_right cols k)))
  | inr h ↦ (elim (cases_lt row j) [
    | inl q ↦ (let k : row + 1 ≤ j = omega arith in absurd (omega (arith, mul-le-mul_right cols k)))
    | inr q ↦ (let e : j ≡ row = omega arith in e)
  ])
]

-- a row past the end of another
row_past : (j row i cols : ℕ) → i < cols → row * cols + cols ≤ j * cols + i → row * cols + cols ≤ j * cols
row_past j row i cols col h = elim (cases_lt row j) [
  | inl q ↦ (let k : row + 1 ≤ j = omega arith in omega (arith, mul-le-mul_right cols k))
  | inr q ↦ absurd (omega (arith, mul-le-mul_right cols q))
]

-- what is known of the run from the k-th crossing: in its row, from its place up to the next crossing or the row's end
pub record Begun (w : Window) (places : List ℕ) (k row first end next : ℕ) : Type 0 where
  pub lt : k < length places
  pub at : (d : ℕ) → get_or places k d ≡ first
  pub low : row * w.cols ≤ first
  pub high : first < row * w.cols + w.cols
  pub ends : end ≡ min (row * w.cols + w.cols) (get_or places (k + 1) (row * w.cols + w.cols))
  pub two : end < row * w.cols + w.cols → next ≡ k + 1 + 1
  pub one : row * w.cols + w.cols ≤ end → next ≡ k + 1

-- a crossing closes the run, or the row does
closed_by : (w : Window) (places : List ℕ) (k row first end next : ℕ) → Begun w places k row first end next
    → end < row * w.cols + w.cols → (k + 1 < length places) × ((d : ℕ) → get_or places (k + 1) d ≡ end)
closed_by w places k row first end next b less = elim (cases_lt (k + 1) (length places)) [
  | inl h ↦ (h, λ d. get_or_default places (k + 1) d (row * w.cols + w.cols) h ∙ (let e : get_or places (k + 1) (row * w.cols + w.cols) ≡ end = omega (arith, b.ends) in e))
  | inr h ↦ absurd (omega (arith, b.ends, get_or_past places (k + 1) (row * w.cols + w.cols) h))
]

pub first_end : (w : Window) (places : List ℕ) (k row first end next : ℕ) → IsNonDecreasing places → Begun w places k row first end next → first ≤ end
first_end w places k row first end next order b = elim (cases_lt (k + 1) (length places)) [
  | inl h ↦ omega (arith, b.ends, b.high, b.at 0, order k (k + 1) 0 (omega arith) h, get_or_default places (k + 1) (row * w.cols + w.cols) 0 h)
  | inr h ↦ omega (arith, b.ends, b.high, get_or_past places (k + 1) (row * w.cols + w.cols) h)
]

pub begun : (w : Window) (places : List ℕ) (k end next : ℕ) → IsWindow w → k < length places
    → end ≡ min (get_or places k 0 / w.cols * w.cols + w.cols) (get_or places (k + 1) (get_or places k 0 / w.cols * w.cols + w.cols))
    → (end < get_or places k 0 / w.cols * w.cols + w.cols → next ≡ k + 1 + 1) → (get_or places k 0 / w.cols * w.cols + w.cols ≤ end → next ≡ k + 1)
    → Begun w places k (get_or places k 0 / w.cols) (get_or places k 0) end next
begun w places k end next ok lt ends two one =
    let some : 0 < w.cols = omega (arith, ok.some_col) in
    let left : get_or places k 0 % w.cols < w.cols = mod-lt (get_or places k 0) some in record {
      lt = lt;
      at = λ d. get_or_default places k d 0 lt;
      low = omega (arith, div-add-mod (get_or places k 0) w.cols);
      high = omega (arith, div-add-mod (get_or places k 0) w.cols, left);
      ends = ends;
      two = two;
      one = one;
    }

-- the crossings past the run lie from its end on
rest_past : (w : Window) (m : Point → Bool) (places : List ℕ) (k row first end next : ℕ) → Crossings w m places → Begun w places k row first end next
    → (x : ℕ) → k + 1 ≤ x → x < length places → end ≤ get_or places x 0
rest_past w m places k row first end next is b x low lt =
    let same = get_or_default places (k + 1) (row * w.cols + w.cols) 0 (omega arith) in
    omega (arith, b.ends, same, is.order (k + 1) x 0 low lt)

run_even : (w : Window) (m : Point → Bool) (places : List ℕ) (k n row first end next : ℕ) → Crossings w m places → Done w places k n
    → Begun w places k row first end next → first ≤ end → (j i : ℕ) → i < w.cols → end ≤ j * w.cols + i → parity_at w.cols (take next places) j i ≡ false
run_even w m places k n row first end next is done b le j i col from = elim (cases_lt end (row * w.cols + w.cols)) [
  | inl less ↦ (
      let closed = closed_by w places k row first end next b less in
      ap (λ q. parity_at w.cols (take q places) j i) (b.two less)
      ∙ odd_more (is_up_to w.cols j i) places (k + 1) 0 closed.0 ∙ ap (flip (is_up_to w.cols j i (get_or places (k + 1) 0))) one_more
      ∙ ap (λ p. flip (is_up_to w.cols j i p) (flip (is_up_to w.cols j i first) false)) (closed.1 0)
      ∙ both less)
  | inr past ↦ (
      ap (λ q. parity_at w.cols (take q places) j i) (b.one past) ∙ one_more
      ∙ ap (λ t. flip t false) (above_it w.cols j i first (let q = row_past j row i w.cols col (omega arith) in omega (arith, b.high))))
]
  where
    one_more : parity_at w.cols (take (k + 1) places) j i ≡ flip (is_up_to w.cols j i first) false
    one_more =
        odd_more (is_up_to w.cols j i) places k 0 b.lt ∙ ap (λ p. flip (is_up_to w.cols j i p) (parity_at w.cols (take k places) j i)) (b.at 0)
        ∙ ap (flip (is_up_to w.cols j i first)) (done.even j i col (omega (arith, done.rest 0 b.lt, b.at 0)))

    both : end < row * w.cols + w.cols → flip (is_up_to w.cols j i end) (flip (is_up_to w.cols j i first) false) ≡ false
    both less = elim (cases_lt first (j * w.cols)) [
      | inl h ↦ (
          let q = row_before h in
          ap (λ t. flip t (flip (is_up_to w.cols j i first) false)) (above_it w.cols j i end (omega arith))
          ∙ ap (λ t. flip t false) (above_it w.cols j i first h))
      | inr h ↦
          ap (λ t. flip t (flip (is_up_to w.cols j i first) false)) (counted w.cols j i end (omega arith) from)
          ∙ ap (λ t. flip true (flip t false)) (counted w.cols j i first h (omega arith))
    ]
      where
        row_before : first < j * w.cols → row * w.cols + w.cols ≤ j * w.cols
        row_before h = elim (cases_lt row j) [
          | inl q ↦ (let t : row + 1 ≤ j = omega arith in omega (arith, mul-le-mul_right w.cols t))
          | inr q ↦ absurd (omega (arith, b.low, mul-le-mul_right w.cols q))
        ]

run_done : (w : Window) (m : Point → Bool) (places : List ℕ) (k n row first end next : ℕ) → Crossings w m places → Done w places k n
    → Begun w places k row first end next → first ≤ end → Done w places next end
run_done w m places k n row first end next is done b le = record {
  fits = elim (cases_lt end (row * w.cols + w.cols)) [
    | inl less ↦ (let closed = closed_by w places k row first end next b less in omega (arith, b.two less, closed.0))
    | inr past ↦ omega (arith, b.one past, b.lt)
  ];
  rest = λ d lt. (let far = rest_past w m places k row first end next is b next past_k lt in omega (arith, far, get_or_default places next d 0 lt));
  even = run_even w m places k n row first end next is done b le;
}
  where
    past_k : k + 1 ≤ next
    past_k = elim (cases_lt end (row * w.cols + w.cols)) [ inl less ↦ omega (arith, b.two less) | inr past ↦ omega (arith, b.one past) ]

-- the run from the k-th crossing is the next one
pub run_next : (w : Window) (m : Point → Bool) (places : List ℕ) (k n row first end next : ℕ) (r : Run) → Crossings w m places → Done w places k n
    → Begun w places k row first end next → r ≡ record { row = row; start = first - row * w.cols; end = end - row * w.cols; next = next } → IsNext w m places n r
run_next w m places k n row first end next r is done b r_is =
    let s : Run = record { row = row; start = first - row * w.cols; end = end - row * w.cols; next = next } in
    let P : Run → Type 0 = IsNext w m places n in
    let begins : row * w.cols + (first - row * w.cols) ≡ first = omega (arith, b.low) in
    let le = first_end w places k row first end next is.order b in
    let ends : end ≡ row * w.cols + (end - row * w.cols) = omega (arith, b.low) in
    let row_in : row < w.rows = first_row in
    let D : ℕ → Type 0 = Done w places next in
    let it : IsNext w m places n s = record {
      from = omega (arith, begins, done.rest 0 b.lt, b.at 0);
      before = λ j i col row_of low high.
          is.tells j i row_of col
          ∙ parity_all w.cols places k j i done.fits (λ x from to. omega (arith, begins, high, b.at 0, is.order k x 0 from to))
          ∙ done.even j i col low;
      within = λ i low high.
          is.tells row i row_in (omega (arith, b.ends))
          ∙ parity_all w.cols places (k + 1) row i (omega (arith, b.lt)) (λ x from to. omega (arith, rest_past w m places k row first end next is b x from to, ends))
          ∙ odd_more (is_up_to w.cols row i) places k 0 b.lt
          ∙ ap (λ p. flip (is_up_to w.cols row i p) (parity_at w.cols (take k places) row i)) (b.at 0)
          ∙ ap (flip (is_up_to w.cols row i first)) (done.even row i (omega (arith, b.ends)) (omega (arith, begins, done.rest 0 b.lt, b.at 0)))
          ∙ ap (λ t. flip t false) (counted w.cols row i first b.low (omega (arith, begins)));
      past = subst D ends (run_done w m places k n row first end next is done b le);
    } in
    subst P (sym r_is) it
  where
    first_row : row < w.rows
    first_row = elim (cases_lt row w.rows) [
      | inl h ↦ h
      | inr h ↦ absurd (omega (arith, b.low, b.at 0, is.inside k 0 b.lt, mul-le-mul_right w.cols h))
    ]

-- the crossings of all rings, listed and put in order
pub crossings_in_order : (w : Window) (m : Point → Bool) (none crossed : Crossed) (found places : List ℕ) → none.places.items ≡ [] → none.corners.items ≡ []
    → Turned w m none crossed → Lists w crossed found → AllInside w places → IsNonDecreasing places → SameParities found places → Crossings w m places
crossings_in_order w m none crossed found places no_places no_corners t l inside order same = record {
  inside = inside;
  order = order;
  tells = λ j i row col.
      sym (same.parity (is_up_to w.cols j i) ∙ l.at j i row col ∙ t.at j i row col ∙ ap (flip (m (centre w i j))) (none_of w none j i no_places no_corners) ∙ flip_none (m (centre w i j)));
}
  where
    flip_none : (b : Bool) → flip b false ≡ b
    flip_none true = refl
    flip_none false = refl

pub crossings_found : {V E : Type 0} (w : Window) (m : Point → Bool) (none crossed : Crossed) (found places : List ℕ) (r : Result V E) → none.places.items ≡ []
    → none.corners.items ≡ [] → Turned w m none crossed → Lists w crossed found
    → OnOk r (AllInside w places) → OnOk r (IsNonDecreasing places) → OnOk r (SameParities found places) → OnOk r (Crossings w m places)
crossings_found w m none crossed found places (Ok v) no_places no_corners t l inside order same =
    crossings_in_order w m none crossed found places no_places no_corners t l inside order same
crossings_found w m none crossed found places (Err e) no_places no_corners t l inside order same = tt

-- the bits of the places before n are set, and the first k crossings are done with
pub record Filled (w : Window) (m : Point → Bool) (places : List ℕ) (k : ℕ) (old now : Bits) : Type 0 where
  pub n : ℕ
  pub fits : n ≤ w.rows * w.cols
  pub done : Done w places k n
  pub reached : Reached m w n old now

pub filled_more : (w : Window) (m : Point → Bool) (places : List ℕ) (k : ℕ) (r : Run) (old now next : Bits) → IsWindow w → r.row < w.rows → r.start ≤ r.end → r.end ≤ w.cols
    → (f : Filled w m places k old now) → IsNext w m places f.n r
    → (Reached m w (r.row * w.cols + r.start) old now → Reached m w (r.row * w.cols + max r.start r.end) old next)
    → Filled w m places r.next old next
filled_more w m places k r old now next ok row le end f is set =
    let P : ℕ → Type 0 = λ q. Reached m w (r.row * w.cols + q) old next in
    let e : max r.start r.end ≡ r.end = omega arith in
    let q : r.row + 1 ≤ w.rows = omega arith in
    let fits : r.row * w.cols + r.start ≤ w.rows * w.cols = omega (arith, mul-le-mul_right w.cols q) in
    record {
      n = r.row * w.cols + r.end;
      fits = omega (arith, mul-le-mul_right w.cols q);
      done = is.past;
      reached = subst P e (set (reached_skip m w f.n (r.row * w.cols + r.start) old now ok.some_col is.from fits (λ j i col row_in low high. is.before j i col row_in low high) f.reached));
    }

pub filled_all : (w : Window) (m : Point → Bool) (places : List ℕ) (k : ℕ) (old now : Bits) → IsWindow w → Crossings w m places → length places ≤ k → Filled w m places k old now
    → now ≡ record old { bits = marked m (centres w) old.bits }
filled_all w m places k old now ok is past f =
    reached_end m w (w.rows * w.cols) old now refl
    (reached_skip m w f.n (w.rows * w.cols) old now ok.some_col f.fits (omega arith) (λ j i col row low high. done_all w m places k f.n j i is f.done past col row low) f.reached)
