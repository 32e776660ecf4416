-- Rows and columns outside a shape's stretches have no member.
use Rattle.std.proofs.Common.{◌≡◌, ℕ, zero, suc, ◌+◌, ◌-◌, ◌*◌, ◌/◌, ◌<◌, ◌≤◌, max, Bool, true, false, set, refl, ap, sym, subst, ◌∙◌, inl, inr, arith}
use Rattle.std.specs.Prelude.{nat_le, nat_lt}
use Rattle.std.proofs.Math.Nat.{mul-le-mul_right}
use Rattle.std.proofs.lemmas.Bool.{cases_lt, le-leb, lt-leb, leb-true, leb-false, ltb-true, and_parts, false_from_ne_true}
use Rattle.plain_world.specs.declared.world.Point.{Point}
use Rattle.plain_world.specs.declared.world.Window.{Window}
use Rattle.plain_world.specs.World.{InWorld, IsWindow, centre, centres}
use Rattle.plain_shapes.specs.Images.{Bits}
use Rattle.plain_shapes.specs.inner.Canvas.{marked}
use Rattle.plain_shapes.specs.inner.Canvas.{Reached}
use Rattle.plain_shapes.proofs.Places.{reached_start, reached_skip, reached_yes, reached_end}
use Rattle.plain_image.specs.Runs.{run_changed}
use Rattle.plain_image.proofs.Runs.{run_none, set_more}
use Rattle.centre_spans.specs.declared.shapes.Stretch.{Stretch}
use Rattle.centre_spans.specs.Stretches.{InStretch, in_stretch}
use Rattle.centre_spans.proofs.Edges.{inside}

-- the centres of a window lie in the world
pub centre_in : (w : Window) (i j : ℕ) → IsWindow w → i < w.cols → j < w.rows → InWorld (centre w i j)
centre_in w i j ok p q =
    let col : i + 1 ≤ w.cols = omega arith in
    let row : j + 1 ≤ w.rows = omega arith in
    record {
      x_fits = omega (arith, ok.east_fits, mul-le-mul_right w.pixel col);
      y_fits = omega (arith, ok.south_fits, mul-le-mul_right w.pixel row);
    }

-- neither to the west nor to the east of it
beside_in : (w : Window) (i j : ℕ) → i < w.cols → (w.west ≤ (centre w i j).x) × ((centre w i j).x ≤ w.west + w.cols * w.pixel)
beside_in w i j p = (let col : i + 1 ≤ w.cols = omega arith in (omega arith, omega (arith, mul-le-mul_right w.pixel col)))

before_start : (s : Stretch) (v : ℕ) (t : Bool) → (t ≡ true → InStretch s v) → v < s.start → t ≡ false
before_start s v t covers out = false_from_ne_true t (λ e. let k = (covers e).from_start in omega arith)

from_end : (s : Stretch) (v : ℕ) (t : Bool) → (t ≡ true → InStretch s v) → s.end ≤ v → t ≡ false
from_end s v t covers out = false_from_ne_true t (λ e. let k = (covers e).before_end in omega arith)

-- the places of one row
row_of : (j' i j c low high : ℕ) → i < c → low ≤ c → high ≤ c → j * c + low ≤ j' * c + i → j' * c + i < j * c + high → j' ≡ j
row_of j' i j c low high p l h from below = elim (cases_lt j' j) [
  | inl q ↦ (let k : j' + 1 ≤ j = omega arith in absurd (omega (arith, mul-le-mul_right c k)))
  | inr q ↦ (elim (cases_lt j j') [
    | inl r ↦ (let k : j + 1 ≤ j' = omega arith in absurd (omega (arith, mul-le-mul_right c k)))
    | inr r ↦ (let e : j' ≡ j = omega arith in e)
  ])
]

col_of : (j' i j c n : ℕ) → j' ≡ j → j' * c + i < j * c + n → i < n
col_of j' i j c n e h = omega (arith, ap (λ k. k * c) e)

col_from : (j' i j c n : ℕ) → j' ≡ j → j * c + n ≤ j' * c + i → n ≤ i
col_from j' i j c n e h = omega (arith, ap (λ k. k * c) e)

-- the columns of a row before the first one of the shape
pub row_start : (m : Point → Bool) (w : Window) (s : Stretch) (j left : ℕ) (start now : Bits) → IsWindow w → j < w.rows → left ≤ w.cols
    → ((i : ℕ) → i < w.cols → nat_le left i ≡ nat_le s.start (w.west + i * w.pixel + w.pixel / 2))
    → ((c : Point) → InWorld c → m c ≡ true → c.y ≡ w.north + j * w.pixel + w.pixel / 2 → InStretch s c.x)
    → Reached m w (j * w.cols) start now → Reached m w (j * w.cols + left) start now
row_start m w s j left start now ok row le splits covers r =
    reached_skip m w (j * w.cols) (j * w.cols + left) start now ok.some_col (omega arith) (fits j left w.cols w.rows row le)
    (λ j' i p q low high.
    let e : j' ≡ j = row_of j' i j w.cols 0 left p (omega arith) le (omega arith) high in
    let c : Point = centre w i j' in
    before_start s c.x (m c) (λ t. covers c (centre_in w i j' ok p q) t (ap (λ k. w.north + k * w.pixel + w.pixel / 2) e))
    (leb-false s.start c.x (sym (splits i p) ∙ lt-leb left i (col_of j' i j w.cols left e high)))) r
  where
    fits : (j n c rows : ℕ) → j < rows → n ≤ c → j * c + n ≤ rows * c
    fits j n c rows p q = (let k : j + 1 ≤ rows = omega arith in omega (arith, mul-le-mul_right c k))

-- the columns of a row past the last one of the shape
pub row_end : (m : Point → Bool) (w : Window) (s : Stretch) (j i right : ℕ) (start now : Bits) → IsWindow w → j < w.rows → right ≤ i → i ≤ w.cols
    → ((i : ℕ) → i < w.cols → nat_le right i ≡ nat_le s.end (w.west + i * w.pixel + w.pixel / 2))
    → ((c : Point) → InWorld c → m c ≡ true → c.y ≡ w.north + j * w.pixel + w.pixel / 2 → InStretch s c.x)
    → Reached m w (j * w.cols + i) start now → Reached m w (j * w.cols + w.cols) start now
row_end m w s j n right start now ok row past le splits covers r =
    reached_skip m w (j * w.cols + n) (j * w.cols + w.cols) start now ok.some_col (omega arith) (fits j w.cols w.rows row)
    (λ j' i p q low high.
    let e : j' ≡ j = row_of j' i j w.cols n w.cols p le (omega arith) low high in
    let c : Point = centre w i j' in
    let from : n ≤ i = col_from j' i j w.cols n e low in
    from_end s c.x (m c) (λ t. covers c (centre_in w i j' ok p q) t (ap (λ k. w.north + k * w.pixel + w.pixel / 2) e))
    (leb-true s.end c.x (sym (splits i p) ∙ le-leb right i (omega arith)))) r
  where
    fits : (j c rows : ℕ) → j < rows → j * c + c ≤ rows * c
    fits j c rows p = (let k : j + 1 ≤ rows = omega arith in omega (arith, mul-le-mul_right c k))

-- the stretch of a row has its members, and each centre between the first column and the last one is a member
pub held_in : (m : Point → Bool) (s : Stretch) (y : ℕ) → ((c : Point) → InWorld c → c.y ≡ y → m c ≡ in_stretch s c.x)
    → (c : Point) → InWorld c → m c ≡ true → c.y ≡ y → InStretch s c.x
held_in m s y exact c inside held same =
    let parts = and_parts (nat_le s.start c.x) (nat_lt c.x s.end) (sym (exact c inside same) ∙ held) in
    record { from_start = leb-true s.start c.x parts.0; before_end = ltb-true c.x s.end parts.1 }

pub member_at : (m : Point → Bool) (w : Window) (s : Stretch) (j i left right : ℕ) → IsWindow w → i < w.cols → j < w.rows → left ≤ i → i < right
    → ((i : ℕ) → i < w.cols → nat_le left i ≡ nat_le s.start (w.west + i * w.pixel + w.pixel / 2))
    → ((i : ℕ) → i < w.cols → nat_le right i ≡ nat_le s.end (w.west + i * w.pixel + w.pixel / 2))
    → ((c : Point) → InWorld c → c.y ≡ w.north + j * w.pixel + w.pixel / 2 → m c ≡ in_stretch s c.x)
    → m (centre w i j) ≡ true
member_at m w s j i left right ok col row low high from to exact =
    let c : Point = centre w i j in
    let starts = leb-true s.start c.x (sym (from i col) ∙ le-leb left i low) in
    let ends = leb-false s.end c.x (sym (to i col) ∙ lt-leb right i high) in
    exact c (centre_in w i j ok col row) refl ∙ inside s c.x starts ends

-- pixels of a row, all of them members
some_more : (m : Point → Bool) (w : Window) (j from count : ℕ) (start now : Bits) → from + count ≤ w.cols → j < w.rows
    → ((i : ℕ) → from ≤ i → i < from + count → m (centre w i j) ≡ true) → Reached m w (j * w.cols + from) start now
    → Reached m w (j * w.cols + (from + count)) start (record now { bits = run_changed (λ _. true) (j * w.cols + from) count now.bits })
some_more m w j from zero start now fits row members r =
    let P : ℕ → Bits → Type 0 = λ n b. Reached m w n start b in
    let place : ℕ = j * w.cols + from in
    let all : place ≡ j * w.cols + (from + 0) = omega arith in
    let none : place - place ≡ 0 = omega arith in
    subst (λ n. P n (record now { bits = run_changed (λ _. true) place 0 now.bits })) all
    (subst (P place) (ap (λ bs. record now { bits = bs }) (run_none (λ _. true) place now.bits ∙ ap (λ k. run_changed (λ _. true) place k now.bits) none)) r)
some_more m w j from (suc n) start now fits row members r =
    let place : ℕ = j * w.cols + from in
    let before : Bits = record now { bits = run_changed (λ _. true) place n now.bits } in
    let next : ℕ = j * w.cols + (from + suc n) in
    let at : j * w.cols + (from + n) ≡ place + n = omega arith in
    subst (λ b. Reached m w next start b)
    (ap (λ k. record now { bits = set before.bits k true }) at ∙ ap (λ bs. record now { bits = bs }) (sym (set_more place n now.bits)))
    (reached_yes m w j (from + n) (j * w.cols + (from + n)) next start before refl (omega arith) (omega arith) row (members (from + n) (omega arith) (omega arith))
    (some_more m w j from n start now (omega arith) row (λ i low high. members i low (omega arith)) r))

-- a run of a row set, all of whose centres are members
pub run_more : (m : Point → Bool) (w : Window) (j cols from end : ℕ) (start now next : Bits) → cols ≡ w.cols → end ≤ w.cols → j < w.rows
    → ((i : ℕ) → from ≤ i → i < end → m (centre w i j) ≡ true)
    → next ≡ record now { bits = run_changed (λ _. true) (j * cols + from) (end - from) now.bits }
    → Reached m w (j * w.cols + from) start now → Reached m w (j * w.cols + max from end) start next
run_more m w j cols from end start now next across fits row members is r =
    subst (λ b. Reached m w (j * w.cols + max from end) start b)
    (ap (λ k. record now { bits = run_changed (λ _. true) (j * k + from) (end - from) now.bits }) (sym across) ∙ sym is)
    (elim (cases_lt from end) [
      | inl h ↦ (
          let all : from + (end - from) ≡ max from end = omega arith in
          let few : from + (end - from) ≤ w.cols = omega arith in
          subst (λ n. Reached m w (j * w.cols + n) start (record now { bits = run_changed (λ _. true) (j * w.cols + from) (end - from) now.bits })) all
          (some_more m w j from (end - from) start now few row (λ i low high. members i low (omega arith)) r))
      | inr h ↦ (
          let all : from ≡ max from end = omega arith in
          let place : ℕ = j * w.cols + from in
          let none : place - place ≡ end - from = omega arith in
          subst (λ n. Reached m w (j * w.cols + n) start (record now { bits = run_changed (λ _. true) place (end - from) now.bits })) all
          (subst (λ b. Reached m w place start b) (ap (λ bs. record now { bits = bs }) (run_none (λ _. true) place now.bits ∙ ap (λ k. run_changed (λ _. true) place k now.bits) none)) r))
    ])

-- the rows above the first one of the shape
pub rows_start : (m : Point → Bool) (w : Window) (s : Stretch) (top : ℕ) (old : Bits) → IsWindow w → top ≤ w.rows
    → ((j : ℕ) → j < w.rows → nat_le top j ≡ nat_le s.start (w.north + j * w.pixel + w.pixel / 2))
    → ((c : Point) → InWorld c → w.west ≤ c.x → c.x ≤ w.west + w.cols * w.pixel → m c ≡ true → InStretch s c.y)
    → Reached m w (top * w.cols) old old
rows_start m w s top old ok le splits covers =
    reached_skip m w 0 (top * w.cols) old old ok.some_col (omega arith) (mul-le-mul_right w.cols le)
    (λ j i p q low high.
    let c : Point = centre w i j in
    let beside = beside_in w i j p in
    before_start s c.y (m c) (covers c (centre_in w i j ok p q) beside.0 beside.1)
    (leb-false s.start c.y (sym (splits j q) ∙ lt-leb top j (row_before j top i w.cols high))))
    (reached_start m w old)
  where
    row_before : (j top i c : ℕ) → j * c + i < top * c → j < top
    row_before j top i c h = elim (cases_lt j top) [ inl p ↦ p | inr p ↦ absurd (omega (arith, mul-le-mul_right c p)) ]

-- the rows below the last one of the shape
pub rows_end : (m : Point → Bool) (w : Window) (s : Stretch) (n bottom : ℕ) (old now : Bits) → IsWindow w → bottom ≤ n → n ≤ w.rows
    → ((j : ℕ) → j < w.rows → nat_le bottom j ≡ nat_le s.end (w.north + j * w.pixel + w.pixel / 2))
    → ((c : Point) → InWorld c → w.west ≤ c.x → c.x ≤ w.west + w.cols * w.pixel → m c ≡ true → InStretch s c.y)
    → Reached m w (n * w.cols) old now → now ≡ record old { bits = marked m (centres w) old.bits }
rows_end m w s n bottom old now ok past le splits covers r =
    reached_end m w (w.rows * w.cols) old now refl
    (reached_skip m w (n * w.cols) (w.rows * w.cols) old now ok.some_col (mul-le-mul_right w.cols le) (omega arith)
    (λ j i p q low high.
    let c : Point = centre w i j in
    let from : n ≤ j = row_from j n i w.cols p low in
    let beside = beside_in w i j p in
    from_end s c.y (m c) (covers c (centre_in w i j ok p q) beside.0 beside.1)
    (leb-true s.end c.y (sym (splits j q) ∙ le-leb bottom j (omega arith)))) r)
  where
    row_from : (j n i c : ℕ) → i < c → n * c ≤ j * c + i → n ≤ j
    row_from j n i c col h = elim (cases_lt j n) [ inl p ↦ (let q : j + 1 ≤ n = omega arith in absurd (omega (arith, mul-le-mul_right c q))) | inr p ↦ p ]

pub next_row : (m : Point → Bool) (w : Window) (j : ℕ) (start now : Bits) → Reached m w (j * w.cols + w.cols) start now → Reached m w ((j + 1) * w.cols) start now
next_row m w j start now r =
    let P : ℕ → Type 0 = λ n. Reached m w n start now in
    let e : j * w.cols + w.cols ≡ (j + 1) * w.cols = omega arith in
    subst P e r
