-- Columns between corners, and how all crossings add up.
use Rattle.std.proofs.Common.{◌≡◌, ℕ, ◌+◌, ◌*◌, ◌/◌, ◌<◌, ◌≤◌, min, max, Bool, true, false, not, ◌&&◌, List, [], ◌∷◌, ◌++◌, length, take, get_or, cond, refl, ap, sym, subst, ◌∙◌, inl, inr, arith}
use Rattle.std.specs.Prelude.{nat_le, ◌||◌}
use Rattle.std.specs.List.Sorted.{IsPermutation}
use Rattle.std.proofs.Math.Bool.{and-false}
use Rattle.std.proofs.Math.Nat.{mul-le-mul_right}
use Rattle.std.proofs.lemmas.Bool.{cases_lt, le-leb, lt-leb, leb-true, leb-false}
use Rattle.std.proofs.lemmas.List.{take_all}
use Rattle.std.proofs.lemmas.List.Sorted.{sum_by-IsPermutation}
use Rattle.plain_world.specs.declared.world.Point.{Point}
use Rattle.plain_world.specs.declared.world.Window.{Window}
use Rattle.plain_world.specs.World.{centre}
use Rattle.plain_shapes.specs.Rings.{counts_down, is_odd}
use Rattle.plain_shapes.proofs.Signs.{off_above, off_below}
use Rattle.raster_core.specs.declared.edges.Edge.{Edge}
use Rattle.raster_core.specs.declared.columns.Corner.{Corner}
use Rattle.raster_core.specs.declared.columns.ColumnRun.{ColumnRun}
use Rattle.raster_core.specs.declared.columns.Crossed.{Crossed}
use Rattle.raster_core.specs.inner.Toggles.{flip, is_up_to, parity_at, AllInside, Toggled, RowToggled, RowsToggled, SameParities, IsFirstRow, IsEdge, at_centres}
use Rattle.raster_core.specs.inner.Columns.{corner, is_past, odd_corners, in_run, in_part, parity_of, CornersTurned, PartTurned, Turned, SameTurns, Lists, Remains}
use Rattle.raster_core.proofs.Toggling.{flip_flip, flip_swap, swapped, odd_push, odd_more, row_toggled, rows_start, rows_more, rows_end}
use Rattle.raster_core.proofs.Downward.{between}

-- ---- the ends of a column

pub twice_same : (b : Bool) → flip b b ≡ false
twice_same true = refl
twice_same false = refl

-- the rows between the ends are those of the run
ends_at : (top bottom j : ℕ) (t : Bool) → top ≤ bottom → flip (nat_le bottom j && t) (nat_le top j && t) ≡ ((nat_le top j && not (nat_le bottom j)) && t)
ends_at top bottom j t order = elim (cases_lt j top) [
  | inl above ↦ (
      let low : j < bottom = omega arith in
      ap (λ s. flip (s && t) (nat_le top j && t)) (lt-leb bottom j low) ∙ ap (λ s. s && t) (lt-leb top j above)
      ∙ sym (ap (λ s. (s && not (nat_le bottom j)) && t) (lt-leb top j above)))
  | inr from ↦ (elim (cases_lt j bottom) [
    | inl below ↦
        ap (λ s. flip (s && t) (nat_le top j && t)) (lt-leb bottom j below) ∙ ap (λ s. s && t) (le-leb top j from)
        ∙ sym (ap (λ s. (nat_le top j && not s) && t) (lt-leb bottom j below) ∙ ap (λ s. (s && true) && t) (le-leb top j from))
    | inr past ↦
        ap (λ s. flip (s && t) (nat_le top j && t)) (le-leb bottom j past) ∙ ap (λ s. flip t (s && t)) (le-leb top j from) ∙ twice_same t
        ∙ sym (ap (λ s. (nat_le top j && not s) && t) (le-leb bottom j past) ∙ ap (λ s. (s && false) && t) (le-leb top j from))
  ])
]

pub ends_added : (w : Window) (run : ColumnRun) (old new : List Corner) → run.top ≤ run.bottom
    → new ≡ (old ++ corner run.column run.top ∷ []) ++ corner run.column run.bottom ∷ [] → CornersTurned w (in_run run) old new
ends_added w run old new order is = record {
  at = λ j i row col. (
      let c : Corner = corner run.column run.top in
      let d : Corner = corner run.column run.bottom in
      ap (λ cs. odd_corners cs j i) is ∙ odd_push (is_past j i) (old ++ c ∷ []) d ∙ ap (flip (is_past j i d)) (odd_push (is_past j i) old c)
      ∙ sym (flip_flip (is_past j i d) (is_past j i c) (odd_corners old j i))
      ∙ ap (λ t. flip t (odd_corners old j i)) (ends_at run.top run.bottom j (nat_le run.column i) order));
}

-- a column east of the window
run_off : (w : Window) (run : ColumnRun) (j i : ℕ) → w.cols ≤ run.column → i < w.cols → in_run run j i ≡ false
run_off w run j i past col =
    ap (λ t. (nat_le run.top j && not (nat_le run.bottom j)) && t) (lt-leb run.column i (omega arith)) ∙ and-false (nat_le run.top j && not (nat_le run.bottom j))

pub ends_outside : (w : Window) (run : ColumnRun) (old : List Corner) → w.cols ≤ run.column → CornersTurned w (in_run run) old old
ends_outside w run old past = record { at = λ j i row col. sym (ap (λ t. flip t (odd_corners old j i)) (run_off w run j i past col)) }

-- ---- some rows of an edge

-- the heights of the rows of an edge
pub upper_at : (w : Window) (e : Edge) (j : ℕ) → IsEdge w e → e.top ≤ j → j < w.rows → e.a.y ≤ w.north + j * w.pixel + w.pixel / 2
upper_at w e j edge from row = leb-true e.a.y (w.north + j * w.pixel + w.pixel / 2) (sym (edge.top j row) ∙ le-leb e.top j from)

pub lower_at : (w : Window) (e : Edge) (j : ℕ) → IsEdge w e → j < e.bottom → j < w.rows → w.north + j * w.pixel + w.pixel / 2 < e.b.y
lower_at w e j edge below row = leb-false e.b.y (w.north + j * w.pixel + w.pixel / 2) (sym (edge.bottom j row) ∙ lt-leb e.bottom j below)

part_above : (w : Window) (m : Point → Bool) (from to j i : ℕ) → j < from → in_part w m from to j i ≡ false
part_above w m from to j i above = ap (λ t. (t && not (nat_le to j)) && m (centre w i j)) (lt-leb from j above)

part_below : (w : Window) (m : Point → Bool) (from to j i : ℕ) → to ≤ j → in_part w m from to j i ≡ false
part_below w m from to j i past =
    ap (λ t. (nat_le from j && not t) && m (centre w i j)) (le-leb to j past) ∙ ap (λ t. t && m (centre w i j)) (and-false (nat_le from j))

part_inside : (w : Window) (m : Point → Bool) (from to j i : ℕ) → from ≤ j → j < to → in_part w m from to j i ≡ m (centre w i j)
part_inside w m from to j i low high =
    ap (λ t. (t && not (nat_le to j)) && m (centre w i j)) (le-leb from j low) ∙ ap (λ t. not t && m (centre w i j)) (lt-leb to j high)

pub part_start : (w : Window) (m : Point → Bool) (from to : ℕ) (old : List ℕ) → RowsToggled w (in_part w m from to) from old old
part_start w m from to old = rows_start w (in_part w m from to) from old (λ j i above row col. part_above w m from to j i above)

pub part_row : (w : Window) (m : Point → Bool) (from to j : ℕ) (old now next : List ℕ) → from ≤ j → j < to
    → RowsToggled w (in_part w m from to) j old now → RowToggled w (at_centres w m) j now next → RowsToggled w (in_part w m from to) (j + 1) old next
part_row w m from to j old now next low high r s = rows_more w (in_part w m from to) j old now next r (record {
  inside = s.inside;
  at = λ i col. s.at i col ∙ ap (λ t. flip t (parity_at w.cols now j i)) (sym (part_inside w m from to j i low high));
  others = s.others;
})

pub part_end : (w : Window) (m : Point → Bool) (from to n : ℕ) (old now : List ℕ) → to ≤ n → RowsToggled w (in_part w m from to) n old now → Toggled w (in_part w m from to) old now
part_end w m from to n old now past r = rows_end w (in_part w m from to) n old now r (λ j i below row col. part_below w m from to j i (omega arith))

-- the rows of a column are those of an edge that has it in all of them
pub part_is_run : (w : Window) (m : Point → Bool) (run : ColumnRun) → ((j i : ℕ) → run.top ≤ j → j < run.bottom → i < w.cols → nat_le run.column i ≡ m (centre w i j))
    → (j i : ℕ) → j < w.rows → i < w.cols → in_run run j i ≡ in_part w m run.top run.bottom j i
part_is_run w m run agree j i row col = elim (cases_lt j run.top) [
  | inl above ↦ ap (λ t. (t && not (nat_le run.bottom j)) && nat_le run.column i) (lt-leb run.top j above) ∙ sym (part_above w m run.top run.bottom j i above)
  | inr from ↦ (elim (cases_lt j run.bottom) [
    | inl below ↦ ap (λ t. (nat_le run.top j && not (nat_le run.bottom j)) && t) (agree j i from below col)
    | inr past ↦
        ap (λ t. (nat_le run.top j && not t) && nat_le run.column i) (le-leb run.bottom j past) ∙ ap (λ t. t && nat_le run.column i) (and-false (nat_le run.top j))
        ∙ sym (part_below w m run.top run.bottom j i past)
  ])
]

none_between : (b t : Bool) → ((b && not b) && t) ≡ false
none_between true t = refl
none_between false t = refl

pub parts_start : (w : Window) (m : Point → Bool) (top : ℕ) (old : Crossed) → PartTurned w (in_part w m top top) old old
parts_start w m top old = record {
  inside = λ all. all;
  at = λ j i row col. sym (ap (λ t. flip t (parity_of w old j i)) (none_between (nat_le top j) (m (centre w i j))));
}

flip_none : (t : Bool) → flip t false ≡ t
flip_none true = refl
flip_none false = refl

-- two parts, one after the other
parts_joined : (w : Window) (m : Point → Bool) (top from to j i : ℕ) → top ≤ from → from ≤ to → flip (in_part w m from to j i) (in_part w m top from j i) ≡ in_part w m top to j i
parts_joined w m top from to j i low high = elim (cases_lt j from) [
  | inl above ↦ (
      ap (λ t. flip t (in_part w m top from j i)) (part_above w m from to j i above)
      ∙ ap (λ t. (nat_le top j && not t) && m (centre w i j)) (lt-leb from j above ∙ sym (lt-leb to j (omega arith))))
  | inr past ↦ (
      ap (flip (in_part w m from to j i)) (part_below w m top from j i past) ∙ flip_none (in_part w m from to j i)
      ∙ ap (λ t. (t && not (nat_le to j)) && m (centre w i j)) (le-leb from j past ∙ sym (le-leb top j (omega arith))))
]

pub parts_more : (w : Window) (m : Point → Bool) (top from to : ℕ) (old now next : Crossed) → top ≤ from → from ≤ to
    → PartTurned w (in_part w m top from) old now → PartTurned w (in_part w m from to) now next → PartTurned w (in_part w m top to) old next
parts_more w m top from to old now next low high t r = record {
  inside = λ all. r.inside (t.inside all);
  at = λ j i row col. (
      r.at j i row col ∙ ap (flip (in_part w m from to j i)) (t.at j i row col)
      ∙ sym (flip_flip (in_part w m from to j i) (in_part w m top from j i) (parity_of w old j i))
      ∙ ap (λ b. flip b (parity_of w old j i)) (parts_joined w m top from to j i low high));
}

-- all rows of an edge
pub parts_end : (w : Window) (a b : Point) (top bottom n : ℕ) (old now : Crossed) → IsFirstRow w a.y top → IsFirstRow w b.y bottom → bottom ≤ n
    → PartTurned w (in_part w (counts_down a b) top n) old now → Turned w (counts_down a b) old now
parts_end w a b top bottom n old now first last past t = record {
  inside = t.inside;
  at = λ j i row col. t.at j i row col ∙ ap (λ b. flip b (parity_of w old j i)) (whole j i row);
}
  where
    whole : (j i : ℕ) → j < w.rows → in_part w (counts_down a b) top n j i ≡ counts_down a b (centre w i j)
    whole j i row = elim (cases_lt j top) [
      | inl above ↦ (
          let off : (centre w i j).y < a.y = leb-false a.y (centre w i j).y (sym (first j row) ∙ lt-leb top j above) in
          part_above w (counts_down a b) top n j i above ∙ sym (off_above a b (centre w i j) off))
      | inr from ↦ (elim (cases_lt j n) [
        | inl below ↦ part_inside w (counts_down a b) top n j i from below
        | inr after ↦ (
            let off : b.y ≤ (centre w i j).y = leb-true b.y (centre w i j).y (sym (last j row) ∙ le-leb bottom j (omega arith)) in
            part_below w (counts_down a b) top n j i after ∙ sym (off_below a b (centre w i j) off))
      ])
    ]

-- where the first and the last row of an edge have one column, all between have it
pub column_between : (w : Window) (e : Edge) (k from last : ℕ) → IsEdge w e → e.top ≤ from → last < e.bottom → e.bottom ≤ w.rows
    → ((i : ℕ) → i < w.cols → nat_le k i ≡ counts_down e.a e.b (centre w i from)) → ((i : ℕ) → i < w.cols → nat_le k i ≡ counts_down e.a e.b (centre w i last))
    → (j i : ℕ) → from ≤ j → j ≤ last → i < w.cols → nat_le k i ≡ counts_down e.a e.b (centre w i j)
column_between w e k from last edge top bottom rows first second j i low high col =
    let p : from * w.pixel ≤ j * w.pixel = mul-le-mul_right w.pixel low in
    let q : j * w.pixel ≤ last * w.pixel = mul-le-mul_right w.pixel high in
    let upper = upper_at w e from edge top (omega arith) in
    let lower = lower_at w e last edge bottom (omega arith) in
    between e.a e.b (centre w i from) (centre w i j) (centre w i last) (nat_le k i) refl refl upper (omega (arith, p)) (omega (arith, q)) lower (first i col) (second i col)

-- ---- the rows from a corner on

min_le : (m n j : ℕ) → nat_le (min m n) j ≡ (nat_le m j || nat_le n j)
min_le m n j = elim (cases_lt j m) [
  | inl h ↦ (elim (cases_lt j n) [
    | inl g ↦ lt-leb (min m n) j (omega arith) ∙ sym (ap (λ t. t || nat_le n j) (lt-leb m j h) ∙ lt-leb n j g)
    | inr g ↦ le-leb (min m n) j (omega arith) ∙ sym (ap (λ t. t || nat_le n j) (lt-leb m j h) ∙ le-leb n j g)
  ])
  | inr h ↦ le-leb (min m n) j (omega arith) ∙ sym (ap (λ t. t || nat_le n j) (le-leb m j h))
]

max_le : (m n rows j : ℕ) → j < rows → nat_le (min (max m n) rows) j ≡ (nat_le m j && nat_le n j)
max_le m n rows j row = elim (cases_lt j m) [
  | inl h ↦ lt-leb (min (max m n) rows) j (omega arith) ∙ sym (ap (λ t. t && nat_le n j) (lt-leb m j h))
  | inr h ↦ (elim (cases_lt j n) [
    | inl g ↦ lt-leb (min (max m n) rows) j (omega arith) ∙ sym (ap (λ t. t && nat_le n j) (le-leb m j h) ∙ lt-leb n j g)
    | inr g ↦ le-leb (min (max m n) rows) j (omega arith) ∙ sym (ap (λ t. t && nat_le n j) (le-leb m j h) ∙ le-leb n j g)
  ])
]

two_tests : (a b t p : Bool) → flip (b && t) (flip (a && t) p) ≡ flip (((a || b) && not (a && b)) && t) p
two_tests true true true true = refl
two_tests true true true false = refl
two_tests true true false p = refl
two_tests true false t p = refl
two_tests false true t p = refl
two_tests false false t p = refl

one_test : (a t p : Bool) → flip (a && t) p ≡ flip ((a && not false) && t) p
one_test true t p = refl
one_test false t p = refl

pub run_two : (corners : List Corner) (k next rows j i : ℕ) (c d : Corner) (run : ColumnRun) → k + 1 < length corners → j < rows → next ≡ k + 1 + 1
    → get_or corners k c ≡ c → get_or corners (k + 1) d ≡ d → d.column ≡ c.column
    → run.column ≡ c.column → run.top ≡ min c.row d.row → run.bottom ≡ min (max c.row d.row) rows
    → odd_corners (take next corners) j i ≡ flip (in_run run j i) (odd_corners (take k corners) j i)
run_two corners k next rows j i c d run lt row next_is at_c at_d same column top bottom =
    let p : Bool = odd_corners (take k corners) j i in
    let t : Bool = nat_le c.column i in
    ap (λ n. odd_corners (take n corners) j i) next_is ∙ odd_more (is_past j i) corners (k + 1) d lt
    ∙ ap (λ x. flip (is_past j i x) (odd_corners (take (k + 1) corners) j i)) at_d
    ∙ ap (flip (is_past j i d)) (odd_more (is_past j i) corners k c (omega arith) ∙ ap (λ x. flip (is_past j i x) p) at_c)
    ∙ ap (λ x. flip (nat_le d.row j && nat_le x i) (flip (nat_le c.row j && t) p)) same
    ∙ two_tests (nat_le c.row j) (nat_le d.row j) t p
    ∙ ap (λ x. flip ((x && not (nat_le c.row j && nat_le d.row j)) && t) p) (sym (ap (λ m. nat_le m j) top ∙ min_le c.row d.row j))
    ∙ ap (λ x. flip ((nat_le run.top j && not x) && t) p) (sym (ap (λ m. nat_le m j) bottom ∙ max_le c.row d.row rows j row))
    ∙ ap (λ x. flip ((nat_le run.top j && not (nat_le run.bottom j)) && nat_le x i) p) (sym column)

pub run_one : (corners : List Corner) (k rows j i : ℕ) (c : Corner) (run : ColumnRun) → k < length corners → j < rows
    → get_or corners k c ≡ c → run.column ≡ c.column → run.top ≡ c.row → run.bottom ≡ rows
    → odd_corners (take (k + 1) corners) j i ≡ flip (in_run run j i) (odd_corners (take k corners) j i)
run_one corners k rows j i c run lt row at_c column top bottom =
    let p : Bool = odd_corners (take k corners) j i in
    odd_more (is_past j i) corners k c lt ∙ ap (λ x. flip (is_past j i x) p) at_c
    ∙ one_test (nat_le c.row j) (nat_le c.column i) p
    ∙ ap (λ x. flip ((nat_le x j && not false) && nat_le c.column i) p) (sym top)
    ∙ ap (λ x. flip ((nat_le run.top j && not x) && nat_le c.column i) p) (sym (ap (λ m. nat_le m j) bottom ∙ lt-leb rows j row))
    ∙ ap (λ x. flip ((nat_le run.top j && not (nat_le run.bottom j)) && nat_le x i) p) (sym column)

-- ---- the rows of a run, one after another

pub run_start : (w : Window) (run : ColumnRun) (old : List ℕ) → RowsToggled w (in_run run) run.top old old
run_start w run old = rows_start w (in_run run) run.top old
    (λ j i above row col. ap (λ t. (t && not (nat_le run.bottom j)) && nat_le run.column i) (lt-leb run.top j above))

pub run_more : (w : Window) (run : ColumnRun) (j : ℕ) (old now next : List ℕ) → run.column < w.cols → run.bottom ≤ w.rows → run.top ≤ j → j < run.bottom
    → RowsToggled w (in_run run) j old now → next ≡ now ++ (j * w.cols + run.column) ∷ [] → RowsToggled w (in_run run) (j + 1) old next
run_more w run j old now next col rows from below r is = rows_more w (in_run run) j old now next r
    (row_toggled w (in_run run) run.column j now next col (omega arith)
    (λ i q. sym (ap (λ t. (t && not (nat_le run.bottom j)) && nat_le run.column i) (le-leb run.top j from) ∙ ap (λ t. not t && nat_le run.column i) (lt-leb run.bottom j below))) is)

pub run_end : (w : Window) (run : ColumnRun) (j : ℕ) (old now : List ℕ) → run.bottom ≤ j → RowsToggled w (in_run run) j old now → Toggled w (in_run run) old now
run_end w run n old now past r = rows_end w (in_run run) n old now r
    (λ j i from row col. ap (λ t. (nat_le run.top j && not t) && nat_le run.column i) (le-leb run.bottom j (omega arith)) ∙ ap (λ t. t && nat_le run.column i) (and-false (nat_le run.top j)))

-- a run of a column that the window does not have
pub run_outside : (w : Window) (run : ColumnRun) (old : List ℕ) → w.cols ≤ run.column → Toggled w (in_run run) old old
run_outside w run old past = record { inside = λ all. all; at = λ j i row col. sym (ap (λ t. flip t (parity_at w.cols old j i)) (run_off w run j i past col)) }

-- ---- all runs

pub runs_start : (w : Window) (corners : List Corner) (old : List ℕ) → Toggled w (odd_corners (take 0 corners)) old old
runs_start w corners old = record { inside = λ all. all; at = λ j i row col. refl }

pub runs_more : (w : Window) (corners : List Corner) (k n : ℕ) (run : ColumnRun) (old now next : List ℕ)
    → ((j i : ℕ) → j < w.rows → odd_corners (take n corners) j i ≡ flip (in_run run j i) (odd_corners (take k corners) j i))
    → Toggled w (odd_corners (take k corners)) old now → Toggled w (in_run run) now next → Toggled w (odd_corners (take n corners)) old next
runs_more w corners k n run old now next is t r = record {
  inside = λ all. r.inside (t.inside all);
  at = λ j i row col. (
      r.at j i row col ∙ ap (flip (in_run run j i)) (t.at j i row col)
      ∙ sym (flip_flip (in_run run j i) (odd_corners (take k corners) j i) (parity_at w.cols old j i))
      ∙ ap (λ b. flip b (parity_at w.cols old j i)) (sym (is j i row)));
}

pub runs_end : (w : Window) (corners : List Corner) (k : ℕ) (old now : List ℕ) → length corners ≤ k → Toggled w (odd_corners (take k corners)) old now → Toggled w (odd_corners corners) old now
runs_end w corners k old now past t = subst (λ (cs : List Corner). Toggled w (odd_corners cs) old now) (take_all k corners past) t

pub lists_all : (w : Window) (crossed : Crossed) (sorted : List Corner) (places : List ℕ) → IsPermutation crossed.corners.items sorted
    → Toggled w (odd_corners sorted) crossed.places.items places → Lists w crossed places
lists_all w crossed sorted places moved t = record {
  inside = t.inside;
  at = λ j i row col. t.at j i row col
      ∙ ap (λ (n : ℕ). flip (is_odd n) (parity_at w.cols crossed.places.items j i)) (sum_by-IsPermutation (λ x. cond (is_past j i x) 1 0) crossed.corners.items sorted moved);
}

-- ---- all crossings

pub turned_places : (w : Window) (m : ℕ → ℕ → Bool) (old new : Crossed) → new.corners.items ≡ old.corners.items
    → Toggled w m old.places.items new.places.items → PartTurned w m old new
turned_places w m old new same t = record {
  inside = t.inside;
  at = λ j i row col. (
      ap (λ cs. flip (odd_corners cs j i) (parity_at w.cols new.places.items j i)) same
      ∙ ap (flip (odd_corners old.corners.items j i)) (t.at j i row col)
      ∙ swapped (odd_corners old.corners.items j i) (m j i) (parity_at w.cols old.places.items j i));
}

pub turned_corners : (w : Window) (n m : ℕ → ℕ → Bool) (old new : Crossed) → new.places.items ≡ old.places.items
    → ((j i : ℕ) → j < w.rows → i < w.cols → n j i ≡ m j i) → CornersTurned w n old.corners.items new.corners.items → PartTurned w m old new
turned_corners w n m old new same agree t = record {
  inside = λ all. subst (λ (ps : List ℕ). AllInside w ps) (sym same) all;
  at = λ j i row col. (
      ap (λ ps. flip (odd_corners new.corners.items j i) (parity_at w.cols ps j i)) same
      ∙ ap (λ b. flip b (parity_at w.cols old.places.items j i)) (t.at j i row col)
      ∙ flip_flip (n j i) (odd_corners old.corners.items j i) (parity_at w.cols old.places.items j i)
      ∙ ap (λ b. flip b (parity_of w old j i)) (agree j i row col));
}

pub turned_kept : (w : Window) (m : Point → Bool) (old now next : Crossed) → Turned w m old now → SameTurns w now next → Turned w m old next
turned_kept w m old now next t s = record { inside = λ all. s.inside (t.inside all); at = λ j i row col. s.at j i row col ∙ t.at j i row col }

pub same_then : (w : Window) (old now next : Crossed) → SameTurns w old now → SameTurns w now next → SameTurns w old next
same_then w old now next r s = record { inside = λ all. s.inside (r.inside all); at = λ j i row col. s.at j i row col ∙ r.at j i row col }

pub same_none : (w : Window) (all : Crossed) → SameTurns w all all
same_none w all = record { inside = λ holds. holds; at = λ j i row col. refl }

pub same_thinned : (w : Window) (old new : Crossed) → new.corners.items ≡ old.corners.items → AllInside w new.places.items
    → SameParities old.places.items new.places.items → SameTurns w old new
same_thinned w old new same all s = record {
  inside = λ before. all;
  at = λ j i row col. (
      ap (λ cs. flip (odd_corners cs j i) (parity_at w.cols new.places.items j i)) same
      ∙ ap (flip (odd_corners old.corners.items j i)) (s.parity (is_up_to w.cols j i)));
}

pub same_listed : (w : Window) (old new : Crossed) → new.corners.items ≡ [] → Lists w old new.places.items → SameTurns w old new
same_listed w old new none l = record {
  inside = l.inside;
  at = λ j i row col. ap (λ cs. flip (odd_corners cs j i) (parity_at w.cols new.places.items j i)) none ∙ l.at j i row col;
}

-- no crossings
pub none_of : (w : Window) (none : Crossed) (j i : ℕ) → none.places.items ≡ [] → none.corners.items ≡ [] → parity_of w none j i ≡ false
none_of w none j i places corners =
    ap (λ cs. flip (odd_corners cs j i) (parity_at w.cols none.places.items j i)) corners ∙ ap (λ ps. parity_at w.cols ps j i) places

-- ---- edges and rings that are left

pub remains_more : (w : Window) (left edge rest whole : Point → Bool) (old now next : Crossed)
    → ((c : Point) → left c ≡ flip (edge c) (rest c)) → Remains w left whole old now → Turned w edge now next → Remains w rest whole old next
remains_more w left edge rest whole old now next split r t = record {
  inside = λ all. t.inside (r.inside all);
  at = λ j i p q. (let c : Point = centre w i j in
      ap (flip (rest c)) (t.at j i p q)
      ∙ flip_swap (rest c) (edge c) (parity_of w now j i)
      ∙ ap (λ b. flip b (parity_of w now j i)) (sym (split c))
      ∙ r.at j i p q);
}

pub remains_end : (w : Window) (left whole : Point → Bool) (old now : Crossed) → ((c : Point) → left c ≡ false) → Remains w left whole old now → Turned w whole old now
remains_end w left whole old now none r = record {
  inside = r.inside;
  at = λ j i p q. sym (ap (λ b. flip b (parity_of w now j i)) (none (centre w i j))) ∙ r.at j i p q;
}
