-- Pieces put in order and joined, one after another, and what they tell of bits and of members.
use Rattle.std.proofs.Common.{◌≡◌, ℕ, ◌+◌, ◌-◌, ◌*◌, ◌<◌, ◌≤◌, ◌⊎◌, Bool, true, false, ◌&&◌, ◌||◌, List, [], ◌∷◌, ◌++◌, length, take, get_or, max, replicate, refl, ap, sym, subst, ◌∙◌, inl, inr, arith}
use Rattle.std.specs.Prelude.{nat_eq, nat_le, All}
use Rattle.std.specs.List.Sorted.{IsNonDecreasingBy}
use Rattle.std.proofs.Math.Nat.{mul-le-mul_right}
use Rattle.std.proofs.Math.Bool.{or-false, or_assoc}
use Rattle.std.proofs.Math.ListN.{get_or-append}
use Rattle.std.proofs.Math.Seq.{get_or-append_seam}
use Rattle.std.proofs.lemmas.Bool.{cases_lt, and_parts, and_from, eqb-true, eq-eqb, le-leb, leb-true, leb-false, false_from_ne_true, or_right}
use Rattle.std.proofs.lemmas.List.{take_all, get_or_default, length-append, length-replicate}
use Rattle.std.proofs.lemmas.List.Elements.{All-push, All-weaker}
use Rattle.std.proofs.lemmas.List.Folds.{list_any-append, list_any_none, list_any_more, list_any_at}
use Rattle.std.proofs.lemmas.Bool.Decides.{same_from_decides}
use Rattle.tiled_image.proofs.JoinedRuns.{run_at}
use Rattle.filter_expr.proofs.Marked.{either}
use Rattle.plain_world.specs.declared.world.Point.{Point}
use Rattle.plain_world.specs.declared.world.Window.{Window}
use Rattle.plain_world.specs.World.{centre, centres}
use Rattle.plain_shapes.specs.Images.{Bits}
use Rattle.plain_shapes.specs.inner.Canvas.{marked}
use Rattle.plain_image.specs.Runs.{run_changed}
use Rattle.plain_image.specs.Surfaces.{ShowsSome, Marks}
use Rattle.plain_image.proofs.Runs.{run_length}
use Rattle.tile_render.specs.declared.pieces.Piece.{Piece}
use Rattle.tile_render.specs.declared.pieces.Pieces.{Pieces}
use Rattle.tile_render.specs.inner.Pieces.{row_of, start_of, IsPiece, has, covered, place, IsBefore, Apart, ToldBits, ShowsPieces, PiecesTell}
use Rattle.tile_render.proofs.Brushing.{Beyond, run_beyond, unset}
use Rattle.tile_render.proofs.Covering.{bit_told}
use Rattle.tile_render.proofs.Runs.{NextRun, ordered}

-- ---- which pixels a piece has

pub record Held (j i : ℕ) (p : Piece) : Type 0 where
  pub row : j ≡ (row_of p)
  pub from : start_of p ≤ i
  pub to : i < p.end

pub in_piece : (j i : ℕ) (p : Piece) → Held j i p → has j i p ≡ true
unfolding has
in_piece j i p h = and_from _ _ (eq-eqb j (row_of p) h.row) (and_from _ _ (le-leb (start_of p) i h.from) (le-leb (i + 1) p.end (omega (arith, h.to))))

pub held : (j i : ℕ) (p : Piece) → has j i p ≡ true → Held j i p
unfolding has
held j i p h =
    let a = and_parts _ _ h in
    let b = and_parts _ _ a.1 in
    record { row = eqb-true j (row_of p) a.0; from = leb-true (start_of p) i b.0; to = (let lt = leb-true (i + 1) p.end b.1 in omega (arith, lt)) }

off_piece : (j i : ℕ) (p : Piece) → (Held j i p → ⊥) → has j i p ≡ false
off_piece j i p out = false_from_ne_true (has j i p) (λ e. out (held j i p e))

-- ---- pieces joined

-- the first k pieces are joined: those that are kept, and the last one
pub record JoinedTo (pieces kept : List Piece) (last : Piece) (k : ℕ) : Type 0 where
  pub same : (j i : ℕ) → (covered kept j i || has j i last) ≡ covered (take k pieces) j i
  pub apart : Apart kept
  pub before : All (λ p. IsBefore p last) kept
  pub next : (y : ℕ) (d : Piece) → k ≤ y → y < length pieces → place last ≤ place (get_or pieces y d)
  pub inside : (cols rows : ℕ) → All (IsPiece cols rows) pieces → All (IsPiece cols rows) kept × IsPiece cols rows last

-- a piece that begins in the last one, or at its end
pub merged_has : (j i : ℕ) (last piece : Piece) (end : ℕ) → row_of piece ≡ (row_of last) → start_of last ≤ (start_of piece) → start_of piece ≤ last.end → last.end ≤ end → piece.end ≤ end
    → (end ≡ last.end) ⊎ (end ≡ piece.end) → has j i (record last { end = end }) ≡ (has j i last || has j i piece)
merged_has j i last piece end row from touches left right which = same_from_decides _ _ (to, back) (λ h. h, λ h. h)
  where
    to : has j i (record last { end = end }) ≡ true → (has j i last || has j i piece) ≡ true
    to e =
        let h = held j i (record last { end = end }) e in
        elim (cases_lt i last.end) [
          | inl lt ↦ ap (λ t. t || has j i piece) (in_piece j i last (record { row = h.row; from = h.from; to = lt }))
          | inr past ↦ or_right (has j i last) (has j i piece)
              (in_piece j i piece (record { row = h.row ∙ sym row; from = omega arith; to = elim which [ inl a ↦ absurd (omega (arith, h.to, a)) | inr b ↦ omega (arith, h.to, b) ] }))
        ]

    back : (has j i last || has j i piece) ≡ true → has j i (record last { end = end }) ≡ true
    back e = elim (either _ _ e) [
      | inl a ↦ (let h = held j i last a in in_piece j i (record last { end = end }) (record { row = h.row; from = h.from; to = omega (arith, h.to) }))
      | inr b ↦ (let h = held j i piece b in in_piece j i (record last { end = end }) (record { row = h.row ∙ row; from = omega (arith, h.from); to = omega (arith, h.to) }))
    ]

-- one piece more, joined to the last one
pub joined_touching : (pieces kept : List Piece) (last next piece : Piece) (k : ℕ) → k < length pieces → IsNonDecreasingBy place pieces → piece ≡ get_or pieces k piece
    → (nat_eq (row_of piece) (row_of last) && nat_le (start_of piece) last.end) ≡ true → next ≡ record last { end = max last.end piece.end }
    → JoinedTo pieces kept last k → JoinedTo pieces kept next (k + 1)
joined_touching pieces kept last next piece k within order is touches next_is f = subst (λ p. JoinedTo pieces kept p (k + 1)) (sym next_is) (record {
  same = λ j i.
      ap (λ t. covered kept j i || t) (merged_has j i last piece end row (omega (arith, row, below)) start (omega arith) (omega arith) which)
      ∙ sym (or_assoc (covered kept j i) (has j i last) (has j i piece))
      ∙ ap (λ t. t || has j i piece) (f.same j i) ∙ ap (λ p. covered (take k pieces) j i || has j i p) is
      ∙ sym (list_any_more (has j i) pieces k piece within);
  apart = f.apart;
  before = All-weaker (λ p. IsBefore p last) (λ p. IsBefore p (record last { end = end })) (λ p b. record { row = b.row; col = b.col }) kept f.before;
  next = λ y d low lt. f.next y d (omega arith) lt;
  inside = λ cols rows all.
      (let g = f.inside cols rows all in
      let q : IsPiece cols rows piece = subst (IsPiece cols rows) (sym is) (all k piece within) in
      (g.0, record { row = g.1.row; order = omega (arith, g.1.order); end = omega (arith, g.1.end, q.end) }));
})
  where
    end : ℕ
    end = max last.end piece.end

    both : (nat_eq (row_of piece) (row_of last) ≡ true) × (nat_le (start_of piece) last.end ≡ true)
    both = and_parts _ _ touches

    row : row_of piece ≡ (row_of last)
    row = eqb-true (row_of piece) (row_of last) both.0

    start : start_of piece ≤ last.end
    start = leb-true (start_of piece) last.end both.1

    below : place last ≤ place piece
    below = omega (arith, f.next k piece (omega arith) within, ap place is)

    which : (end ≡ last.end) ⊎ (end ≡ piece.end)
    which = elim (cases_lt last.end piece.end) [ inl lt ↦ inr (omega arith) | inr le ↦ inl (omega arith) ]

pub apart_push : (kept : List Piece) (last : Piece) → Apart kept → All (λ p. IsBefore p last) kept → Apart (kept ++ last ∷ [])
apart_push kept last apart before = record {
  at = λ x y d lt within. elim (cases_lt y (length kept)) [
    | inl inner ↦ subst (λ p. IsBefore p (get_or (kept ++ last ∷ []) y d)) (sym (get_or-append kept (last ∷ []) d x (omega arith)))
        (subst (λ q. IsBefore (get_or kept x d) q) (sym (get_or-append kept (last ∷ []) d y inner)) (apart.at x y d lt inner))
    | inr outer ↦ (
        let e : length kept ≡ y = omega (arith, length-append kept (last ∷ [])) in
        let first : x < length kept = omega arith in
        subst (λ p. IsBefore p (get_or (kept ++ last ∷ []) y d)) (sym (get_or-append kept (last ∷ []) d x first))
        (subst (λ q. IsBefore (get_or kept x d) q) (sym (ap (λ n. get_or (kept ++ last ∷ []) n d) (sym e) ∙ get_or-append_seam kept last [] d)) (before x d first)))
  ];
}

-- the last piece is kept too
pub pushed_covers : (pieces kept : List Piece) (last : Piece) (k : ℕ) → JoinedTo pieces kept last k → (j i : ℕ) → covered (kept ++ last ∷ []) j i ≡ covered (take k pieces) j i
pushed_covers pieces kept last k f j i =
    list_any-append (has j i) kept (last ∷ []) ∙ ap (λ t. covered kept j i || t) (or-false (has j i last)) ∙ f.same j i

-- one piece more, which begins past the last one
pub joined_past : (pieces kept : List Piece) (last piece : Piece) (k : ℕ) → k < length pieces → IsNonDecreasingBy place pieces → piece ≡ get_or pieces k piece
    → (nat_eq (row_of piece) (row_of last) && nat_le (start_of piece) last.end) ≡ false
    → JoinedTo pieces kept last k → JoinedTo pieces (kept ++ last ∷ []) piece (k + 1)
joined_past pieces kept last piece k within order is past f = record {
  same = λ j i.
      ap (λ t. t || has j i piece) (pushed_covers pieces kept last k f j i) ∙ ap (λ p. covered (take k pieces) j i || has j i p) is
      ∙ sym (list_any_more (has j i) pieces k piece within);
  apart = apart_push kept last f.apart f.before;
  before = All-push (λ p. IsBefore p piece) kept last
      (All-weaker (λ p. IsBefore p last) (λ p. IsBefore p piece) (λ p b. record { row = omega (arith, b.row, row); col = λ r. omega (arith, b.col (omega (arith, row, r)), row, r, below) }) kept f.before)
      (record { row = row; col = λ r. beyond r });
  next = λ y d low lt. omega (arith, ap place is, order k y piece (omega arith) lt, ap place (get_or_default pieces y piece d lt));
  inside = λ cols rows all.
      (let g = f.inside cols rows all in
      (All-push (IsPiece cols rows) kept last g.0 g.1, subst (IsPiece cols rows) (sym is) (all k piece within)));
}
  where
    below : place last ≤ place piece
    below = omega (arith, f.next k piece (omega arith) within, ap place is)

    row : row_of last ≤ (row_of piece)
    row = omega (arith, below)

    beyond : row_of piece ≤ (row_of last) → last.end ≤ (start_of piece)
    beyond r =
        let e : row_of piece ≡ (row_of last) = omega (arith, row) in
        let off : nat_le (start_of piece) last.end ≡ false = sym (ap (λ t. t && nat_le (start_of piece) last.end) (eq-eqb (row_of piece) (row_of last) e)) ∙ past in
        let lt = leb-false (start_of piece) last.end off in
        omega (arith, lt)

-- all pieces
pub joined_all : (pieces kept : List Piece) (last : Piece) (k : ℕ) → length pieces ≤ k → JoinedTo pieces kept last k → (j i : ℕ) → covered (kept ++ last ∷ []) j i ≡ covered pieces j i
joined_all pieces kept last k past f j i = pushed_covers pieces kept last k f j i ∙ ap (λ ps. covered ps j i) (take_all k pieces past)

pub joined_inside : (pieces kept : List Piece) (last : Piece) (k cols rows : ℕ) → JoinedTo pieces kept last k → All (IsPiece cols rows) pieces → All (IsPiece cols rows) (kept ++ last ∷ [])
joined_inside pieces kept last k cols rows f all = (let g = f.inside cols rows all in All-push (IsPiece cols rows) kept last g.0 g.1)

-- ---- pieces and bits

run_bit : (cols j from end : ℕ) (p : Piece) (bits : List Bool) (v i : ℕ) → row_of p ≡ j → start_of p ≡ from → p.end ≡ end → from ≤ end → end ≤ cols → i < cols → v * cols + i < length bits
    → get_or (run_changed (λ _. true) (j * cols + from) (end - from) bits) (v * cols + i) false
    ≡ (get_or bits (v * cols + i) false || has v i p)
run_bit cols j from end p bits v i er es ee order fits col within = elim (cases_lt v j) [
  | inl up ↦ (let q : v + 1 ≤ j = omega arith in off (inl (omega (arith, mul-le-mul_right cols q))) (λ h. omega (arith, h.row, er)))
  | inr level ↦ (elim (cases_lt j v) [
    | inl under ↦ (let q : j + 1 ≤ v = omega arith in off (inr (omega (arith, mul-le-mul_right cols q))) (λ h. omega (arith, h.row, er)))
    | inr here ↦ (
        let e : v ≡ j = omega arith in
        let a = ap (λ k. k * cols) e in
        elim (cases_lt i from) [
          | inl west ↦ off (inl (omega (arith, a))) (λ h. omega (arith, h.from, es))
          | inr west ↦ (elim (cases_lt i end) [
            | inl inner ↦
                run_at (λ _. true) (j * cols + from) (end - from) (v * cols + i) bits false (omega (arith, a)) (omega (arith, a)) within
                ∙ sym (or_right (get_or bits (v * cols + i) false) _ (in_piece v i p (record { row = e ∙ sym er; from = omega (arith, es, west); to = omega (arith, ee, inner) })))
            | inr east ↦ off (inr (omega (arith, a))) (λ h. omega (arith, h.to, ee))
          ])
        ])
  ])
]
  where
    off : Beyond (v * cols + i) (j * cols + from) (end - from) → (Held v i p → ⊥)
        → get_or (run_changed (λ _. true) (j * cols + from) (end - from) bits) (v * cols + i) false
        ≡ (get_or bits (v * cols + i) false || has v i p)
    off far out =
        run_beyond (λ _. true) (j * cols + from) (end - from) bits (v * cols + i) false far
        ∙ sym (ap (λ t. get_or bits (v * cols + i) false || t) (off_piece v i p out) ∙ or-false (get_or bits (v * cols + i) false))

-- nothing is covered yet
pub shows_none : (start : Pieces) → start.list.items ≡ [] → ShowsPieces start (record { cols = start.cols; rows = start.rows; bits = replicate (start.rows * start.cols) false })
shows_none start none = record {
  cols = refl;
  rows = refl;
  count = length-replicate (start.rows * start.cols) false;
  told = λ whole. record {
    inside = subst (All (IsPiece start.cols start.rows)) (sym none) (λ k d within. absurd (omega arith));
    at = λ j i hj hi. unset (start.rows * start.cols) (j * start.cols + i) ∙ sym (ap (λ ps. covered ps j i) none);
  };
}

-- one piece more
pub shows_more : (old new : Pieces) (bits : Bits) (j from end : ℕ) (p : Piece) → row_of p ≡ j → start_of p ≡ from → p.end ≡ end → j < old.rows → end ≤ old.cols → from ≤ end → new.cols ≡ old.cols → new.rows ≡ old.rows
    → (new.is_short ≡ false → (old.is_short ≡ false)
    × ((v i : ℕ) → covered new.list.items v i ≡ (covered old.list.items v i || has v i p))
    × (All (IsPiece old.cols old.rows) old.list.items → IsPiece old.cols old.rows p → All (IsPiece old.cols old.rows) new.list.items))
    → ShowsPieces old bits
    → ShowsSome ShowsPieces (λ next. next ≡ record bits { bits = run_changed (λ _. true) (j * old.cols + from) (end - from) bits.bits }) new
shows_more old new bits j from end p er es ee row col order cols rows added s = record {
  bits = record bits { bits = next };
  shown = record {
    cols = s.cols ∙ sym cols;
    rows = s.rows ∙ sym rows;
    count = run_length (λ _. true) (j * old.cols + from) (end - from) bits.bits ∙ s.count ∙ ap (λ n. n * old.cols) (sym rows) ∙ ap (λ n. new.rows * n) (sym cols);
    told = λ whole.
        (let more = added whole in
        let t = s.told more.0 in
        subst (λ n. ToldBits n new.rows new.list.items next) (sym cols) (subst (λ n. ToldBits old.cols n new.list.items next) (sym rows) (record {
          inside = more.2 t.inside (record { row = omega (arith, er, row); order = omega (arith, es, ee, order); end = omega (arith, ee, col) });
          at = λ v i hv hi.
              (let down : v + 1 ≤ old.rows = omega arith in
              run_bit old.cols j from end p bits.bits v i er es ee order col hi (omega (arith, s.count, mul-le-mul_right old.cols down))
              ∙ ap (λ t. t || has v i p) (t.at v i hv hi) ∙ sym (more.1 v i));
        })));
  };
  is = refl;
}
  where
    next : List Bool
    next = run_changed (λ _. true) (j * old.cols + from) (end - from) bits.bits

-- the pieces that are covered, in order and joined, tell the members
pub pieces_made : (w : Window) (member : Point → Bool) (start now : Pieces) (found : List Piece) → start.cols ≡ w.cols → start.rows ≡ w.rows
    → start.list.items ≡ [] → Marks (λ _ p bits. ShowsPieces p bits) member w start now → now.is_short ≡ false
    → ((j i : ℕ) → covered found j i ≡ covered now.list.items j i) → Apart found → ((cols rows : ℕ) → All (IsPiece cols rows) now.list.items → All (IsPiece cols rows) found)
    → PiecesTell w member found
pieces_made w member start now found cols rows none marks whole same apart inside =
    let made = marks start (record { cols = start.cols; rows = start.rows; bits = replicate (start.rows * start.cols) false }) (shows_none start none) in
    let told : ToldBits now.cols now.rows now.list.items made.bits.bits = made.shown.told whole in
    let t : ToldBits w.cols w.rows now.list.items made.bits.bits =
    subst (λ n. ToldBits w.cols n now.list.items made.bits.bits) (sym made.shown.rows ∙ ap (λ b. b.rows) made.is ∙ rows) (subst (λ n. ToldBits n now.rows now.list.items made.bits.bits) (sym made.shown.cols ∙ ap (λ b. b.cols) made.is ∙ cols) told) in
    record {
      inside = inside w.cols w.rows t.inside;
      apart = apart;
      at = λ j i hj hi.
          sym (bit_told w member made.bits.bits j i (ap (λ b. b.bits) made.is ∙ ap (λ n. marked member (centres w) (replicate (n * start.cols) false)) rows ∙ ap (λ n. marked member (centres w) (replicate (w.rows * n) false)) cols) hj hi)
          ∙ t.at j i hj hi ∙ sym (same j i);
    }

-- ---- pieces painted

-- the first k pieces end before the place n, and the others begin there or behind it
pub record PiecesDone (cols : ℕ) (pieces : List Piece) (k n : ℕ) : Type 0 where
  pub before : (x : ℕ) (d : Piece) → x < k → x < length pieces → row_of (get_or pieces x d) * cols + (get_or pieces x d).end ≤ n
  pub behind : (y : ℕ) (d : Piece) → k ≤ y → y < length pieces → n ≤ row_of (get_or pieces y d) * cols + start_of (get_or pieces y d)

pub pieces_none : (cols : ℕ) (pieces : List Piece) → PiecesDone cols pieces 0 0
pieces_none cols pieces = record { before = λ x d lt within. absurd (omega arith); behind = λ y d low within. omega arith }

-- a pixel that none of the pieces has
none_has : (pieces : List Piece) (j i : ℕ) → ((x : ℕ) (d : Piece) → x < length pieces → Held j i (get_or pieces x d) → ⊥) → covered pieces j i ≡ false
none_has pieces j i out = list_any_none (has j i) pieces (λ x d within. off_piece j i (get_or pieces x d) (out x d within))

piece_row : (cols j i : ℕ) (p : Piece) → Held j i p → ((row_of p) * cols + (start_of p) ≤ j * cols + i) × (j * cols + i < (row_of p) * cols + p.end)
piece_row cols j i p h = (let a = ap (λ k. k * cols) h.row in (omega (arith, a, h.from), omega (arith, a, h.to)))

-- the k-th piece is the next run of members
pub piece_next : (w : Window) (member : Point → Bool) (pieces : List Piece) (k n : ℕ) (piece : Piece) → k < length pieces → piece ≡ get_or pieces k piece
    → PiecesTell w member pieces → PiecesDone w.cols pieces k n
    → NextRun w member (PiecesDone w.cols pieces (k + 1)) n (row_of piece) (start_of piece) piece.end
piece_next w member pieces k n piece within is tells done = record {
  begins = first;
  before = λ j i hi hj low high. tells.at j i hj hi ∙ none_has pieces j i (λ x d lt h.
      (let at = piece_row w.cols j i (get_or pieces x d) h in
      elim (cases_lt x k) [
        | inl early ↦ omega (arith, at.1, done.before x d early lt, low)
        | inr late ↦ omega (arith, at.0, high, later x d late lt)
      ]));
  within = λ i low high.
      tells.at (row_of piece) i inside.row (omega (arith, inside.end))
      ∙ list_any_at (has (row_of piece) i) pieces k piece within (ap (has (row_of piece) i) (sym is) ∙ in_piece (row_of piece) i piece (record { row = refl; from = low; to = high }));
  past = record {
    before = λ x d lt there. elim (cases_lt x k) [
      | inl early ↦ omega (arith, done.before x d early there, first, inside.order)
      | inr here ↦ (
          let e : x ≡ k = omega arith in
          let q : get_or pieces x d ≡ piece = ap (λ m. get_or pieces m d) e ∙ get_or_default pieces k d piece within ∙ sym is in
          omega (arith, ap (λ p. (row_of p) * w.cols + p.end) q))
    ];
    behind = λ y d low there.
        (let b : IsBefore piece (get_or pieces y d) = subst (λ p. IsBefore p (get_or pieces y d)) (get_or_default pieces k d piece within ∙ sym is) (tells.apart.at k y d (omega arith) there) in
        ordered (row_of piece) piece.end (row_of (get_or pieces y d)) (start_of (get_or pieces y d)) w.cols inside.end b.row b.col);
  };
}
  where
    inside : IsPiece w.cols w.rows piece
    inside = subst (IsPiece w.cols w.rows) (sym is) (tells.inside k piece within)

    first : n ≤ row_of piece * w.cols + (start_of piece)
    first = omega (arith, done.behind k piece (omega arith) within, ap (λ p. (row_of p) * w.cols + (start_of p)) is)

    later : (x : ℕ) (d : Piece) → k ≤ x → x < length pieces → row_of piece * w.cols + (start_of piece) ≤ row_of (get_or pieces x d) * w.cols + start_of (get_or pieces x d)
    later x d late lt = elim (cases_lt k x) [
      | inl behind ↦ (
          let b : IsBefore piece (get_or pieces x d) = subst (λ p. IsBefore p (get_or pieces x d)) (get_or_default pieces k d piece within ∙ sym is) (tells.apart.at k x d behind lt) in
          omega (arith, inside.order, ordered (row_of piece) piece.end (row_of (get_or pieces x d)) (start_of (get_or pieces x d)) w.cols inside.end b.row b.col))
      | inr here ↦ (
          let e : x ≡ k = omega arith in
          let q : get_or pieces x d ≡ piece = ap (λ m. get_or pieces m d) e ∙ get_or_default pieces k d piece within ∙ sym is in
          omega (arith, ap (λ p. (row_of p) * w.cols + (start_of p)) q))
    ]

-- the pixels behind all pieces
pub pieces_all : (w : Window) (member : Point → Bool) (pieces : List Piece) (k n : ℕ) → length pieces ≤ k → PiecesTell w member pieces → PiecesDone w.cols pieces k n
    → (j i : ℕ) → i < w.cols → j < w.rows → n ≤ j * w.cols + i → member (centre w i j) ≡ false
pieces_all w member pieces k n past tells done j i hi hj low =
    tells.at j i hj hi ∙ none_has pieces j i (λ x d lt h. (let at = piece_row w.cols j i (get_or pieces x d) h in omega (arith, at.1, done.before x d (omega arith) lt, low)))
