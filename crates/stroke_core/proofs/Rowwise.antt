-- The stretches of a row: what is compared there is what the definitions compare.
use Rattle.std.proofs.Common.{◌≡◌, ℕ, ◌+◌, ◌-◌, ◌*◌, ◌<◌, ◌≤◌, Bool, true, false, not, ◌&&◌, refl, ap, sym, ◌∙◌, inl, inr, arith}
use Rattle.std.specs.Prelude.{nat_le, nat_lt}
use Rattle.std.proofs.Math.Nat.{mul-le-mul}
use Rattle.std.proofs.Math.Bool.{and-false, and-true}
use Rattle.std.proofs.lemmas.Bool.{cases_lt, le-leb, lt-leb, lt-ltb, le-ltb}
use Rattle.plain_world.specs.declared.world.Point.{Point}
use Rattle.plain_shapes.specs.Strokes.{is_same, is_near, in_body, in_disk, before_start, past_end, in_block}
use Rattle.centre_spans.specs.declared.stretches.Growing.{Growing}
use Rattle.stroke_core.specs.declared.segments.Segment.{Segment}
use Rattle.stroke_core.specs.inner.Segments.{IsSegment}
use Rattle.stroke_core.proofs.Products.{along_is, beside_is}
use Rattle.stroke_core.proofs.Testing.{near_is, body_is, start_is, end_is, disk_is, block_is}
use Rattle.centre_spans.specs.Stretches.{gap}
use Rattle.stroke_core.proofs.Boxes.{along_plus, along_minus, beside_plus, beside_minus}

-- a number that grows evenly, at a place
abbrev pub at : Growing → ℕ → ℕ
at g v = v * g.slope + g.rest

pub raised_at : (g h : Growing) (more v n : ℕ) → h ≡ record { slope = g.slope; rest = g.rest + more } → at g v ≡ n → at h v ≡ n + more
raised_at g h more v n is at_is =
    let e : v * g.slope + (g.rest + more) ≡ v * g.slope + g.rest + more = omega arith in
    ap (λ k. at k v) is ∙ e ∙ ap (λ k. k + more) at_is

pub beside_plus_at : (a b c : Point) (y : ℕ) (g : Growing) → c.y ≡ y → g ≡ record { slope = b.y; rest = y * a.x + a.y * b.x } → at g c.x ≡ beside_plus a b c
beside_plus_at a b c y g same is =
    let e : c.x * b.y + (c.y * a.x + a.y * b.x) ≡ beside_plus a b c = omega arith in
    ap (λ h. at h c.x) is ∙ ap (λ t. c.x * b.y + (t * a.x + a.y * b.x)) (sym same) ∙ e

pub beside_minus_at : (a b c : Point) (y : ℕ) (g : Growing) → c.y ≡ y → g ≡ record { slope = a.y; rest = a.x * b.y + y * b.x } → at g c.x ≡ beside_minus a b c
beside_minus_at a b c y g same is =
    let e : c.x * a.y + (a.x * b.y + c.y * b.x) ≡ beside_minus a b c = omega arith in
    ap (λ h. at h c.x) is ∙ ap (λ t. c.x * a.y + (a.x * b.y + t * b.x)) (sym same) ∙ e

pub along_plus_at : (a b c : Point) (y : ℕ) (g : Growing) → c.y ≡ y → g ≡ record { slope = b.x; rest = a.x * a.x + y * b.y + a.y * a.y } → at g c.x ≡ along_plus a b c
along_plus_at a b c y g same is =
    let e : c.x * b.x + (a.x * a.x + c.y * b.y + a.y * a.y) ≡ along_plus a b c = omega arith in
    ap (λ h. at h c.x) is ∙ ap (λ t. c.x * b.x + (a.x * a.x + t * b.y + a.y * a.y)) (sym same) ∙ e

pub along_minus_at : (a b c : Point) (y : ℕ) (g : Growing) → c.y ≡ y → g ≡ record { slope = a.x; rest = a.x * b.x + y * a.y + a.y * b.y } → at g c.x ≡ along_minus a b c
along_minus_at a b c y g same is =
    let e : c.x * a.x + (a.x * b.x + c.y * a.y + a.y * b.y) ≡ along_minus a b c = omega arith in
    ap (λ h. at h c.x) is ∙ ap (λ t. c.x * a.x + (a.x * b.x + t * a.y + a.y * b.y)) (sym same) ∙ e

-- two numbers that are at most r apart
gap_within : (p m r : ℕ) → (nat_le p (m + r) && nat_le m (p + r)) ≡ nat_le (gap p m) r
gap_within p m r = elim (cases_lt (m + r) p) [
  | inl h ↦ ap (λ t. t && nat_le m (p + r)) (lt-leb p (m + r) h) ∙ sym (lt-leb (gap p m) r (omega arith))
  | inr h ↦ ap (λ t. t && nat_le m (p + r)) (le-leb p (m + r) h) ∙ elim (cases_lt (p + r) m) [
    | inl k ↦ lt-leb m (p + r) k ∙ sym (lt-leb (gap p m) r (omega arith))
    | inr k ↦ le-leb m (p + r) k ∙ sym (le-leb (gap p m) r (omega arith))
  ]
]

-- a number that is less, by at most r
less_within : (p m r : ℕ) → (nat_le (p + 1) m && nat_le m (p + r)) ≡ (nat_lt p m && nat_le (gap p m) r)
less_within p m r = elim (cases_lt p m) [
  | inl h ↦ (let q : p + 1 ≤ m = omega arith in
      ap (λ t. t && nat_le m (p + r)) (le-leb (p + 1) m q) ∙ by_gap h ∙ sym (ap (λ t. t && nat_le (gap p m) r) (lt-ltb p m h)))
  | inr h ↦ ap (λ t. t && nat_le m (p + r)) (lt-leb (p + 1) m (omega arith)) ∙ sym (ap (λ t. t && nat_le (gap p m) r) (le-ltb p m h))
]
  where
    by_gap : p < m → nat_le m (p + r) ≡ nat_le (gap p m) r
    by_gap h = elim (cases_lt (p + r) m) [
      | inl k ↦ lt-leb m (p + r) k ∙ sym (lt-leb (gap p m) r (omega arith))
      | inr k ↦ le-leb m (p + r) k ∙ sym (le-leb (gap p m) r (omega arith))
    ]

-- near, without squares
pub near_row : (s : Segment) (c : Point) (row one two : Bool) → IsSegment s → row ≡ (one && two)
    → one ≡ nat_le (beside_plus s.a s.b c) (beside_minus s.a s.b c + s.reach) → two ≡ nat_le (beside_minus s.a s.b c) (beside_plus s.a s.b c + s.reach)
    → row ≡ is_near s.half s.a s.b c
near_row s c row one two ok row_is one_is two_is =
    let p : ℕ = beside_plus s.a s.b c in
    let m : ℕ = beside_minus s.a s.b c in
    row_is ∙ (λ i. one_is i && two_is i) ∙ gap_within p m s.reach ∙ ok.reach (gap p m)
    ∙ near_is s.half s.a s.b c p m (gap p m) s.long (s.half * s.half * s.long) (beside_is s.a s.b c p m refl refl) refl ok.long refl

pub body_row : (s : Segment) (c : Point) (t row ends one two near : Bool) → IsSegment s → t ≡ is_same s.a s.b → t ≡ false → row ≡ (ends && near) → ends ≡ (one && two)
    → one ≡ nat_le (along_minus s.a s.b c) (along_plus s.a s.b c) → two ≡ nat_le (along_plus s.a s.b c) (along_minus s.a s.b c + s.long)
    → near ≡ is_near s.half s.a s.b c
    → (not (is_same s.a s.b) && in_body s.half s.a s.b c) ≡ row
body_row s c t row ends one two near ok t_is differs row_is ends_is one_is two_is near_at =
    let p : ℕ = along_plus s.a s.b c in
    let m : ℕ = along_minus s.a s.b c in
    ap (λ u. not u && in_body s.half s.a s.b c) (sym t_is ∙ differs)
    ∙ sym (row_is ∙ ap (λ u. u && near) (ends_is ∙ (λ i. one_is i && two_is i))
    ∙ body_is s.half s.a s.b c p m s.long near (along_is s.a s.b c p m refl refl) ok.long near_at)

and_and : (a b c : Bool) → (a && (b && c)) ≡ ((a && b) && c)
and_and true b c = refl
and_and false b c = refl

pub start_row : (s : Segment) (c : Point) (t row one two before near : Bool) → IsSegment s → t ≡ is_same s.a s.b → t ≡ false → row ≡ (near && before) → before ≡ (one && two)
    → one ≡ nat_le (along_plus s.a s.b c + 1) (along_minus s.a s.b c) → two ≡ nat_le (along_minus s.a s.b c) (along_plus s.a s.b c + s.reach)
    → near ≡ is_near s.half s.a s.b c
    → (not (is_same s.a s.b) && before_start s.half s.a s.b c) ≡ row
start_row s c t row one two before near ok t_is differs row_is before_is one_is two_is near_at =
    let p : ℕ = along_plus s.a s.b c in
    let m : ℕ = along_minus s.a s.b c in
    let d : ℕ = gap p m in
    ap (λ u. not u && before_start s.half s.a s.b c) (sym t_is ∙ differs)
    ∙ sym (row_is ∙ ap (λ u. near && u) (before_is ∙ (λ i. one_is i && two_is i) ∙ less_within p m s.reach ∙ ap (λ u. nat_lt p m && u) (ok.reach d))
    ∙ and_and near (nat_lt p m) (nat_le (d * d) (s.half * s.half * s.long))
    ∙ start_is s.half s.a s.b c p m d s.long (s.half * s.half * s.long) near (along_is s.a s.b c p m refl refl) refl ok.long refl near_at)

pub end_row : (s : Segment) (c : Point) (t row one two past near : Bool) → IsSegment s → t ≡ is_same s.a s.b → t ≡ false → row ≡ (near && past) → past ≡ (one && two)
    → one ≡ nat_le (along_minus s.a s.b c + (s.long + 1)) (along_plus s.a s.b c) → two ≡ nat_le (along_plus s.a s.b c) (along_minus s.a s.b c + (s.long + s.reach))
    → near ≡ is_near s.half s.a s.b c
    → (not (is_same s.a s.b) && past_end s.half s.a s.b c) ≡ row
end_row s c t row one two past near ok t_is differs row_is past_is one_is two_is near_at =
    let p : ℕ = along_plus s.a s.b c in
    let n : ℕ = along_minus s.a s.b c + s.long in
    let d : ℕ = gap n p in
    let e : along_minus s.a s.b c + (s.long + 1) ≡ n + 1 = omega arith in
    let f : along_minus s.a s.b c + (s.long + s.reach) ≡ n + s.reach = omega arith in
    let turned : d ≡ gap p n = omega arith in
    ap (λ u. not u && past_end s.half s.a s.b c) (sym t_is ∙ differs)
    ∙ sym (row_is ∙ ap (λ u. near && u) (past_is ∙ (λ i. (one_is ∙ ap (λ k. nat_le k p) e) i && (two_is ∙ ap (λ k. nat_le p k) f) i)
    ∙ less_within n p s.reach ∙ ap (λ u. nat_lt n p && u) (ok.reach d))
    ∙ and_and near (nat_lt n p) (nat_le (d * d) (s.half * s.half * s.long))
    ∙ end_is s.half s.a s.b c p (along_minus s.a s.b c) d s.long (s.half * s.half * s.long) near (along_is s.a s.b c p (along_minus s.a s.b c) refl refl) turned ok.long refl near_at)

-- where the two ends are one nothing is held
pub none_row : (a b : Point) (held row t : Bool) → t ≡ is_same a b → t ≡ true → row ≡ false → (not (is_same a b) && held) ≡ row
none_row a b held row t t_is alike row_is = ap (λ u. not u && held) (sym t_is ∙ alike) ∙ sym row_is

-- a disk's row: as far as the root of what is left of the square
pub disk_row : (half : ℕ) (p c : Point) (y down reach : ℕ) (row : Bool) → c.y ≡ y → down ≡ gap y p.y → down ≤ half
    → ((d : ℕ) → nat_le d reach ≡ nat_le (d * d) (half * half - down * down)) → row ≡ nat_le (c.x - p.x + (p.x - c.x)) reach → in_disk half p c ≡ row
disk_row half p c y down reach row same down_is low reach_is row_is =
    let x : ℕ = gap c.x p.x in
    let there : gap c.y p.y ≡ down = ap (λ k. gap k p.y) same ∙ sym down_is in
    let some : down * down ≤ half * half = mul-le-mul low low in
    sym (row_is ∙ reach_is x
    ∙ elim (cases_lt (half * half) (x * x + down * down)) [
      | inl h ↦ lt-leb (x * x) (half * half - down * down) (omega arith) ∙ sym (lt-leb (x * x + down * down) (half * half) h)
      | inr h ↦ le-leb (x * x) (half * half - down * down) (omega arith) ∙ sym (le-leb (x * x + down * down) (half * half) h)
    ]
    ∙ disk_is half p c x down refl (sym there))

pub disk_off : (half : ℕ) (p c : Point) (y down : ℕ) (row : Bool) → c.y ≡ y → down ≡ gap y p.y → half < down → row ≡ false → in_disk half p c ≡ row
disk_off half p c y down row same down_is far row_is =
    let x : ℕ = gap c.x p.x in
    let there : gap c.y p.y ≡ down = ap (λ k. gap k p.y) same ∙ sym down_is in
    let k : half + 1 ≤ down = omega arith in
    let more = mul-le-mul k k in
    sym (disk_is half p c x down refl (sym there)) ∙ lt-leb (x * x + down * down) (half * half) (omega (arith, more)) ∙ sym row_is

pub block_row : (half : ℕ) (p c : Point) (y down : ℕ) (row : Bool) → c.y ≡ y → down ≡ gap y p.y → down ≤ half → row ≡ nat_le (c.x - p.x + (p.x - c.x)) half → in_block half p c ≡ row
block_row half p c y down row same down_is low row_is =
    let x : ℕ = gap c.x p.x in
    let there : gap c.y p.y ≡ down = ap (λ k. gap k p.y) same ∙ sym down_is in
    sym (row_is ∙ sym (and-true (nat_le x half)) ∙ ap (λ t. nat_le x half && t) (sym (le-leb down half low)) ∙ block_is half p c x down refl (sym there))

pub block_off : (half : ℕ) (p c : Point) (y down : ℕ) (row : Bool) → c.y ≡ y → down ≡ gap y p.y → half < down → row ≡ false → in_block half p c ≡ row
block_off half p c y down row same down_is far row_is =
    let x : ℕ = gap c.x p.x in
    let there : gap c.y p.y ≡ down = ap (λ k. gap k p.y) same ∙ sym down_is in
    sym (block_is half p c x down refl (sym there)) ∙ ap (λ t. nat_le x half && t) (lt-leb down half far) ∙ and-false (nat_le x half) ∙ sym row_is
