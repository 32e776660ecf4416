-- What a body, a disk or a cap holds lies near its points: in boxes, and in a row's span of columns.
use Rattle.std.proofs.Common.{◌≡◌, ◌==◌, ℕ, ◌+◌, ◌-◌, ◌*◌, ◌≤◌, min, max, true, false, ◌&&◌, refl, ap, ◌∙◌, inl, inr, arith}
use Rattle.std.specs.Prelude.{nat_le, nat_lt, ◌⊎◌}
use Rattle.std.proofs.Math.Nat.{mul-le-mul, mul-le-mul_left}
use Rattle.std.proofs.lemmas.Bool.{cases_lt, leb-true, and_parts, and_cases, eqb-false}
use Rattle.plain_world.specs.declared.world.Point.{Point}
use Rattle.plain_shapes.specs.Strokes.{is_same, is_near, in_body, in_disk, before_start, past_end, in_block}
use Rattle.plain_shapes.proofs.Signs.{root_le, square_below}
use Rattle.centre_spans.specs.Stretches.{gap}
use Rattle.centre_spans.proofs.Quotients.{cancel}
use Rattle.stroke_core.proofs.Products.{along_is, beside_is, long_is}
use Rattle.stroke_core.proofs.Testing.{near_is, body_is, start_is, end_is, disk_is, block_is}

abbrev pub along_plus : Point → Point → Point → ℕ
along_plus a b c = c.x * b.x + a.x * a.x + c.y * b.y + a.y * a.y

abbrev pub along_minus : Point → Point → Point → ℕ
along_minus a b c = c.x * a.x + a.x * b.x + c.y * a.y + a.y * b.y

abbrev pub beside_plus : Point → Point → Point → ℕ
beside_plus a b c = c.x * b.y + c.y * a.x + a.y * b.x

abbrev pub beside_minus : Point → Point → Point → ℕ
beside_minus a b c = c.x * a.y + a.x * b.y + c.y * b.x

abbrev pub long_square : Point → Point → ℕ
long_square a b = gap b.x a.x * gap b.x a.x + gap b.y a.y * gap b.y a.y

gap_cases : (m n d : ℕ) → d ≡ gap m n → (m ≡ n + d) ⊎ (n ≡ m + d)
gap_cases m n d e = elim (cases_lt m n) [ inl h ↦ inr (omega arith) | inr h ↦ inl (omega arith) ]

pub gap_square : (m n d : ℕ) → d ≡ gap m n → d * d + (m * n + n * m) ≡ m * m + n * n
gap_square m n d e = elim (gap_cases m n d e) [
  | inl h ↦ (let p = ap (λ t. t * n) h in let q = ap (λ t. n * t) h in let r = ap (λ t. t * t) h in omega arith)
  | inr h ↦ (let p = ap (λ t. t * m) h in let q = ap (λ t. m * t) h in let r = ap (λ t. t * t) h in omega arith)
]

some_square : (a : ℕ) → 1 ≤ a → 1 ≤ a * a
some_square a h = square_below 1 a h

product_within : (d y h l : ℕ) → d * d ≤ h * h * l → y * y ≤ l → d * y ≤ h * l
product_within d y h l p q = root_le (d * y) (h * l) (omega (arith, mul-le-mul p q))

-- two products of numbers that are apart differ by at most the product of the gaps
record Turned (p m q r dy : ℕ) : Type 0 where
  pub up : p * q + m * r ≤ p * r + m * q + dy
  pub down : p * r + m * q ≤ p * q + m * r + dy

turned : (p m q r d y : ℕ) → d ≡ gap p m → y ≡ gap q r → Turned p m q r (d * y)
turned p m q r d y e f = elim (gap_cases p m d e) [
  | inl h ↦ (elim (gap_cases q r y f) [
    | inl k ↦ (
        let a = ap (λ t. t * q) h in let b = ap (λ t. t * r) h in let c = ap (λ t. m * t) k in let g = ap (λ t. d * t) k in
        record { up = omega arith; down = omega arith })
    | inr k ↦ (
        let a = ap (λ t. t * q) h in let b = ap (λ t. t * r) h in let c = ap (λ t. m * t) k in let g = ap (λ t. d * t) k in
        record { up = omega arith; down = omega arith })
  ])
  | inr h ↦ (elim (gap_cases q r y f) [
    | inl k ↦ (
        let a = ap (λ t. t * q) h in let b = ap (λ t. t * r) h in let c = ap (λ t. p * t) k in let g = ap (λ t. d * t) k in
        record { up = omega arith; down = omega arith })
    | inr k ↦ (
        let a = ap (λ t. t * q) h in let b = ap (λ t. t * r) h in let c = ap (λ t. p * t) k in let g = ap (λ t. d * t) k in
        record { up = omega arith; down = omega arith })
  ])
]

-- a place along one direction from the segment's numbers: l times the way from a is what lies along and what lies beside
identity : (ax ay bx by cx cy l : ℕ) → l + (bx * ax + ax * bx + (by * ay + ay * by)) ≡ bx * bx + ax * ax + (by * by + ay * ay)
    → l * cx + ((cx * by + cy * ax + ay * bx) * ay + (cx * ay + ax * by + cy * bx) * by) + ((cx * bx + ax * ax + cy * by + ay * ay) * ax + (cx * ax + ax * bx + cy * ay + ay * by) * bx)
    ≡ l * ax + ((cx * by + cy * ax + ay * bx) * by + (cx * ay + ax * by + cy * bx) * ay) + ((cx * bx + ax * ax + cy * by + ay * ay) * bx + (cx * ax + ax * bx + cy * ay + ay * by) * ax)
identity ax ay bx by cx cy l el =
    let p = ap (λ t. t * cx) el in
    let q = ap (λ t. t * ax) el in
    omega arith

-- within the body's ends, widened by h
box : (l h cx ax bx u v dy A B lo hi : ℕ) → 1 ≤ l → l * cx + A + (u * ax + v * bx) ≡ l * ax + B + (u * bx + v * ax) → v ≤ u → u ≤ v + l
    → B ≤ A + dy → A ≤ B + dy → dy ≤ h * l → lo ≤ ax → lo ≤ bx → ax ≤ hi → bx ≤ hi → (lo ≤ cx + h) × (cx ≤ hi + h)
box l h cx ax bx u v dy A B lo hi some id from to up down small la lb ha hb =
    let t : ℕ = u - v in
    let s : ℕ = l - t in
    let eu : u ≡ v + t = omega arith in
    let el : l ≡ t + s = omega arith in
    let ua = ap (λ k. k * ax) eu in
    let ub = ap (λ k. k * bx) eu in
    let lax = ap (λ k. k * ax) el in
    let llo = ap (λ k. k * lo) el in
    let lhi = ap (λ k. k * hi) el in
    let sa = mul-le-mul_left s la in
    let tb = mul-le-mul_left t lb in
    let sh = mul-le-mul_left s ha in
    let th = mul-le-mul_left t hb in
    (cancel lo (cx + h) l some (omega arith), cancel cx (hi + h) l some (omega arith))

-- within twice h of the end ex
cap_box : (l h cx ex du dy A B C D : ℕ) → 1 ≤ l → l * cx + A + C ≡ l * ex + B + D
    → B ≤ A + dy → A ≤ B + dy → D ≤ C + du → C ≤ D + du → dy ≤ h * l → du ≤ h * l → (ex ≤ cx + (h + h)) × (cx ≤ ex + (h + h))
cap_box l h cx ex du dy A B C D some id up down out in_ small small' =
    (cancel ex (cx + (h + h)) l some (omega arith), cancel cx (ex + (h + h)) l some (omega arith))

pub some_long : (a b : Point) → is_same a b ≡ false → 1 ≤ long_square a b
some_long a b ne = elim (and_cases (a.x == b.x) (a.y == b.y) ne) [
  | inl e ↦ (let g : 1 ≤ gap b.x a.x = some_gap a.x b.x (eqb-false a.x b.x e) in omega (arith, some_square (gap b.x a.x) g))
  | inr e ↦ (let g : 1 ≤ gap b.y a.y = some_gap a.y b.y (eqb-false a.y b.y e) in omega (arith, some_square (gap b.y a.y) g))
]
  where
    some_gap : (m n : ℕ) → (m ≡ n → ⊥) → 1 ≤ gap n m
    some_gap m n e = omega arith

-- what a near point's numbers keep
pub near_within : (half : ℕ) (a b c : Point) → is_near half a b c ≡ true
    → gap (beside_plus a b c) (beside_minus a b c) * gap (beside_plus a b c) (beside_minus a b c) ≤ half * half * long_square a b
near_within half a b c h =
    let d : ℕ = gap (beside_plus a b c) (beside_minus a b c) in
    leb-true (d * d) (half * half * long_square a b)
    (near_is half a b c (beside_plus a b c) (beside_minus a b c) d (long_square a b) (half * half * long_square a b)
    (beside_is a b c (beside_plus a b c) (beside_minus a b c) refl refl) refl (long_is a b (gap b.x a.x) (gap b.y a.y) (long_square a b) refl refl refl) refl ∙ h)

pub long_expands : (a b : Point) → long_square a b + (b.x * a.x + a.x * b.x + (b.y * a.y + a.y * b.y)) ≡ b.x * b.x + a.x * a.x + (b.y * b.y + a.y * a.y)
long_expands a b = omega (arith, gap_square b.x a.x (gap b.x a.x) refl, gap_square b.y a.y (gap b.y a.y) refl)

-- the numbers of a direction and of the other one
x_identity : (a b c : Point) → long_square a b * c.x + (beside_plus a b c * a.y + beside_minus a b c * b.y) + (along_plus a b c * a.x + along_minus a b c * b.x)
    ≡ long_square a b * a.x + (beside_plus a b c * b.y + beside_minus a b c * a.y) + (along_plus a b c * b.x + along_minus a b c * a.x)
x_identity a b c = identity a.x a.y b.x b.y c.x c.y (long_square a b) (long_expands a b)

y_identity : (a b c : Point) → long_square a b * c.y + (beside_minus a b c * a.x + beside_plus a b c * b.x) + (along_plus a b c * a.y + along_minus a b c * b.y)
    ≡ long_square a b * a.y + (beside_minus a b c * b.x + beside_plus a b c * a.x) + (along_plus a b c * b.y + along_minus a b c * a.y)
y_identity a b c =
    let p = ap (λ t. t * c.y) (long_expands a b) in
    let q = ap (λ t. t * a.y) (long_expands a b) in
    omega arith

-- where a point lies that is near the line of a segment: how its numbers turn
record Near (half : ℕ) (a b c : Point) : Type 0 where
  pub x_turned : Turned (beside_plus a b c) (beside_minus a b c) b.y a.y (gap (beside_plus a b c) (beside_minus a b c) * gap b.y a.y)
  pub x_small : gap (beside_plus a b c) (beside_minus a b c) * gap b.y a.y ≤ half * long_square a b
  pub y_turned : Turned (beside_plus a b c) (beside_minus a b c) b.x a.x (gap (beside_plus a b c) (beside_minus a b c) * gap b.x a.x)
  pub y_small : gap (beside_plus a b c) (beside_minus a b c) * gap b.x a.x ≤ half * long_square a b

near : (half : ℕ) (a b c : Point) → is_near half a b c ≡ true → Near half a b c
near half a b c h =
    let d : ℕ = gap (beside_plus a b c) (beside_minus a b c) in
    let e = near_within half a b c h in
    record {
      x_turned = turned (beside_plus a b c) (beside_minus a b c) b.y a.y d (gap b.y a.y) refl refl;
      x_small = product_within d (gap b.y a.y) half (long_square a b) e (omega arith);
      y_turned = turned (beside_plus a b c) (beside_minus a b c) b.x a.x d (gap b.x a.x) refl refl;
      y_small = product_within d (gap b.x a.x) half (long_square a b) e (omega arith);
    }

-- the box of a body, a disk, a cap: at most `reach` past the least and the greatest of two places
pub record InBox (reach : ℕ) (a b c : Point) : Type 0 where
  pub west : min a.x b.x ≤ c.x + reach
  pub east : c.x ≤ max a.x b.x + reach
  pub north : min a.y b.y ≤ c.y + reach
  pub south : c.y ≤ max a.y b.y + reach

pub body_box : (half : ℕ) (a b c : Point) → is_same a b ≡ false → in_body half a b c ≡ true → InBox half a b c
body_box half a b c ne h =
    let l : ℕ = long_square a b in
    let u : ℕ = along_plus a b c in
    let v : ℕ = along_minus a b c in
    let parts = and_parts (nat_le v u && nat_le u (v + l)) (is_near half a b c)
    (body_is half a b c u v l (is_near half a b c) (along_is a b c u v refl refl) (long_is a b (gap b.x a.x) (gap b.y a.y) l refl refl refl) refl ∙ h) in
    let ends = and_parts (nat_le v u) (nat_le u (v + l)) parts.0 in
    let from = leb-true v u ends.0 in
    let to = leb-true u (v + l) ends.1 in
    let some = some_long a b ne in
    let n = near half a b c parts.1 in
    let x = box l half c.x a.x b.x u v (gap (beside_plus a b c) (beside_minus a b c) * gap b.y a.y)
    (beside_plus a b c * a.y + beside_minus a b c * b.y) (beside_plus a b c * b.y + beside_minus a b c * a.y) (min a.x b.x) (max a.x b.x)
    some (x_identity a b c) from to n.x_turned.up n.x_turned.down n.x_small (omega arith) (omega arith) (omega arith) (omega arith) in
    let y = box l half c.y a.y b.y u v (gap (beside_plus a b c) (beside_minus a b c) * gap b.x a.x)
    (beside_minus a b c * a.x + beside_plus a b c * b.x) (beside_minus a b c * b.x + beside_plus a b c * a.x) (min a.y b.y) (max a.y b.y)
    some (y_identity a b c) from to (omega (arith, n.y_turned.down)) (omega (arith, n.y_turned.up)) n.y_small (omega arith) (omega arith) (omega arith) (omega arith) in
    record { west = x.0; east = x.1; north = y.0; south = y.1 }

-- the box of a square cap, round its end e
cap_in : (half : ℕ) (a b c e : Point) (u v : ℕ) → is_same a b ≡ false → is_near half a b c ≡ true → gap u v * gap u v ≤ half * half * long_square a b
    → long_square a b * c.x + (beside_plus a b c * a.y + beside_minus a b c * b.y) + (u * a.x + v * b.x)
    ≡ long_square a b * e.x + (beside_plus a b c * b.y + beside_minus a b c * a.y) + (u * b.x + v * a.x)
    → long_square a b * c.y + (beside_minus a b c * a.x + beside_plus a b c * b.x) + (u * a.y + v * b.y)
    ≡ long_square a b * e.y + (beside_minus a b c * b.x + beside_plus a b c * a.x) + (u * b.y + v * a.y)
    → InBox (half + half) e e c
cap_in half a b c e u v ne near_it short id_x id_y =
    let l : ℕ = long_square a b in
    let some = some_long a b ne in
    let n = near half a b c near_it in
    let tx = turned u v b.x a.x (gap u v) (gap b.x a.x) refl refl in
    let ty = turned u v b.y a.y (gap u v) (gap b.y a.y) refl refl in
    let sx : gap u v * gap b.x a.x ≤ half * l = product_within (gap u v) (gap b.x a.x) half l short (omega arith) in
    let sy : gap u v * gap b.y a.y ≤ half * l = product_within (gap u v) (gap b.y a.y) half l short (omega arith) in
    let x = cap_box l half c.x e.x (gap u v * gap b.x a.x) (gap (beside_plus a b c) (beside_minus a b c) * gap b.y a.y)
    (beside_plus a b c * a.y + beside_minus a b c * b.y) (beside_plus a b c * b.y + beside_minus a b c * a.y) (u * a.x + v * b.x) (u * b.x + v * a.x)
    some id_x n.x_turned.up n.x_turned.down tx.up tx.down n.x_small sx in
    let y = cap_box l half c.y e.y (gap u v * gap b.y a.y) (gap (beside_plus a b c) (beside_minus a b c) * gap b.x a.x)
    (beside_minus a b c * a.x + beside_plus a b c * b.x) (beside_minus a b c * b.x + beside_plus a b c * a.x) (u * a.y + v * b.y) (u * b.y + v * a.y)
    some id_y (omega (arith, n.y_turned.down)) (omega (arith, n.y_turned.up)) ty.up ty.down n.y_small sy in
    record { west = omega (arith, x.0); east = omega (arith, x.1); north = omega (arith, y.0); south = omega (arith, y.1) }

pub start_box : (half : ℕ) (a b c : Point) → is_same a b ≡ false → before_start half a b c ≡ true → InBox (half + half) a a c
start_box half a b c ne h =
    let l : ℕ = long_square a b in
    let u : ℕ = along_plus a b c in
    let v : ℕ = along_minus a b c in
    let parts = and_parts (is_near half a b c && nat_lt u v) (nat_le (gap u v * gap u v) (half * half * l))
    (start_is half a b c u v (gap u v) l (half * half * l) (is_near half a b c) (along_is a b c u v refl refl) refl
    (long_is a b (gap b.x a.x) (gap b.y a.y) l refl refl refl) refl refl ∙ h) in
    cap_in half a b c a u v ne (and_parts (is_near half a b c) (nat_lt u v) parts.0).0 (leb-true (gap u v * gap u v) (half * half * l) parts.1) (x_identity a b c) (y_identity a b c)

pub end_box : (half : ℕ) (a b c : Point) → is_same a b ≡ false → past_end half a b c ≡ true → InBox (half + half) b b c
end_box half a b c ne h =
    let l : ℕ = long_square a b in
    let u : ℕ = along_plus a b c in
    let v : ℕ = along_minus a b c + l in
    let parts = and_parts (is_near half a b c && nat_lt v u) (nat_le (gap u v * gap u v) (half * half * l))
    (end_is half a b c u (along_minus a b c) (gap u v) l (half * half * l) (is_near half a b c) (along_is a b c u (along_minus a b c) refl refl) refl
    (long_is a b (gap b.x a.x) (gap b.y a.y) l refl refl refl) refl refl ∙ h) in
    cap_in half a b c b u v ne (and_parts (is_near half a b c) (nat_lt v u) parts.0).0 (leb-true (gap u v * gap u v) (half * half * l) parts.1)
    (past_identity l c.x a.x b.x (beside_plus a b c * a.y + beside_minus a b c * b.y) (beside_plus a b c * b.y + beside_minus a b c * a.y) u (along_minus a b c) (x_identity a b c))
    (past_identity l c.y a.y b.y (beside_minus a b c * a.x + beside_plus a b c * b.x) (beside_minus a b c * b.x + beside_plus a b c * a.x) u (along_minus a b c) (y_identity a b c))
  where
    past_identity : (l cx ax bx A B u m : ℕ) → l * cx + A + (u * ax + m * bx) ≡ l * ax + B + (u * bx + m * ax)
        → l * cx + A + (u * ax + (m + l) * bx) ≡ l * bx + B + (u * bx + (m + l) * ax)
    past_identity l cx ax bx A B u m e = omega arith

pub disk_box : (half : ℕ) (p c : Point) → in_disk half p c ≡ true → InBox half p p c
disk_box half p c h =
    let x : ℕ = gap c.x p.x in
    let y : ℕ = gap c.y p.y in
    let within = leb-true (x * x + y * y) (half * half) (disk_is half p c x y refl refl ∙ h) in
    let east : x ≤ half = root_le x half (omega arith) in
    let south : y ≤ half = root_le y half (omega arith) in
    record { west = omega arith; east = omega arith; north = omega arith; south = omega arith }

pub block_box : (half : ℕ) (p c : Point) → in_block half p c ≡ true → InBox half p p c
block_box half p c h =
    let x : ℕ = gap c.x p.x in
    let y : ℕ = gap c.y p.y in
    let parts = and_parts (nat_le x half) (nat_le y half) (block_is half p c x y refl refl ∙ h) in
    let east = leb-true x half parts.0 in
    let south = leb-true y half parts.1 in
    record { west = omega arith; east = omega arith; north = omega arith; south = omega arith }
