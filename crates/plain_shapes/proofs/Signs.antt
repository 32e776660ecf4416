-- Tests on signed numbers as tests on sums of naturals: how the code's whole numbers without signs meet the definitions.
use Rattle.std.proofs.Common.{◌≡◌, ℕ, ◌+◌, ◌-◌, ◌*◌, ◌<◌, ◌≤◌, Bool, true, false, ◌&&◌, refl, ap, sym, ◌∙◌, inl, inr, arith}
use Rattle.std.specs.Prelude.{ℤ, pos, negsuc, ◌-ℤ◌, ◌*ℤ◌, ◌≤ℤ◌, ◌<ℤ◌, int_le, int_lt, nat_le, nat_lt}
use Rattle.std.proofs.lemmas.Bool.{cases_lt, le-leb, lt-ltb, lt-leb, le-ltb}
use Rattle.std.proofs.lemmas.Int.{ints}
use borrow.Author.Differences.{up, down, same_in}
use Rattle.plain_world.specs.declared.world.Point.{Point}
use Rattle.plain_shapes.specs.Rings.{less, counts_down}
use Rattle.plain_shapes.specs.Strokes.{square}
use Rattle.std.specs.Prelude.{unsigned_abs, ◌+ℤ◌}
use Rattle.std.proofs.Math.Nat.{mul-le-mul}

apart : (m n : ℕ) → up (pos m -ℤ pos n) + n ≡ m + down (pos m -ℤ pos n)
apart m n = omega (arith, ints)

-- a test of naturals and one of signed numbers that go together
pub same_le : (m n : ℕ) (x y : ℤ) → (m ≤ n → x ≤ℤ y) → (n < m → y <ℤ x) → nat_le m n ≡ int_le x y
same_le m n x y f g = elim (cases_lt n m) [ inl h ↦ (let k = g h in grind (arith, ints)) | inr h ↦ (let k = f h in grind (arith, ints)) ]

pub same_lt : (m n : ℕ) (x y : ℤ) → (m < n → x <ℤ y) → (n ≤ m → y ≤ℤ x) → nat_lt m n ≡ int_lt x y
same_lt m n x y f g = elim (cases_lt m n) [ inl h ↦ (let k = f h in grind (arith, ints)) | inr h ↦ (let k = g h in grind (arith, ints)) ]

pub less_from : (m n d : ℕ) → m ≡ n + d → less m n ≡ pos d
less_from m n d e = same_in (less m n) (pos d) (omega (arith, ints))

edge_at_most : (r h ax bx cx : ℕ) → r * bx + h * ax ≤ h * cx + r * ax → (pos r *ℤ (pos bx -ℤ pos ax)) ≤ℤ ((pos cx -ℤ pos ax) *ℤ pos h)
edge_at_most r h ax bx cx e =
    let p = ap (λ t. r * t) (apart bx ax) in
    let q = ap (λ t. h * t) (apart cx ax) in
    omega (arith, ints)

edge_above : (r h ax bx cx : ℕ) → h * cx + r * ax < r * bx + h * ax → ((pos cx -ℤ pos ax) *ℤ pos h) <ℤ (pos r *ℤ (pos bx -ℤ pos ax))
edge_above r h ax bx cx e =
    let p = ap (λ t. r * t) (apart bx ax) in
    let q = ap (λ t. h * t) (apart cx ax) in
    omega (arith, ints)

edge_is : (r q ax bx cx : ℕ) → nat_le (r * bx + q * ax) ((r + q) * cx) ≡ int_le (pos r *ℤ less bx ax) (less cx ax *ℤ pos (r + q))
edge_is r q ax bx cx = same_le (r * bx + q * ax) ((r + q) * cx) (pos r *ℤ less bx ax) (less cx ax *ℤ pos (r + q))
    (λ h. edge_at_most r (r + q) ax bx cx (omega arith))
    (λ h. edge_above r (r + q) ax bx cx (omega arith))

-- the test of an edge between its two heights, without signs
pub downward_is : (a b c : Point) → a.y ≤ c.y → c.y < b.y
    → nat_le ((c.y - a.y) * b.x + (b.y - c.y) * a.x) ((b.y - a.y) * c.x) ≡ counts_down a b c
downward_is a b c p q =
    let r : ℕ = c.y - a.y in
    let s : ℕ = b.y - c.y in
    let h : b.y - a.y ≡ r + s = omega arith in
    let at : int_le (pos r *ℤ less b.x a.x) (less c.x a.x *ℤ pos (r + s)) ≡ int_le (less c.y a.y *ℤ less b.x a.x) (less c.x a.x *ℤ less b.y a.y) =
    ap (λ t. int_le (t *ℤ less b.x a.x) (less c.x a.x *ℤ pos (r + s))) (sym (less_from c.y a.y r (omega arith)))
    ∙ ap (λ t. int_le (less c.y a.y *ℤ less b.x a.x) (less c.x a.x *ℤ t)) (sym (less_from b.y a.y (r + s) (omega arith))) in
    ap (λ t. nat_le (r * b.x + s * a.x) (t * c.x)) h
    ∙ edge_is r s a.x b.x c.x
    ∙ at
    ∙ sym (ap (λ t. t && nat_lt c.y b.y && int_le (less c.y a.y *ℤ less b.x a.x) (less c.x a.x *ℤ less b.y a.y)) (le-leb a.y c.y p)
    ∙ ap (λ t. t && int_le (less c.y a.y *ℤ less b.x a.x) (less c.x a.x *ℤ less b.y a.y)) (lt-ltb c.y b.y q))

-- rows outside an edge's heights
pub off_above : (a b c : Point) → c.y < a.y → counts_down a b c ≡ false
off_above a b c h = ap (λ t. t && nat_lt c.y b.y && int_le (less c.y a.y *ℤ less b.x a.x) (less c.x a.x *ℤ less b.y a.y)) (lt-leb a.y c.y h)

pub off_below : (a b c : Point) → b.y ≤ c.y → counts_down a b c ≡ false
off_below a b c h =
    ap (λ t. nat_le a.y c.y && t && int_le (less c.y a.y *ℤ less b.x a.x) (less c.x a.x *ℤ less b.y a.y)) (le-ltb c.y b.y h)
    ∙ ap (λ t. t && int_le (less c.y a.y *ℤ less b.x a.x) (less c.x a.x *ℤ less b.y a.y)) (and_false (nat_le a.y c.y))
  where
    and_false : (t : Bool) → (t && false) ≡ false
    and_false true = refl
    and_false false = refl

pub square_is : (z : ℤ) → square z ≡ pos (unsigned_abs z * unsigned_abs z)
square_is (pos n) = refl
square_is (negsuc n) = refl

pub abs-less : (m n : ℕ) → unsigned_abs (less m n) ≡ m - n + (n - m)
abs-less m n = omega (arith, ints)

-- the square of a difference is that of the gap
pub square-less : (m n d : ℕ) → d ≡ m - n + (n - m) → square (less m n) ≡ pos (d * d)
square-less m n d e = square_is (less m n) ∙ ap (λ t. pos (t * t)) (abs-less m n ∙ sym e)

pub less-mul : (m n p q : ℕ) → less m n *ℤ less p q ≡ less (m * p + n * q) (m * q + n * p)
less-mul m n p q =
    let x : ℤ = less m n in
    let y : ℤ = less p q in
    let e1 = ap (λ t. t * up y) (apart m n) in
    let e2 = ap (λ t. t * down y) (apart m n) in
    let f1 = ap (λ t. m * t) (apart p q) in
    let f2 = ap (λ t. n * t) (apart p q) in
    same_in (x *ℤ y) (less (m * p + n * q) (m * q + n * p)) (omega (arith, ints))

pub less-add : (m n p q : ℕ) → less m n +ℤ less p q ≡ less (m + p) (n + q)
less-add m n p q = same_in (less m n +ℤ less p q) (less (m + p) (n + q)) (omega (arith, ints))

pub less-sub : (m n p q : ℕ) → less m n -ℤ less p q ≡ less (m + q) (n + p)
less-sub m n p q = same_in (less m n -ℤ less p q) (less (m + q) (n + p)) (omega (arith, ints))

pub same_less : (m n p q : ℕ) → m + q ≡ p + n → less m n ≡ less p q
same_less m n p q e = same_in (less m n) (less p q) (omega (arith, ints))

pub square_below : (m n : ℕ) → m ≤ n → m * m ≤ n * n
square_below m n h = mul-le-mul h h

pub root_le : (m n : ℕ) → m * m ≤ n * n → m ≤ n
root_le m n h = elim (cases_lt n m) [
  | inl p ↦ (let q : n + 1 ≤ m = omega arith in absurd (omega (arith, square_below (n + 1) m q)))
  | inr p ↦ p
]
