-- The test of an ellipse without signs, and its box.
use Rattle.std.proofs.Common.{◌≡◌, ℕ, ◌+◌, ◌-◌, ◌*◌, ◌/◌, ◌<◌, ◌≤◌, Bool, true, false, ◌&&◌, refl, ap, sym, ◌∙◌, inl, inr, arith}
use Rattle.std.specs.Prelude.{nat_le}
use Rattle.std.proofs.Math.Nat.{mul-le-mul_right, mul-div_cancel_left}
use Rattle.std.proofs.lemmas.Bool.{cases_lt, le-leb, lt-leb, leb-true, leb-false, and_parts}
use Rattle.plain_world.specs.declared.world.Point.{Point}
use Rattle.plain_shapes.specs.Strokes.{in_mark}
use Rattle.plain_shapes.proofs.Signs.{square-less, root_le, square_below}
use Rattle.centre_spans.proofs.Quotients.{cancel, down_le}

pub mark_is : (a b : ℕ) (c p : Point) (x y : ℕ) → x ≡ c.x - p.x + (p.x - c.x) → y ≡ c.y - p.y + (p.y - c.y)
    → (nat_le 1 a && nat_le 1 b && nat_le (x * x * (b * b) + y * y * (a * a)) (a * a * (b * b))) ≡ in_mark a b c p
unfolding in_mark
mark_is a b c p x y e f = rw (square-less c.x p.x x e, square-less c.y p.y y f) refl

-- a point of an ellipse lies in its box
pub mark_near : (a b : ℕ) (c p : Point) → in_mark a b c p ≡ true → (c.x - p.x + (p.x - c.x) ≤ a) × (c.y - p.y + (p.y - c.y) ≤ b)
mark_near a b c p h =
    let x : ℕ = c.x - p.x + (p.x - c.x) in
    let y : ℕ = c.y - p.y + (p.y - c.y) in
    let parts = and_parts (nat_le 1 a && nat_le 1 b) (nat_le (x * x * (b * b) + y * y * (a * a)) (a * a * (b * b))) (mark_is a b c p x y refl refl ∙ h) in
    let sides = and_parts (nat_le 1 a) (nat_le 1 b) parts.0 in
    let within = leb-true (x * x * (b * b) + y * y * (a * a)) (a * a * (b * b)) parts.1 in
    let some_a = square_below 1 a (leb-true 1 a sides.0) in
    let some_b = square_below 1 b (leb-true 1 b sides.1) in
    (root_le x a (cancel (x * x) (a * a) (b * b) some_b (omega arith)), root_le y b (cancel (y * y) (b * b) (a * a) some_a (omega arith)))

pub reaches_parts : (a b y : ℕ) → (nat_le 1 a && nat_le 1 b && nat_le y b) ≡ true → (1 ≤ a) × (1 ≤ b) × (y ≤ b)
reaches_parts a b y h =
    let parts = and_parts (nat_le 1 a && nat_le 1 b) (nat_le y b) h in
    let sides = and_parts (nat_le 1 a) (nat_le 1 b) parts.0 in
    (leb-true 1 a sides.0, leb-true 1 b sides.1, leb-true y b parts.1)

-- a circle's squares cancel
pub circle_is : (a b n : ℕ) → a ≡ b → 1 ≤ b → a * a * n / (b * b) ≡ n
circle_is a b n same some = ap (λ k. k * k * n / (b * b)) same ∙ mul-div_cancel_left n (square_below 1 b some)

-- how far an ellipse reaches to each side at a height, solved for it
pub width_is : (a b y r n : ℕ) → 1 ≤ b → y ≤ b → n ≡ a * a * (b * b - y * y) / (b * b) → ((d : ℕ) → nat_le d r ≡ nat_le (d * d) n)
    → (x : ℕ) → nat_le x r ≡ nat_le (x * x * (b * b) + y * y * (a * a)) (a * a * (b * b))
width_is a b y r n some within n_is root_is x =
    let high : ℕ = b * b - y * y in
    let top : ℕ = a * a * high in
    let split : high + y * y ≡ b * b = omega (arith, square_below y b within) in
    let e = ap (λ k. a * a * k) split in
    root_is x ∙ ap (λ k. nat_le (x * x) k) n_is ∙ down_le top (b * b) (x * x) (square_below 1 b some)
    ∙ elim (cases_lt top (x * x * (b * b))) [
      | inl h ↦ lt-leb (x * x * (b * b)) top h ∙ sym (lt-leb (x * x * (b * b) + y * y * (a * a)) (a * a * (b * b)) (omega (arith, e)))
      | inr h ↦ le-leb (x * x * (b * b)) top h ∙ sym (le-leb (x * x * (b * b) + y * y * (a * a)) (a * a * (b * b)) (omega (arith, e)))
    ]

pub width_little : (a b y r : ℕ) → 1 ≤ b → ((x : ℕ) → nat_le x r ≡ nat_le (x * x * (b * b) + y * y * (a * a)) (a * a * (b * b))) → r ≤ a
width_little a b y r some is =
    let held = leb-true (r * r * (b * b) + y * y * (a * a)) (a * a * (b * b)) (sym (is r) ∙ le-leb r r (omega arith)) in
    root_le r a (cancel (r * r) (a * a) (b * b) (square_below 1 b some) (omega arith))

-- the row of an ellipse that reaches a height, and of one that does not
pub mark_row : (a b : ℕ) (c p : Point) (y down width : ℕ) (row : Bool) → c.y ≡ y → down ≡ y - p.y + (p.y - y) → 1 ≤ a → 1 ≤ b
    → ((x : ℕ) → nat_le x width ≡ nat_le (x * x * (b * b) + down * down * (a * a)) (a * a * (b * b))) → row ≡ nat_le (c.x - p.x + (p.x - c.x)) width
    → in_mark a b c p ≡ row
mark_row a b c p y down width row same down_is some_a some_b width_at row_is =
    let x : ℕ = c.x - p.x + (p.x - c.x) in
    let within : Bool = nat_le (x * x * (b * b) + down * down * (a * a)) (a * a * (b * b)) in
    sym (row_is ∙ width_at x
    ∙ sym (ap (λ t. t && nat_le 1 b && within) (le-leb 1 a some_a) ∙ ap (λ t. t && within) (le-leb 1 b some_b))
    ∙ mark_is a b c p x down refl (down_is ∙ ap (λ k. k - p.y + (p.y - k)) (sym same)))

pub mark_off : (a b : ℕ) (c p : Point) (y down : ℕ) (row : Bool) → c.y ≡ y → down ≡ y - p.y + (p.y - y)
    → (nat_le 1 a && nat_le 1 b && nat_le down b) ≡ false → row ≡ false → in_mark a b c p ≡ row
mark_off a b c p y down row same down_is far row_is =
    let x : ℕ = c.x - p.x + (p.x - c.x) in
    let within : Bool = nat_le (x * x * (b * b) + down * down * (a * a)) (a * a * (b * b)) in
    sym (mark_is a b c p x down refl (down_is ∙ ap (λ k. k - p.y + (p.y - k)) (sym same)))
    ∙ elim (cases_lt a 1) [
      | inl h ↦ ap (λ t. t && nat_le 1 b && within) (lt-leb 1 a h)
      | inr h ↦ ap (λ t. t && nat_le 1 b && within) (le-leb 1 a h) ∙ elim (cases_lt b 1) [
        | inl k ↦ ap (λ t. t && within) (lt-leb 1 b k)
        | inr k ↦ ap (λ t. t && within) (le-leb 1 b k) ∙ (
            let out : b < down = leb-false down b (sym (ap (λ t. t && nat_le down b) (le-leb 1 b k)) ∙ sym (ap (λ t. t && nat_le 1 b && nat_le down b) (le-leb 1 a h)) ∙ far) in
            let next : b + 1 ≤ down = omega arith in
            lt-leb (x * x * (b * b) + down * down * (a * a)) (a * a * (b * b)) (omega (arith, square_below 1 a h, mul-le-mul_right (a * a) (square_below (b + 1) down next))))
      ]
    ]
    ∙ sym row_is
