-- The numbers of a segment and a point as sums of products.
use Rattle.std.proofs.Common.{◌≡◌, ℕ, ◌+◌, ◌-◌, ◌*◌, ap, sym, ◌∙◌, arith}
use Rattle.std.specs.Prelude.{pos, ◌+ℤ◌, ◌-ℤ◌, ◌*ℤ◌}
use Rattle.plain_world.specs.declared.world.Point.{Point}
use Rattle.plain_shapes.specs.Rings.{less}
use Rattle.plain_shapes.specs.Strokes.{square, along, beside, long}
use Rattle.plain_shapes.proofs.Signs.{less-mul, less-add, less-sub, same_less, square-less}

pub along_is : (a b c : Point) (p m : ℕ)
    → p ≡ c.x * b.x + a.x * a.x + c.y * b.y + a.y * a.y → m ≡ c.x * a.x + a.x * b.x + c.y * a.y + a.y * b.y
    → less p m ≡ along a b c
unfolding along
along_is a b c p m ep em =
    same_less p m (c.x * b.x + a.x * a.x + (c.y * b.y + a.y * a.y)) (c.x * a.x + a.x * b.x + (c.y * a.y + a.y * b.y)) (omega arith)
    ∙ sym (less-add (c.x * b.x + a.x * a.x) (c.x * a.x + a.x * b.x) (c.y * b.y + a.y * a.y) (c.y * a.y + a.y * b.y))
    ∙ ap (λ t. t +ℤ less (c.y * b.y + a.y * a.y) (c.y * a.y + a.y * b.y)) (sym (less-mul c.x a.x b.x a.x))
    ∙ ap (λ t. less c.x a.x *ℤ less b.x a.x +ℤ t) (sym (less-mul c.y a.y b.y a.y))

pub beside_is : (a b c : Point) (p m : ℕ)
    → p ≡ c.x * b.y + c.y * a.x + a.y * b.x → m ≡ c.x * a.y + a.x * b.y + c.y * b.x
    → less p m ≡ beside a b c
unfolding beside
beside_is a b c p m ep em =
    same_less p m (c.x * b.y + a.x * a.y + (c.y * a.x + a.y * b.x)) (c.x * a.y + a.x * b.y + (c.y * b.x + a.y * a.x)) (omega arith)
    ∙ sym (less-sub (c.x * b.y + a.x * a.y) (c.x * a.y + a.x * b.y) (c.y * b.x + a.y * a.x) (c.y * a.x + a.y * b.x))
    ∙ ap (λ t. t -ℤ less (c.y * b.x + a.y * a.x) (c.y * a.x + a.y * b.x)) (sym (less-mul c.x a.x b.y a.y))
    ∙ ap (λ t. less c.x a.x *ℤ less b.y a.y -ℤ t) (sym (less-mul c.y a.y b.x a.x))

pub long_is : (a b : Point) (x y l : ℕ) → x ≡ b.x - a.x + (a.x - b.x) → y ≡ b.y - a.y + (a.y - b.y) → l ≡ x * x + y * y → pos l ≡ long a b
unfolding long
long_is a b x y l e f g = ap pos g ∙ sym (ap (λ t. t +ℤ square (less b.y a.y)) (square-less b.x a.x x e) ∙ ap (λ t. pos (x * x) +ℤ t) (square-less b.y a.y y f))
