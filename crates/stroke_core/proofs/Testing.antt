-- The tests of strokes without signs are those of the definitions.
use Rattle.std.proofs.Common.{◌≡◌, ℕ, ◌+◌, ◌-◌, ◌*◌, Bool, ◌&&◌, refl, ap, sym, ◌∙◌, arith}
use Rattle.std.specs.Prelude.{pos, ◌-ℤ◌, int_le, int_lt, nat_le, nat_lt, unsigned_abs}
use Rattle.std.proofs.lemmas.Int.{ints}
use Rattle.plain_world.specs.declared.world.Point.{Point}
use Rattle.plain_shapes.specs.Rings.{less}
use Rattle.plain_shapes.specs.Strokes.{along, beside, long, reach, is_near, in_body, in_disk, before_start, past_end, in_block}
use Rattle.plain_shapes.proofs.Signs.{same_le, same_lt, square-less, abs-less}

pub near_is : (half : ℕ) (a b c : Point) (p m d l r : ℕ) → less p m ≡ beside a b c → d ≡ p - m + (m - p) → pos l ≡ long a b → r ≡ half * half * l
    → nat_le (d * d) r ≡ is_near half a b c
unfolding is_near reach
near_is half a b c p m d l r e f g h = ap (nat_le (d * d)) h ∙ rw (← e, ← g, square-less p m d f) refl

from_zero : (p m : ℕ) → nat_le m p ≡ int_le (pos 0) (less p m)
from_zero p m = same_le m p (pos 0) (less p m) (λ h. omega (arith, ints)) (λ h. omega (arith, ints))

up_to : (p m l : ℕ) → nat_le p (m + l) ≡ int_le (less p m) (pos l)
up_to p m l = same_le p (m + l) (less p m) (pos l) (λ h. omega (arith, ints)) (λ h. omega (arith, ints))

below_zero : (p m : ℕ) → nat_lt p m ≡ int_lt (less p m) (pos 0)
below_zero p m = same_lt p m (less p m) (pos 0) (λ h. omega (arith, ints)) (λ h. omega (arith, ints))

over : (p m l : ℕ) → nat_lt (m + l) p ≡ int_lt (pos l) (less p m)
over p m l = same_lt (m + l) p (pos l) (less p m) (λ h. omega (arith, ints)) (λ h. omega (arith, ints))

pub body_is : (half : ℕ) (a b c : Point) (p m l : ℕ) (t : Bool) → less p m ≡ along a b c → pos l ≡ long a b → t ≡ is_near half a b c
    → (nat_le m p && nat_le p (m + l) && t) ≡ in_body half a b c
unfolding in_body
body_is half a b c p m l t e g n = rw (← e, ← g, n, from_zero p m, up_to p m l) refl

pub start_is : (half : ℕ) (a b c : Point) (p m d l r : ℕ) (t : Bool) → less p m ≡ along a b c → d ≡ p - m + (m - p) → pos l ≡ long a b → r ≡ half * half * l
    → t ≡ is_near half a b c → (t && nat_lt p m && nat_le (d * d) r) ≡ before_start half a b c
unfolding before_start reach
start_is half a b c p m d l r t e f g h n = rw (h, ← e, ← g, n, below_zero p m, square-less p m d f) refl

pub end_is : (half : ℕ) (a b c : Point) (p m d l r : ℕ) (t : Bool) → less p m ≡ along a b c → d ≡ p - (m + l) + (m + l - p) → pos l ≡ long a b → r ≡ half * half * l
    → t ≡ is_near half a b c → (t && nat_lt (m + l) p && nat_le (d * d) r) ≡ past_end half a b c
unfolding past_end reach
end_is half a b c p m d l r t e f g h n =
    let past : less p m -ℤ pos l ≡ less p (m + l) = same_past p m l in
    rw (h, ← e, ← g, n, over p m l, past, square-less p (m + l) d f) refl
  where
    same_past : (p m l : ℕ) → less p m -ℤ pos l ≡ less p (m + l)
    same_past p m l = omega (arith, ints)

pub disk_is : (half : ℕ) (p c : Point) (x y : ℕ) → x ≡ c.x - p.x + (p.x - c.x) → y ≡ c.y - p.y + (p.y - c.y)
    → nat_le (x * x + y * y) (half * half) ≡ in_disk half p c
unfolding in_disk
disk_is half p c x y e f = rw (square-less c.x p.x x e, square-less c.y p.y y f) refl

pub block_is : (half : ℕ) (p c : Point) (x y : ℕ) → x ≡ c.x - p.x + (p.x - c.x) → y ≡ c.y - p.y + (p.y - c.y)
    → (nat_le x half && nat_le y half) ≡ in_block half p c
unfolding in_block
block_is half p c x y e f = ap (λ t. nat_le t half && nat_le y half) (e ∙ sym (abs-less c.x p.x)) ∙ ap (λ t. nat_le (unsigned_abs (less c.x p.x)) half && nat_le t half) (f ∙ sym (abs-less c.y p.y))
