-- The rows of bodies, disks and caps.
use Rattle.std.proofs.Common.{◌≡◌, ℕ, ◌+◌, ◌-◌, min, max, true, not, ◌&&◌, arith}
use Rattle.std.proofs.lemmas.Bool.{and_parts, not-true}
use Rattle.plain_world.specs.declared.world.Point.{Point}
use Rattle.plain_shapes.specs.Strokes.{is_same, in_body, before_start, past_end}
use Rattle.centre_spans.specs.declared.shapes.Stretch.{Stretch}
use Rattle.centre_spans.specs.Stretches.{InStretch}
use Rattle.stroke_core.proofs.Boxes.{InBox, body_box, start_box, end_box}

-- a box's rows as a stretch
pub box_heights : (reach r : ℕ) (a b c : Point) (s : Stretch) → r ≡ reach → s.start ≡ min a.y b.y - r → s.end ≡ max a.y b.y + r + 1 → InBox reach a b c → InStretch s c.y
box_heights reach r a b c s k e f box = record { from_start = omega (arith, box.north); before_end = omega (arith, box.south) }

pub body_held : (half : ℕ) (a b c : Point) → (not (is_same a b) && in_body half a b c) ≡ true → InBox half a b c
body_held half a b c h =
    let parts = and_parts (not (is_same a b)) (in_body half a b c) h in
    body_box half a b c (not-true (is_same a b) parts.0) parts.1

pub start_held : (half : ℕ) (a b c : Point) → (not (is_same a b) && before_start half a b c) ≡ true → InBox (half + half) a a c
start_held half a b c h =
    let parts = and_parts (not (is_same a b)) (before_start half a b c) h in
    start_box half a b c (not-true (is_same a b) parts.0) parts.1

pub end_held : (half : ℕ) (a b c : Point) → (not (is_same a b) && past_end half a b c) ≡ true → InBox (half + half) b b c
end_held half a b c h =
    let parts = and_parts (not (is_same a b)) (past_end half a b c) h in
    end_box half a b c (not-true (is_same a b) parts.0) parts.1
