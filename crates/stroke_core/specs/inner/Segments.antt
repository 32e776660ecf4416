-- Segments with the numbers that are computed of them once.
use Rattle.std.specs.Prelude.{◌≡◌, ℕ, ◌*◌, ◌^◌, ◌≤◌, pos, nat_le}
use Rattle.plain_world.specs.World.{InWorld}
use Rattle.plain_shapes.specs.Strokes.{long}
use Rattle.stroke_core.specs.declared.segments.Segment.{Segment}

-- the ends lie in the world, and the numbers are the square of the length, and half the width times the length, rounded down
pub record IsSegment (s : Segment) : Type 0 where
  pub half : s.half ≤ 2 ^ 31
  pub a : InWorld s.a
  pub b : InWorld s.b
  pub long : pos s.long ≡ long s.a s.b
  pub little_long : s.long ≤ 2 ^ 61
  pub reach : (d : ℕ) → nat_le d s.reach ≡ nat_le (d * d) (s.half * s.half * s.long)
  pub little_reach : s.reach ≤ 2 ^ 62
