-- Stretches of places along one direction.
use Rattle.std.specs.Prelude.{ℕ, ◌+◌, ◌-◌, ◌*◌, ◌<◌, ◌≤◌, Bool, ◌&&◌, nat_le, nat_lt}
use Rattle.plain_world.specs.declared.world.Point.{Point}
use Rattle.centre_spans.specs.declared.known.Round.{Round}
use Rattle.centre_spans.specs.declared.shapes.Stretch.{Stretch}

-- a place from the start on and before the end
pub record InStretch (s : Stretch) (v : ℕ) : Type 0 where
  pub from_start : s.start ≤ v
  pub before_end : v < s.end

-- whether a place lies from the start on and before the end
abbrev pub in_stretch : Stretch → ℕ → Bool
in_stretch s v = nat_le s.start v && nat_lt v s.end

-- how far two numbers are apart
abbrev pub gap : ℕ → ℕ → ℕ
gap m n = m - n + (n - m)

-- the square of the distance of two points
abbrev pub squared_distance : Point → Point → ℕ
squared_distance p c = gap c.x p.x * gap c.x p.x + gap c.y p.y * gap c.y p.y

-- the point's distance from the middle has at most this square
abbrev pub InRound : Round → Point → Type 0
InRound r c = squared_distance r.p c ≤ r.square
