-- How a colour is painted over another, in an opacity of 0 to 1,000 thousandths (that a symbolizer
-- has an opacity is Mapnik's; the rounding is this project's own).
use Rattle.std.specs.Prelude.{ℕ, ◌+◌, ◌-◌, ◌*◌, ◌/◌}
use Rattle.plain_shapes.specs.declared.colour.Colour.{Colour}

-- one channel s over the channel d, rounded to the nearest, halves up
abbrev pub blend_channel : ℕ → ℕ → ℕ → ℕ
blend_channel opacity s d = (s * opacity + d * (1000 - opacity) + 500) / 1000

-- the colour s over the colour d
abbrev pub blend : Colour → ℕ → Colour → Colour
blend s opacity d = record {
  r = blend_channel opacity s.r d.r;
  g = blend_channel opacity s.g d.g;
  b = blend_channel opacity s.b d.b;
}
