-- A grid at a window's own scale, along one side and then along both.
use Rattle.std.specs.Prelude.{◌≡◌, ◌≤◌, ◌<◌, ℕ, ◌+◌, ◌-◌, ◌*◌, ◌/◌, Bool, true, false, cond, ◌&&◌, nat_le, Some, None, refl}
use Rattle.std.proofs.Common.{◌∙◌, ap, sym, inl, inr, arith}
use Rattle.std.proofs.lemmas.Nat.{div-mul-add}
use Rattle.std.proofs.lemmas.Bool.Decides.{nat_tests}
use Rattle.std.proofs.lemmas.Option.{none-some}
use Rattle.std.proofs.Math.Nat.{lt_of_mul-lt-mul_right}
use Rattle.plain_world.specs.declared.world.Window.{Window}
use Rattle.plain_shapes.specs.declared.colour.Colour.{Colour}
use Rattle.plain_world.specs.World.{centre}
use Rattle.plain_drawing.specs.Grids.{Grid, pixel_at, grid_at}
use Rattle.raster_layers.specs.Scales.{DifferBy, LawSameScale}

-- along one side: the place of the middle of pixel i is that of a pixel of the grid
along : (g w i p : ℕ) → 1 ≤ p → DifferBy p g w → g ≤ w + i * p + p / 2
    → (col : ℕ) × ((w + i * p + p / 2 - g) / p ≡ col) × (g + col * p ≡ w + i * p)
along g w i p some (inl d) from =
    let apart : w + i * p + p / 2 - g ≡ (d.0 + i) * p + p / 2 = omega (arith, d.1) in
    (d.0 + i, ap (λ n. n / p) apart ∙ div-mul-add (d.0 + i) p (p / 2) (omega arith), omega (arith, d.1))
along g w i p some (inr d) from =
    let below : d.0 * p < (i + 1) * p = omega (arith, d.1) in
    let before : d.0 < i + 1 = lt_of_mul-lt-mul_right p below in
    let more : i * p ≡ d.0 * p + (i - d.0) * p = ap (λ n. n * p) (within d.0 i before) ∙ omega arith in
    let apart : w + i * p + p / 2 - g ≡ (i - d.0) * p + p / 2 = omega (arith, d.1, more) in
    (i - d.0, ap (λ n. n / p) apart ∙ div-mul-add (i - d.0) p (p / 2) (omega arith), omega (arith, d.1, more))
  where
    within : (k n : ℕ) → k < n + 1 → n ≡ k + (n - k)
    within k n h = omega arith

-- what a centre that the grid holds tells
holds_from : (g : Grid) (w : Window) (i j : ℕ) (c : Colour) → grid_at g (centre w i j) ≡ Some c
    → (g.west ≤ w.west + i * w.pixel + w.pixel / 2) × (g.north ≤ w.north + j * w.pixel + w.pixel / 2)
    × (pixel_at g ((w.west + i * w.pixel + w.pixel / 2 - g.west) / g.pixel) ((w.north + j * w.pixel + w.pixel / 2 - g.north) / g.pixel) ≡ Some c)
holds_from g w i j c e = go (nat_le g.west (w.west + i * w.pixel + w.pixel / 2)) (nat_le g.north (w.north + j * w.pixel + w.pixel / 2)) refl refl e
  where
    go : (a b : Bool) → nat_le g.west (w.west + i * w.pixel + w.pixel / 2) ≡ a → nat_le g.north (w.north + j * w.pixel + w.pixel / 2) ≡ b
        → cond (a && b) (pixel_at g ((w.west + i * w.pixel + w.pixel / 2 - g.west) / g.pixel) ((w.north + j * w.pixel + w.pixel / 2 - g.north) / g.pixel)) None ≡ Some c
        → (g.west ≤ w.west + i * w.pixel + w.pixel / 2) × (g.north ≤ w.north + j * w.pixel + w.pixel / 2)
        × (pixel_at g ((w.west + i * w.pixel + w.pixel / 2 - g.west) / g.pixel) ((w.north + j * w.pixel + w.pixel / 2 - g.north) / g.pixel) ≡ Some c)
    go true true s t f = (grind (arith, nat_tests), grind (arith, nat_tests), f)
    go true false s t f = absurd (none-some c f)
    go false b s t f = absurd (none-some c f)

pub same_scale : LawSameScale
same_scale g w some scale i j c e =
    let h = holds_from g w i j c e in
    let x = along g.west w.west i w.pixel some scale.west h.0 in
    let y = along g.north w.north j w.pixel some scale.north h.1 in (
      x.0,
      y.0,
      record { west = x.2; north = y.2 },
      sym (ap (λ n. pixel_at g n y.0) x.1) ∙ sym (ap (λ n. pixel_at g ((w.west + i * w.pixel + w.pixel / 2 - g.west) / w.pixel) n) y.1)
          ∙ ap (λ p. pixel_at g ((w.west + i * w.pixel + w.pixel / 2 - g.west) / p) ((w.north + j * w.pixel + w.pixel / 2 - g.north) / p)) (sym scale.pixel)
          ∙ h.2,
    )
