-- Each step asks for a tile.
use Rattle.std.proofs.Common.{◌≡◌, ℕ, zero, suc, ◌+◌, ◌-◌, ◌*◌, ◌^◌, ◌<◌, ◌≤◌, subst, arith}
use Rattle.std.proofs.Math.Nat.{mod-lt}
use Rattle.std.proofs.lemmas.Nat.{pow_pos}
use Rattle.plain_world.specs.World.{IsTile}
use Rattle.farm_history.specs.Lists.{Each}
use Rattle.farm_history.specs.Plans.{spot_tile}
use Rattle.farm_history.proofs.Lists.{each-append}
use Rattle.work_gen.specs.Draws.{draw}
use Rattle.work_gen.specs.Work.{step_at, steps_of}
use Rattle.work_gen.specs.declared.stepping.Step.{Step}

-- a draw is below its bound
draw_below : (seed k bound : ℕ) → 0 < bound → draw seed k bound < bound
unfolding draw
draw_below seed k bound some = mod-lt _ some

-- the numbers of a tile of these zooms
fits : (d x y : ℕ) → d < 4 → x < 2 ^ d → y < 2 ^ d → (11 + d ≤ 18) × (2 ^ (11 + d - 1) + x < 2 ^ (11 + d)) × (2 ^ (11 + d - 1) + y < 2 ^ (11 + d))
fits zero x y low a b = (omega arith, omega (arith, a), omega (arith, b))
fits (suc zero) x y low a b = (omega arith, omega (arith, a), omega (arith, b))
fits (suc (suc zero)) x y low a b = (omega arith, omega (arith, a), omega (arith, b))
fits (suc (suc (suc zero))) x y low a b = (omega arith, omega (arith, a), omega (arith, b))
fits (suc (suc (suc (suc d)))) x y low a b = absurd (omega (arith, low))

step_tile : (seed n k : ℕ) → IsTile (spot_tile (step_at seed n k).spot)
unfolding step_at
step_tile seed n k =
    let at = 4 * n + 3 * k in
    let d = draw_below seed at 4 (omega arith) in
    let some : (e : ℕ) → 0 < 2 ^ e = pow_pos in
    let x = draw_below seed (at + 1) (2 ^ (11 + draw seed at 4 - 11)) (some (11 + draw seed at 4 - 11)) in
    let y = draw_below seed (at + 1 + 1) (2 ^ (11 + draw seed at 4 - 11)) (some (11 + draw seed at 4 - 11)) in
    let less : 11 + draw seed at 4 - 11 ≡ draw seed at 4 = omega arith in
    let all = fits (draw seed at 4) (draw seed (at + 1) (2 ^ (11 + draw seed at 4 - 11))) (draw seed (at + 1 + 1) (2 ^ (11 + draw seed at 4 - 11))) d
    (subst (λ (e : ℕ). draw seed (at + 1) (2 ^ (11 + draw seed at 4 - 11)) < 2 ^ e) less x) (subst (λ (e : ℕ). draw seed (at + 1 + 1) (2 ^ (11 + draw seed at 4 - 11)) < 2 ^ e) less y) in
    record { z_fits = all.0; x_fits = all.1; y_fits = all.2 }

pub steps_tiles : (seed n k : ℕ) → Each (λ (s : Step). IsTile (spot_tile s.spot)) (steps_of seed n k)
unfolding steps_of
steps_tiles seed n zero = tt
steps_tiles seed n (suc k) = each-append (λ (s : Step). IsTile (spot_tile s.spot)) (steps_of seed n k) (step_at seed n k) (steps_tiles seed n k) (step_tile seed n k)
