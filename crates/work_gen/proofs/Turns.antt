-- Steps and features by their draws.
use Rattle.std.proofs.Common.{◌≡◌, ℕ, suc, ◌+◌, ◌^◌, ◌<◌, ◌≤◌, [], ◌∷◌, ◌++◌, refl, ap, ◌∙◌, add-one, arith}
use Rattle.std.proofs.Math.Nat.{pow-le-pow_right}
use Rattle.work_gen.specs.Work.{step_at, steps_of}

pub no_steps : (seed n : ℕ) → steps_of seed n 0 ≡ []
unfolding steps_of
no_steps seed n = refl

steps_suc : (seed n k : ℕ) → steps_of seed n (suc k) ≡ steps_of seed n k ++ step_at seed n k ∷ []
unfolding steps_of
steps_suc seed n k = refl

pub step_next : (seed n k : ℕ) → steps_of seed n (k + 1) ≡ steps_of seed n k ++ step_at seed n k ∷ []
step_next seed n k = ap (λ (j : ℕ). steps_of seed n j) (add-one k) ∙ steps_suc seed n k

pub power_some : (n : ℕ) → 0 < 2 ^ n
power_some n = let p : 2 ^ 0 ≤ 2 ^ n = pow-le-pow_right {n = 2} (omega arith) {i = 0} {j = n} (omega arith) in omega (arith, p)

pub power_small : (n : ℕ) → n ≤ 13 → 2 ^ n ≤ 8192
power_small n h = pow-le-pow_right {n = 2} (omega arith) {i = n} {j = 13} h
