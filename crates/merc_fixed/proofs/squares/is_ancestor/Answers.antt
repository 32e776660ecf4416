use Rattle.std.proofs.Common.{◌≡◌, ℕ, ◌+◌, ◌-◌, ◌/◌, ◌^◌, Bool, ◌&&◌, ap, sym, ◌∙◌, arith}
use Rattle.std.specs.Prelude.{◌==◌}
use Rattle.std.proofs.lemmas.Bool.{eq-eqb}
use Rattle.plain_world.proofs.Squares.{ancestor}
use Rattle.merc_fixed.proofs.squares.is_ancestor.Goals as goal

pub returns-then-low-steps : goal.returns-then-low-steps
returns-then-low-steps c =
    let d : ℕ = c.args.low.z - c.args.high.z in
    let e : c.args.low.z ≡ c.args.high.z + d = omega (arith, c.requires.order) in
    sym (ap (λ t. t && (c.args.low.y / 2 ^ d == c.args.high.y)) (eq-eqb (c.args.low.x / 2 ^ d) c.args.high.x c.if-low-steps.true))
    ∙ ancestor c.args.high c.args.low d e c.requires.zoom

apart_false : (a b : ℕ) (q : Bool) → (a ≡ b → ⊥) → (a == b) ≡ ((a == b) && q)
apart_false a b q h = grind (arith)

pub returns-else-low-steps : goal.returns-else-low-steps
returns-else-low-steps c =
    let d : ℕ = c.args.low.z - c.args.high.z in
    let e : c.args.low.z ≡ c.args.high.z + d = omega (arith, c.requires.order) in
    apart_false (c.args.low.x / 2 ^ d) c.args.high.x (c.args.low.y / 2 ^ d == c.args.high.y) c.if-low-steps.false
    ∙ ancestor c.args.high c.args.low d e c.requires.zoom
