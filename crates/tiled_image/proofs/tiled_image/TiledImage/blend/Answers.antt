use Rattle.std.proofs.Common.{◌≡◌, ◌+◌, ◌-◌, ◌*◌, ap, ◌∙◌, arith}
use Rattle.plain_shapes.specs.Blending.{blend}
use Rattle.plain_image.specs.Runs.{run_changed}
use Rattle.tiled_image.proofs.JoinedRuns.{run_of_one}
use Rattle.tiled_image.proofs.JoinedSteps.{few_cols}
use Rattle.tiled_image.proofs.tiled_image.TiledImage.blend.Goals as goal

pub overflow_add-i : goal.overflow_add-i
overflow_add-i c =
    omega (arith, (few_cols c.self.inside.grid.shift c.self.inside.grid.across c.self.inside.texts c.self.invariant).1, ap (λ m. m.cols) c.self.view_is, c.requires.col)

pub returns : goal.returns
returns c =
    let f = blend c.args.c c.args.opacity in
    let old = c.args.self.now in
    let at = c.args.j * old.cols + c.args.i in
    c.blend_run.ensures
    ∙ ap (λ n. record old { pixels = run_changed f at n old.pixels }) (let e : c.args.i + 1 - c.args.i ≡ 1 = omega arith in e)
    ∙ ap (λ ps. record old { pixels = ps }) (run_of_one f at old.pixels c.args.c)
