use Rattle.std.proofs.Common.{◌≡◌, suc, ◌+◌, ◌-◌, ◌*◌, true, set, ap, sym, ◌∙◌, arith}
use Rattle.plain_shapes.specs.Images.{Bits}
use Rattle.plain_image.specs.Runs.{run_changed}
use Rattle.plain_image.proofs.Runs.{set_more}
use Rattle.plain_image.proofs.surfaces.MaskSurface.cover.Goals as goal

pub loop-i-preserved : goal.loop-i-preserved
loop-i-preserved c =
    let m = c.args.self.now in
    let start = c.args.j * m.cols + c.args.from in
    let count = c.loop-i.i - c.args.from in
    let place : c.args.j * m.cols + c.loop-i.i ≡ start + count = omega (arith, c.loop-i.invariant.from) in
    let more : suc count ≡ c.loop-i.i + 1 - c.args.from = omega (arith, c.loop-i.invariant.from) in
    record {
      is =
          c.set.ensures
          ∙ ap (λ (b : Bits). record b { bits = set b.bits (c.args.j * b.cols + c.loop-i.i) true }) c.loop-i.invariant.is
          ∙ ap (λ k. record m { bits = set (run_changed (λ _. true) start count m.bits) k true }) place
          ∙ ap (λ bs. record m { bits = bs }) (sym (set_more start count m.bits))
          ∙ ap (λ k. record m { bits = run_changed (λ _. true) start k m.bits }) more;
      from = omega (arith, c.loop-i.invariant.from);
      within = omega arith;
    }
