use Rattle.std.proofs.Common.{◌≡◌, length, take, set, ap, sym, ◌∙◌, Some}
use Rattle.std.specs.Prelude.{slice_get}
use Rattle.std.proofs.lemmas.List.{length-set}
use Rattle.plain_shapes.specs.inner.Canvas.{painted}
use Rattle.plain_image.proofs.Painting.{painted_at, painted_no}
use Rattle.plain_image.proofs.pixels.paint.Goals.{then-is_covered, else-is_covered}
use Rattle.plain_image.proofs.pixels.paint.Goals as goal

pub loop-k-preserved : goal.loop-k-preserved
loop-k-preserved c =
    let s = c.args.s in
    let a = c.args.opacity in
    let bs = c.args.covered.now in
    let ds = c.args.pixels.now in
    let k = c.loop-k.k in
    let so_far = c.loop-k.invariant.painted in
    elim c.if-is_covered.branch [
      | then-is_covered w ↦ (
          let at : slice_get (painted s a (take k bs) ds) k ≡ Some w.at-d.result = ap (λ ps. slice_get ps k) (sym so_far) ∙ w.at-d.ensures in
          record {
            painted = w.pixels-is ∙ w.put.ensures ∙ ap (λ ps. set ps k w.over.result) so_far ∙ ap (λ d. set (painted s a (take k bs) ds) k d) w.over.ensures
                ∙ sym (painted_at s a bs ds k w.at-d.result c.loop-k-test.true w.if-is_covered.true at);
            len = ap length (w.pixels-is ∙ w.put.ensures) ∙ length-set c.loop-k.pixels k w.over.result ∙ c.loop-k.invariant.len;
          })
      | else-is_covered w ↦ record {
        painted = w.pixels-is ∙ so_far ∙ sym (painted_no s a bs ds k c.loop-k-test.true w.if-is_covered.false);
        len = ap length w.pixels-is ∙ c.loop-k.invariant.len;
      }
    ]
