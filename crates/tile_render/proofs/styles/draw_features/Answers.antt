use Rattle.std.proofs.Common.{◌∙◌, fold, map, refl, ap, subst}
use Rattle.plain_world.specs.World.{IsWindow}
use Rattle.filter_expr.specs.Looked.{Asked}
use Rattle.plain_drawing.specs.Drawing.{feature}
use Rattle.plain_drawing.specs.inner.Pictures.{with_item}
use Rattle.data_versions.specs.Near.{all_near, Walk}
use Rattle.tile_render.specs.inner.Regions.{around}
use Rattle.tile_render.proofs.Leaving.{left_drawn, none_left, unasked_leave}
use Rattle.tile_render.proofs.Skipping.{near_drawn}
use Rattle.tile_render.proofs.styles.draw_features.Goals as goal

pub loop-feature-init : goal.loop-feature-init
loop-feature-init c = record {
  drawn =
      ap (λ (walk : Walk). fold (with_item c.args.canvas.now.window c.args.scaled.now.denominator c.args.scaled.now.style) c.args.canvas.now.image (map feature walk.left)) c.near-walk.ensures
      ∙ ap (λ b. fold (with_item c.args.canvas.now.window c.args.scaled.now.denominator c.args.scaled.now.style) c.args.canvas.now.image (map feature (all_near c.args.features.now b)))
      (c.around-near.ensures.value ∙ ap around c.window.ensures.value)
      ∙ near_drawn c.args.canvas.now.window c.args.scaled.now.denominator c.args.scaled.now.style c.args.features.now c.args.canvas.now.image
      (subst IsWindow c.window.ensures.value c.window.ensures.valid) c.know.ensures;
  window = refl;
  unasked = rw (c.near-walk.ensures) (unasked_leave c.asked.result c.args.canvas.now.window c.args.scaled.now c.asked.ensures);
  table = ap (λ (t : Asked). t.filters) c.in_ok-table.ensures;
}

pub loop-feature-preserved : goal.loop-feature-preserved
loop-feature-preserved c = record {
  drawn =
      left_drawn c.args.canvas.now.window c.args.scaled.now c.loop-feature.walk c.next.new.self c.in-Some.feature.now c.loop-feature.canvas.image c.draw_shared.new.canvas.image
      c.in-Some.ensures c.loop-feature.invariant.unasked
      (c.in_ok-draw_shared.ensures.drawn
      ∙ ap (λ w. with_item w c.args.scaled.now.denominator c.args.scaled.now.style c.loop-feature.canvas.image (feature c.in-Some.feature.now)) c.loop-feature.invariant.window)
      ∙ c.loop-feature.invariant.drawn;
  window = c.draw_shared.ensures.window ∙ c.loop-feature.invariant.window;
  unasked = rw (c.in-Some.ensures.asked) c.loop-feature.invariant.unasked;
  table = c.draw_shared.ensures.table ∙ c.loop-feature.invariant.table;
}

pub returns-clause-drawn : goal.returns-clause-drawn
returns-clause-drawn c =
    none_left c.args.canvas.now.window c.args.scaled.now c.loop-feature.walk c.next.new.self c.loop-feature.canvas.image c.in_default.ensures c.loop-feature.invariant.unasked
    ∙ c.loop-feature.invariant.drawn
