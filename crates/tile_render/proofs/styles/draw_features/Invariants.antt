use Rattle.std.proofs.Common.{◌≡◌, fold, map, length}
use Rattle.plain_shapes.specs.Features.{Feature}
use Rattle.plain_drawing.specs.Drawing.{feature}
use Rattle.plain_drawing.specs.inner.Pictures.{with_item}
use Rattle.data_versions.specs.Near.{IsUnasked}
use Rattle.tile_render.specs.inner.Chosen.{filters_at, LeavesAll}
use Rattle.tile_render.proofs.styles.draw_features.Given as goal

abbrev pub invariant-loop-feature : goal.invariant-loop-feature
invariant-loop-feature l = record {
  drawn : fold (with_item l.fn.canvas.window l.scaled.denominator l.scaled.style) l.canvas.image (map feature l.walk.left)
      ≡ fold (with_item l.fn.canvas.window l.scaled.denominator l.scaled.style) l.fn.canvas.image (map feature l.features);
  window : l.canvas.window ≡ l.fn.canvas.window;
  unasked : (f : Feature) → IsUnasked l.walk.asked f → LeavesAll l.fn.canvas.window l.scaled (feature f);
  table : l.table.filters ≡ filters_at l.scaled;
}

abbrev pub decreases-loop-feature : goal.decreases-loop-feature
decreases-loop-feature l = length l.walk.left
