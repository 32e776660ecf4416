use Rattle.std.proofs.Common.{◌≡◌, fold, map, take}
use Rattle.plain_drawing.specs.Drawing.{feature}
use Rattle.plain_drawing.specs.inner.Pictures.{with_item}
use Rattle.tile_render.specs.inner.Chosen.{filters_at}
use Rattle.tile_render.proofs.styles.draw_each.Given as goal

abbrev pub invariant-loop-k : goal.invariant-loop-k
invariant-loop-k l = record {
  drawn : l.canvas.image ≡ fold (with_item l.fn.canvas.window l.scaled.denominator l.scaled.style) l.fn.canvas.image (map (λ f. feature f.now) (take l.k l.features));
  window : l.canvas.window ≡ l.fn.canvas.window;
  table : l.table.filters ≡ filters_at l.scaled;
}
