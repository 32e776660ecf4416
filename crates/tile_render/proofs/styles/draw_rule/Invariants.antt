use Rattle.std.proofs.Common.{◌≡◌, fold, take}
use Rattle.plain_drawing.specs.inner.Pictures.{with_symbolizer}
use Rattle.tile_render.specs.inner.Items.{item_of}
use Rattle.tile_render.proofs.styles.draw_rule.Given as goal

abbrev pub invariant-loop-symbolizer : goal.invariant-loop-symbolizer
invariant-loop-symbolizer l = record {
  drawn : l.canvas.image ≡ fold (with_symbolizer l.fn.canvas.window (item_of l.item)) l.fn.canvas.image (take l.symbolizer-index l.symbolizer-items);
  window : l.canvas.window ≡ l.fn.canvas.window;
}
