use Rattle.std.proofs.Common.{◌≡◌, fold, take, flat_map}
use Rattle.plain_drawing.specs.Drawing.{style_named}
use Rattle.plain_drawing.specs.inner.Pictures.{with_style}
use Rattle.tile_render.specs.inner.Items.{items_in}
use Rattle.tile_render.proofs.layers.draw_layer.Given as goal

abbrev pub invariant-loop-name : goal.invariant-loop-name
invariant-loop-name l = record {
  drawn : l.canvas.image ≡ fold (with_style l.fn.canvas.window l.denominator (items_in l.items)) l.fn.canvas.image (flat_map (style_named l.style.styles) (take l.name-index l.name-items));
  window : l.canvas.window ≡ l.fn.canvas.window;
  nearby : l.nearby ≡ l.fn.nearby;
}
