use Rattle.std.proofs.Common.{◌≡◌, fold, take}
use Rattle.plain_drawing.specs.inner.Pictures.{with_layer}
use Rattle.tile_render.specs.inner.Regions.{around}
use Rattle.tile_render.proofs.layers.draw_map.Given as goal

abbrev pub invariant-loop-layer : goal.invariant-loop-layer
invariant-loop-layer l = record {
  drawn : l.canvas.image ≡ fold (with_layer l.fn.canvas.window l.denominator l.style l.snapshot) l.fn.canvas.image (take l.layer-index l.layer-items);
  window : l.canvas.window ≡ l.fn.canvas.window;
  nearby : l.nearby ≡ record { layers = l.snapshot; around = around l.fn.canvas.window };
}
