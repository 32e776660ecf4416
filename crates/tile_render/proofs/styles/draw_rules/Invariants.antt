use Rattle.std.proofs.Common.{◌≡◌, fold, map, take}
use Rattle.plain_drawing.specs.Drawing.{item_attrs}
use Rattle.tile_render.specs.inner.Chosen.{is_chosen, with_chosen}
use Rattle.tile_render.specs.inner.Items.{item_of}
use Rattle.tile_render.proofs.styles.draw_rules.Given as goal

abbrev pub invariant-loop-number : goal.invariant-loop-number
invariant-loop-number l = record {
  drawn : l.canvas.image
      ≡ fold (with_chosen l.fn.canvas.window (item_of l.item) (is_chosen l.choice (item_attrs (item_of l.item)))) l.fn.canvas.image (take l.number (map (λ r. r.now) l.rules));
  window : l.canvas.window ≡ l.fn.canvas.window;
}
