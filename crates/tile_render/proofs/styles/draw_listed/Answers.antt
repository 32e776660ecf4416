use Rattle.std.proofs.Common.{◌≡◌, ◌∙◌, Bor, List, [], fold, map, ap, sym}
use Rattle.plain_shapes.specs.Features.{Feature}
use Rattle.plain_drawing.specs.Drawing.{feature}
use Rattle.plain_drawing.specs.inner.Pictures.{with_item}
use Rattle.tile_render.proofs.Choices.{no_items}
use Rattle.tile_render.proofs.styles.draw_listed.Goals as goal

pub returns-then-is_empty-clause-drawn : goal.returns-then-is_empty-clause-drawn
returns-then-is_empty-clause-drawn c =
    let none : c.args.features.now ≡ [] = no_items c.args.features.now (sym c.is_empty.ensures ∙ c.if-is_empty.true) in
    ap (λ (fs : List (Bor Feature)). fold (with_item c.args.canvas.now.window c.args.scaled.now.denominator c.args.scaled.now.style) c.args.canvas.now.image (map feature (map (λ f. f.now) fs)))
    (sym none)
