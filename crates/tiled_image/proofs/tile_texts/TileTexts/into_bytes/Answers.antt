use Rattle.std.proofs.Common.{◌++◌, drop, flat_map, ap, sym, ◌∙◌}
use Rattle.plain_drawing.specs.Drawing.{pixels_text}
use Rattle.tiled_image.specs.inner.Tiles.{Texts}
use Rattle.tiled_image.proofs.tile_texts.TileTexts.into_bytes.Goals as goal

pub returns : goal.returns
returns c =
    let m = c.self.inside in
    c.put_front.ensures
    ∙ ap (λ n. c.args.front.now ++ drop n m.bytes.items) (c.requires ∙ sym (ap (λ (t : Texts). t.before) c.self.view_is))
    ∙ ap (λ bs. c.args.front.now ++ bs) c.self.invariant.kept
    ∙ ap (λ (t : Texts). c.args.front.now ++ flat_map (pixels_text t.side t.side) t.tiles) c.self.view_is
