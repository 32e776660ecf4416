use Rattle.std.proofs.Common.{◌++◌, ap, sym, ◌∙◌}
use Rattle.tiled_image.proofs.JoinedParts.{part_texts_are}
use Rattle.tiled_image.proofs.tiled_image.TiledImage.into_texts.Goals as goal

pub returns-then-self-across : goal.returns-then-self-across
returns-then-self-across c =
    c.into_bytes.ensures ∙ ap (λ bytes. c.args.front.now ++ bytes)
    (part_texts_are c.self.inside.grid.shift c.self.inside.grid.across c.self.inside.texts c.args.self c.args.size c.args.across c.self.invariant c.self.view_is
    (sym c.side.ensures ∙ c.if-side-size.true) c.if-self-across.true)
