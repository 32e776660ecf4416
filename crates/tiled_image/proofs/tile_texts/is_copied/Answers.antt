use Rattle.std.proofs.Common.{map, flat_map, ap, sym, ◌∙◌}
use Rattle.plain_shapes.specs.Blending.{blend}
use Rattle.plain_shapes.specs.Ppm.{pixel_bytes}
use Rattle.plain_image.specs.PpmText.{colours}
use Rattle.plain_image.proofs.Bytes.{thirds}
use Rattle.tiled_image.proofs.TextsRuns.{hidden}
use Rattle.tiled_image.proofs.tile_texts.is_copied.Goals as goal

pub returns-then-count-ge-COPIED-clause-copied : goal.returns-then-count-ge-COPIED-clause-copied
returns-then-count-ge-COPIED-clause-copied c = λ yes.
    let n = c.args.count in
    let old = colours c.args.run.now in
    c.copy_line.ensures.copied yes
    ∙ ap (λ ps. flat_map pixel_bytes ps) (hidden c.args.c n old (thirds n c.args.run.now c.requires).1)
    ∙ ap (λ a. flat_map pixel_bytes (map (blend c.args.c a) old)) (sym c.if-opacity-eq1000.true)
