use Rattle.std.proofs.Common.{◌∙◌, replicate}
use Rattle.tiled_image.specs.inner.Blanks.{text_of}
use Rattle.tiled_image.proofs.TextsAround.{copies_more}
use Rattle.tiled_image.proofs.tile_texts.copies.Goals as goal

pub loop-copy-preserved : goal.loop-copy-preserved
loop-copy-preserved c =
    c.in_ok-put_blank.ensures ∙ copies_more (replicate c.args.before 0) (text_of c.args.text.now) c.loop-copy.out.items c.loop-copy._copy c.loop-copy.invariant
