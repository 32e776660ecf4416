use Rattle.std.proofs.Common.{◌++◌, ◌∙◌, ap, string_bytes}
use Rattle.tiled_image.proofs.TextsAround.{copies_more}
use Rattle.tiled_image.proofs.tile_texts.put_blank.Goals as goal

pub loop-row-preserved : goal.loop-row-preserved
loop-row-preserved c =
    c.in_ok-extend_from_slice-2.ensures.items ∙ ap (λ bs. c.loop-row.out.items ++ bs) c.deref.ensures.value
    ∙ copies_more (c.args.out.now.items ++ string_bytes c.args.blank.now.head) c.args.blank.now.rows.items c.loop-row.out.items c.loop-row._row c.loop-row.invariant
