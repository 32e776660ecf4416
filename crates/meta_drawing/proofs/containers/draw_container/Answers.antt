use Rattle.std.proofs.Common.{◌*◌, ◌++◌, ap, sym, ◌∙◌}
use Rattle.plain_drawing.specs.inner.PartTexts.{part_texts}
use Rattle.meta_container.specs.Container.{tile_bytes}
use Rattle.meta_drawing.proofs.containers.draw_container.Goals as goal

pub put_tiles-requires-clause-cols : goal.put_tiles-requires-clause-cols
put_tiles-requires-clause-cols c =
    ap (λ i. i.cols) c.in-Err.ensures ∙ c.in_ok-image.ensures.cols ∙ ap (λ n. c.args.size * n) (sym c.tiles_across-across.ensures.value)

pub put_tiles-requires-clause-rows : goal.put_tiles-requires-clause-rows
put_tiles-requires-clause-rows c =
    ap (λ i. i.rows) c.in-Err.ensures ∙ c.in_ok-image.ensures.rows ∙ ap (λ n. c.args.size * n) (sym c.tiles_across-across.ensures.value)

pub returns-in-Ok : goal.returns-in-Ok
returns-in-Ok c =
    c.in-Ok.ensures ∙ ap (λ bs. bs ++ tile_bytes (part_texts c.in_ok-image.image c.args.size c.tiles_across-across.result)) c.as_slice.ensures.value
    ∙ ap (λ ts. c.in_ok-head.head.items ++ tile_bytes ts) (ap (part_texts c.in_ok-image.image c.args.size) c.tiles_across-across.ensures.value ∙ c.in_ok-image.ensures.tiles)
    ∙ c.in_ok-head.ensures c.args.style.now c.args.snapshot.now

pub returns-in_ok-put_tiles-in-Err : goal.returns-in_ok-put_tiles-in-Err
returns-in_ok-put_tiles-in-Err c =
    c.in_ok-put_tiles-in-Err.ensures
    ∙ ap (λ ts. c.in_ok-head.head.items ++ tile_bytes ts)
    (ap (λ i. part_texts i c.args.size c.tiles_across-across.result) c.in-Err.ensures
    ∙ ap (part_texts c.in_ok-image.image c.args.size) c.tiles_across-across.ensures.value ∙ c.in_ok-image.ensures.tiles)
    ∙ c.in_ok-head.ensures c.args.style.now c.args.snapshot.now
