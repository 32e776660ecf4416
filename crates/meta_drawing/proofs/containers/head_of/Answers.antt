use Rattle.std.proofs.Common.{◌++◌, ap, ◌∙◌}
use Rattle.plain_drawing.specs.Metatiles.{tiles_of}
use Rattle.meta_container.specs.Container.{container_of}
use Rattle.meta_container.proofs.Drawn.{drawn_are_tiles, drawn_of_size}
use Rattle.meta_drawing.proofs.containers.head_of.Goals as goal

pub returns : goal.returns
returns c style layers =
    c.in_ok-put_head.ensures (tiles_of style c.args.size c.args.m layers) (drawn_are_tiles style c.args.size c.args.m layers c.requires.meta c.requires.size).count
    (drawn_of_size style c.args.size c.text_len.result c.args.m layers c.text_len.ensures.value)
    ∙ ap (λ bs. bs ++ container_of c.args.m (tiles_of style c.args.size c.args.m layers)) c.in_ok-head.ensures.items
