use Rattle.std.proofs.Common.{◌∙◌, flat_map, refl, ap, string_bytes}
use Rattle.plain_shapes.specs.Images.{Pixels}
use Rattle.plain_shapes.specs.Ppm.{pixel_bytes}
use Rattle.tiled_image.proofs.TextsBlank.{blank_text}
use Rattle.tiled_image.proofs.tile_texts.blank_of.Goals as goal

pub returns-clause-text : goal.returns-clause-text
returns-clause-text c =
    blank_text c.args.side _ c.args.c (string_bytes c.in_ok-head.head) c.into_bytes-rows.result.items c.requires c.in_ok-head.ensures
    (c.into_bytes-rows.ensures.items ∙ ap (λ (m : Pixels). flat_map pixel_bytes m.pixels) c.in_ok-new.ensures) refl
