use Rattle.std.proofs.Common.{◌≡◌, ◌*◌, ◌++◌, ◌∙◌, ap, arith}
use Rattle.plain_shapes.specs.inner.Canvas.{cut_of}
use Rattle.plain_shapes.specs.Ppm.{ppm}
use Rattle.plain_drawing.specs.inner.Pictures.{with_map}
use Rattle.plain_drawing.proofs.Steps.{one_colour}
use Rattle.tile_render.proofs.Metas.{blank_picture, drawn_picture, whole_tile}
use Rattle.tile_render.proofs.tiles.draw_tile.Goals as goal

pub of-canvas-requires-clause-cols : goal.of-canvas-requires-clause-cols
of-canvas-requires-clause-cols c = omega (arith, ap (λ i. i.cols) c.in_ok-blank.ensures, ap (λ w. w.cols) c.window.ensures.value)

pub of-canvas-requires-clause-rows : goal.of-canvas-requires-clause-rows
of-canvas-requires-clause-rows c = omega (arith, ap (λ i. i.rows) c.in_ok-blank.ensures, ap (λ w. w.rows) c.window.ensures.value)

pub put_part-requires-clause-in_cols : goal.put_part-requires-clause-in_cols
put_part-requires-clause-in_cols c =
    omega (
      arith,
      ap (λ i. i.cols) c.into_image-image.ensures.value ∙ c.into_image-image.ensures.valid.cols
          ∙ ap (λ w. w.cols) (c.draw_map.ensures.window ∙ ap (λ m. m.window) c.of-canvas.ensures ∙ c.window.ensures.value),
    )

pub put_part-requires-clause-in_rows : goal.put_part-requires-clause-in_rows
put_part-requires-clause-in_rows c =
    omega (
      arith,
      ap (λ i. i.rows) c.into_image-image.ensures.value ∙ c.into_image-image.ensures.valid.rows
          ∙ ap (λ w. w.rows) (c.draw_map.ensures.window ∙ ap (λ m. m.window) c.of-canvas.ensures ∙ c.window.ensures.value),
    )

pub returns : goal.returns
returns c =
    let w = c.window.result in
    let one : c.args.size ≡ c.args.size * 1 = omega arith in
    c.in_ok-put_part.ensures ∙ ap (λ bs. bs ++ ppm c.args.size c.args.size (cut_of c.into_image-image.result 0 0 c.args.size c.args.size).pixels) c.new-text.ensures.items
    ∙ whole_tile c.args.style.now c.args.size c.args.t c.args.snapshot.now w c.into_image-image.result c.window.ensures.value
    (drawn_picture c.args.style.now c.args.size c.args.t.z c.args.snapshot.now w c.denominator.result c.in_ok-blank.blank c.into_image-image.result
    (ap (λ v. v.pixel) c.window.ensures.value) c.denominator.ensures.value
    (blank_picture w c.args.size 1 _ c.in_ok-blank.blank
    (ap (λ v. v.cols) c.window.ensures.value ∙ one) (ap (λ v. v.rows) c.window.ensures.value ∙ one) c.in_ok-blank.ensures
    ∙ ap (λ s. one_colour w s.background_color) c.style.view_is)
    (c.into_image-image.ensures.value ∙ c.in_ok-draw_map.ensures.drawn
    ∙ ap (λ m. with_map m.window c.denominator.result c.args.style.now c.args.snapshot.now m.image) c.of-canvas.ensures))
