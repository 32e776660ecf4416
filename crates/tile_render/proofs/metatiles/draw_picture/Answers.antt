use Rattle.std.proofs.Common.{◌*◌, ◌∙◌, ap, sym}
use Rattle.plain_drawing.specs.inner.Pictures.{with_map}
use Rattle.plain_drawing.proofs.Steps.{one_colour}
use Rattle.plain_drawing.proofs.Cuts.{tiles_cut}
use Rattle.tile_render.proofs.Metas.{blank_picture, drawn_picture}
use Rattle.tile_render.proofs.metatiles.draw_picture.Goals as goal

pub of-canvas-requires-clause-cols : goal.of-canvas-requires-clause-cols
of-canvas-requires-clause-cols c =
    ap (λ i. i.cols) c.in_ok-blank.ensures ∙ ap (λ n. c.args.size * n) c.tiles_across-across.ensures.value ∙ sym (ap (λ w. w.cols) c.meta_window.ensures.value)

pub of-canvas-requires-clause-rows : goal.of-canvas-requires-clause-rows
of-canvas-requires-clause-rows c =
    ap (λ i. i.rows) c.in_ok-blank.ensures ∙ ap (λ n. c.args.size * n) c.tiles_across-across.ensures.value ∙ sym (ap (λ w. w.rows) c.meta_window.ensures.value)

pub returns-clause-cols : goal.returns-clause-cols
returns-clause-cols c =
    ap (λ i. i.cols) c.into_image.ensures.value ∙ c.into_image.ensures.valid.cols
    ∙ ap (λ w. w.cols) (c.draw_map.ensures.window ∙ ap (λ m. m.window) c.of-canvas.ensures ∙ c.meta_window.ensures.value)

pub returns-clause-rows : goal.returns-clause-rows
returns-clause-rows c =
    ap (λ i. i.rows) c.into_image.ensures.value ∙ c.into_image.ensures.valid.rows
    ∙ ap (λ w. w.rows) (c.draw_map.ensures.window ∙ ap (λ m. m.window) c.of-canvas.ensures ∙ c.meta_window.ensures.value)

pub returns-clause-tiles : goal.returns-clause-tiles
returns-clause-tiles c =
    let w = c.meta_window.result in
    let across = ap (λ n. c.args.size * n) (sym c.tiles_across-across.ensures.value) in
    tiles_cut c.args.style.now c.args.size c.args.m c.args.snapshot.now w c.into_image.result c.requires.size c.requires.meta.z_fits c.meta_window.ensures.value
    (drawn_picture c.args.style.now c.args.size c.args.m.z c.args.snapshot.now w c.denominator.result c.in_ok-blank.blank c.into_image.result
    (ap (λ v. v.pixel) c.meta_window.ensures.value) c.denominator.ensures.value
    (blank_picture w c.args.size c.tiles_across-across.result _ c.in_ok-blank.blank
    (ap (λ v. v.cols) c.meta_window.ensures.value ∙ across) (ap (λ v. v.rows) c.meta_window.ensures.value ∙ across) c.in_ok-blank.ensures
    ∙ ap (λ s. one_colour w s.background_color) c.style.view_is)
    (c.into_image.ensures.value ∙ c.in_ok-draw_map.ensures.drawn
    ∙ ap (λ m. with_map m.window c.denominator.result c.args.style.now c.args.snapshot.now m.image) c.of-canvas.ensures))
