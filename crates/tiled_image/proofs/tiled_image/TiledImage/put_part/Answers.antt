use Rattle.std.proofs.Common.{◌≡◌, ◌++◌, List, ℕ, [], flat_map, ap, sym, subst, ◌∙◌, append_assoc, OnOk}
use Rattle.plain_shapes.specs.declared.colour.Colour.{Colour}
use Rattle.plain_shapes.specs.inner.Canvas.{cut_rows}
use Rattle.plain_shapes.specs.Ppm.{pixel_bytes}
use Rattle.plain_drawing.specs.Drawing.{pixels_text}
use Rattle.plain_drawing.proofs.TileTexts.{text_parts}
use Rattle.tiled_image.proofs.JoinedSteps.{raster_of}
use Rattle.tiled_image.proofs.tiled_image.TiledImage.put_part.Goals as goal

pub put_rows-requires-clause-raster : goal.put_rows-requires-clause-raster
put_rows-requires-clause-raster c =
    raster_of c.self.inside.grid.shift c.self.inside.grid.across c.self.inside.texts c.args.self.now c.self.invariant c.self.view_is

pub returns : goal.returns
returns c =
    let old : List ℕ = c.args.out.now.items in
    let head : List ℕ = pixels_text c.args.cols c.args.rows [] in
    let part : List Colour = cut_rows c.args.self.now.cols c.args.col c.args.row c.args.cols c.args.rows c.args.self.now.pixels in
    let behind = c.in_ok-extend_from_slice.ensures.items ∙ ap (λ bs. old ++ bs) (c.as_bytes.ensures.value ∙ c.as_str.ensures.value ∙ c.in_ok-head.ensures) in
    subst (λ bs. OnOk c.put_rows.result (c.put_rows.new.out.items ≡ bs))
    (ap (λ bs. bs ++ flat_map pixel_bytes part) behind ∙ append_assoc old head (flat_map pixel_bytes part)
    ∙ ap (λ bs. old ++ bs) (sym (text_parts c.args.cols c.args.rows part)))
    c.put_rows.ensures
