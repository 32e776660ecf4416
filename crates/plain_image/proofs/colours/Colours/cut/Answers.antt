use Rattle.std.proofs.Common.{◌++◌, List, length, flat_map, ap, ◌∙◌}
use Rattle.plain_shapes.specs.declared.colour.Colour.{Colour}
use Rattle.plain_shapes.specs.Ppm.{pixel_bytes}
use Rattle.plain_shapes.specs.inner.Canvas.{cut_rows}
use Rattle.plain_image.proofs.Bytes.{colours_of, kept_of}
use Rattle.plain_image.proofs.Cutting.{cut_len}
use Rattle.plain_image.proofs.colours.Colours.cut.Goals as goal

pub invariant_of-result : goal.invariant_of-result
invariant_of-result c =
    let part : List Colour = cut_rows c.args.across c.args.col c.args.row c.args.cols c.args.rows c.args.self.now in
    kept_of _ part (c.in_ok-write_rows.ensures ∙ ap (λ bs. bs ++ flat_map pixel_bytes part) c.in_ok-bytes.ensures.items)

pub returns-clause-items : goal.returns-clause-items
returns-clause-items c =
    let part : List Colour = cut_rows c.args.across c.args.col c.args.row c.args.cols c.args.rows c.args.self.now in
    colours_of _ part (c.in_ok-write_rows.ensures ∙ ap (λ bs. bs ++ flat_map pixel_bytes part) c.in_ok-bytes.ensures.items)

pub returns-clause-len : goal.returns-clause-len
returns-clause-len c =
    let part : List Colour = cut_rows c.args.across c.args.col c.args.row c.args.cols c.args.rows c.args.self.now in
    ap length (colours_of _ part (c.in_ok-write_rows.ensures ∙ ap (λ bs. bs ++ flat_map pixel_bytes part) c.in_ok-bytes.ensures.items))
    ∙ cut_len c.args.across c.args.col c.args.row c.args.cols c.args.rows c.args.self.now c.requires.in_cols c.requires.in_rows
