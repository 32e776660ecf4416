use Rattle.std.proofs.Common.{◌≡◌, ℕ, ◌+◌, ◌-◌, ◌*◌, ◌++◌, List, take, drop, flat_map, sym, ◌∙◌, ap, arith, append_assoc}
use Rattle.std.proofs.lemmas.Grind.{flat_map-append}
use Rattle.plain_shapes.specs.declared.colour.Colour.{Colour}
use Rattle.plain_shapes.specs.Ppm.{pixel_bytes}
use Rattle.plain_shapes.specs.inner.Canvas.{cut_rows}
use Rattle.plain_image.proofs.Cutting.{cut_more}
use Rattle.tiled_image.proofs.tiled_image.TiledImage.put_rows.Goals as goal

pub loop-j-preserved : goal.loop-j-preserved
loop-j-preserved c =
    let j : ℕ = c.loop-j.j in
    let old : List ℕ = c.args.out.now.items in
    let across : ℕ = c.args.self.now.cols in
    let from : List Colour = drop (j * across + c.args.col) c.args.self.now.pixels in
    let so_far : List Colour = cut_rows across c.args.col c.args.row c.args.cols (j - c.args.row) c.args.self.now.pixels in
    let part : List Colour = take c.args.cols from in
    let wide : c.args.col + c.args.cols - c.args.col ≡ c.args.cols = omega arith in
    let more : j + 1 - c.args.row ≡ j - c.args.row + 1 = omega (arith, c.loop-j.auto.j) in
    let at : c.args.row + (j - c.args.row) ≡ j = omega (arith, c.loop-j.auto.j) in
    rw more (c.in_ok-put_row.ensures
    ∙ ap (λ n. c.loop-j.out.items ++ flat_map pixel_bytes (take n from)) wide
    ∙ ap (λ bs. bs ++ flat_map pixel_bytes part) c.loop-j.invariant
    ∙ append_assoc old (flat_map pixel_bytes so_far) (flat_map pixel_bytes part)
    ∙ ap (λ bs. old ++ bs) (sym (flat_map-append pixel_bytes so_far part)
    ∙ ap (λ ps. flat_map pixel_bytes ps) (sym (cut_more across c.args.col c.args.row c.args.cols (j - c.args.row) j c.args.self.now.pixels at))))

pub returns : goal.returns
returns c =
    let all : c.loop-j.j - c.args.row ≡ c.args.rows = omega (arith, c.loop-j-test.false, c.loop-j.auto.j-end) in
    c.loop-j.invariant ∙ ap (λ n. c.args.out.now.items ++ flat_map pixel_bytes (cut_rows c.args.self.now.cols c.args.col c.args.row c.args.cols n c.args.self.now.pixels)) all
