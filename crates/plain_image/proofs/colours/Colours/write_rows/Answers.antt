use Rattle.std.proofs.Common.{◌≡◌, ℕ, ◌+◌, ◌-◌, ◌*◌, ◌++◌, List, take, drop, flat_map, sym, ◌∙◌, ap, arith, append_assoc}
use Rattle.std.proofs.lemmas.Grind.{flat_map-append}
use Rattle.plain_shapes.specs.declared.colour.Colour.{Colour}
use Rattle.plain_shapes.specs.Ppm.{pixel_bytes}
use Rattle.plain_shapes.specs.inner.Canvas.{cut_rows}
use Rattle.plain_image.proofs.Cutting.{cut_more}
use Rattle.plain_image.proofs.colours.Colours.write_rows.Goals as goal

pub loop-j-preserved : goal.loop-j-preserved
loop-j-preserved c =
    let j : ℕ = c.loop-j.j in
    let old : List ℕ = c.args.out.now.items in
    let so_far : List Colour = cut_rows c.args.across c.args.col c.args.row c.args.cols (j - c.args.row) c.args.self.now in
    let part : List Colour = take c.args.cols (drop (j * c.args.across + c.args.col) c.args.self.now) in
    let more : j + 1 - c.args.row ≡ j - c.args.row + 1 = omega arith in
    let at : c.args.row + (j - c.args.row) ≡ j = omega arith in
    rw more (c.in_ok-write_part.ensures ∙ ap (λ bs. bs ++ flat_map pixel_bytes part) c.loop-j.invariant
    ∙ append_assoc old (flat_map pixel_bytes so_far) (flat_map pixel_bytes part)
    ∙ ap (λ bs. old ++ bs) (sym (flat_map-append pixel_bytes so_far part)
    ∙ ap (λ ps. flat_map pixel_bytes ps) (sym (cut_more _ _ _ _ _ _ _ at))))

pub returns : goal.returns
returns c =
    let all : c.loop-j.j - c.args.row ≡ c.args.rows = omega (arith, c.loop-j-test.false, c.loop-j.auto.j-end) in
    c.loop-j.invariant ∙ ap (λ n. c.args.out.now.items ++ flat_map pixel_bytes (cut_rows c.args.across c.args.col c.args.row c.args.cols n c.args.self.now)) all
