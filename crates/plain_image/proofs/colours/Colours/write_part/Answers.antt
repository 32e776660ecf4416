use Rattle.std.proofs.Common.{◌≡◌, ◌+◌, ◌-◌, ◌*◌, ◌++◌, take, drop, flat_map, ap, sym, ◌∙◌, arith}
use Rattle.plain_shapes.specs.Ppm.{pixel_bytes}
use Rattle.plain_image.specs.PpmText.{colours}
use Rattle.plain_image.proofs.Bytes.{byte_count, part_bytes}
use Rattle.plain_image.proofs.colours.Colours.write_part.Goals as goal

pub slice_bounds-extend_from_slice-end : goal.slice_bounds-extend_from_slice-end
slice_bounds-extend_from_slice-end c =
    omega (arith, c.deref.ensures.len, byte_count c.self.inside.bytes.items c.args.self.now c.self.view_is c.self.invariant, c.requires.inside)

pub returns : goal.returns
returns c =
    let from = c.args.from in
    let count = c.args.count in
    let size : (from + count) * 3 - from * 3 ≡ count * 3 = omega arith in
    c.in_ok-extend_from_slice.ensures.items
    ∙ ap (λ n. c.args.out.now.items ++ take n (drop (from * 3) c.deref.result.now)) size
    ∙ ap (λ bs. c.args.out.now.items ++ take (count * 3) (drop (from * 3) bs)) (c.deref.ensures.value ∙ sym c.self.invariant)
    ∙ ap (λ bs. c.args.out.now.items ++ bs) (part_bytes from count (colours c.self.inside.bytes.items))
    ∙ ap (λ ps. c.args.out.now.items ++ flat_map pixel_bytes (take count (drop from ps))) c.self.view_is
