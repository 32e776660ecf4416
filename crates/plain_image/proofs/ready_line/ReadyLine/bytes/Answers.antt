use Rattle.std.proofs.Common.{◌*◌, length, take, flat_map, replicate, ap, sym, ◌∙◌, arith}
use Rattle.std.proofs.lemmas.List.{length-take-le}
use Rattle.plain_shapes.specs.Ppm.{pixel_bytes}
use Rattle.plain_image.proofs.Bytes.{pixels_front, pixels_length}
use Rattle.plain_image.proofs.ready_line.ReadyLine.bytes.Goals as goal

pub overflow_mul-result : goal.overflow_mul-result
overflow_mul-result c =
    omega (arith, c.requires, ap (λ (p : _). p.1) c.self.view_is, pixels_length c.self.inside.count c.self.inside.colour c.self.inside.bytes.items c.self.invariant, c.self.inside.bytes.ok.0)

pub slice_bounds-result-end : goal.slice_bounds-result-end
slice_bounds-result-end c =
    sym (length-take-le (c.args.count * 3) c.deref.result.now (omega (
      arith,
      c.requires,
      ap (λ (p : _). p.1) c.self.view_is,
      ap length c.deref.ensures.value,
      pixels_length c.self.inside.count c.self.inside.colour c.self.inside.bytes.items c.self.invariant,
    )))

pub returns : goal.returns
returns c =
    ap (λ bs. take (c.args.count * 3) bs) c.deref.ensures.value
    ∙ pixels_front c.args.count c.self.inside.count c.self.inside.colour c.self.inside.bytes.items (omega (arith, c.requires, ap (λ (p : _). p.1) c.self.view_is)) c.self.invariant
    ∙ ap (λ (p : _). flat_map pixel_bytes (replicate c.args.count p.0)) c.self.view_is
