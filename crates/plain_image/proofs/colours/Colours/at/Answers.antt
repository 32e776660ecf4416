use Rattle.std.proofs.Common.{◌*◌, ◌+◌, length, get_or, ap, sym, ◌∙◌, arith}
use Rattle.std.specs.Prelude.{slice_get}
use Rattle.plain_image.specs.PpmText.{colours}
use Rattle.plain_image.proofs.Bytes.{byte_count, at_bytes}
use Rattle.plain_image.proofs.colours.Colours.at.Goals as goal

pub index-requires : goal.index-requires
index-requires c = omega (arith, byte_count c.self.inside.bytes.items c.args.self.now c.self.view_is c.self.invariant, c.requires.inside)

pub index-requires-2 : goal.index-requires-2
index-requires-2 c = omega (arith, byte_count c.self.inside.bytes.items c.args.self.now c.self.view_is c.self.invariant, c.requires.inside)

pub index-requires-3 : goal.index-requires-3
index-requires-3 c = omega (arith, byte_count c.self.inside.bytes.items c.args.self.now c.self.view_is c.self.invariant, c.requires.inside)

pub returns : goal.returns
returns c =
    let k = c.args.k in
    ap (λ ps. slice_get ps k) (sym c.self.view_is)
    ∙ at_bytes (colours c.self.inside.bytes.items) k c.index.result.now c.index-2.result.now c.index-3.result.now (omega (arith, c.requires.inside, ap length c.self.view_is))
    (c.index.ensures ∙ ap (λ bs. get_or bs (k * 3) c.index.result.now) (sym c.self.invariant))
    (c.index-2.ensures ∙ ap (λ bs. get_or bs (k * 3 + 1) c.index-2.result.now) (sym c.self.invariant))
    (c.index-3.ensures ∙ ap (λ bs. get_or bs (k * 3 + 2) c.index-3.result.now) (sym c.self.invariant))
