use Rattle.std.proofs.Common.{set, refl, ap, ◌∙◌, arith}
use Rattle.plain_image.specs.PpmText.{colours}
use Rattle.plain_image.proofs.Bytes.{byte_count, colours_of, kept_of, put_bytes}
use Rattle.plain_image.proofs.colours.Colours.put.Goals as goal

pub index_mut-requires : goal.index_mut-requires
index_mut-requires c =
    omega (arith, byte_count c.self.inside.bytes.items c.args.self.now c.self.view_is c.self.invariant, c.requires.inside, c.self.inside.bytes.ok.0)

pub index_mut-requires-2 : goal.index_mut-requires-2
index_mut-requires-2 c =
    omega (arith, byte_count c.self.inside.bytes.items c.args.self.now c.self.view_is c.self.invariant, c.requires.inside, c.self.inside.bytes.ok.0)

pub index_mut-requires-3 : goal.index_mut-requires-3
index_mut-requires-3 c =
    omega (arith, byte_count c.self.inside.bytes.items c.args.self.now c.self.view_is c.self.invariant, c.requires.inside, c.self.inside.bytes.ok.0)

pub invariant_of-self : goal.invariant_of-self
invariant_of-self c =
    kept_of _ (set (colours c.self.inside.bytes.items) c.args.k c.args.c) (put_bytes c.args.k c.args.c c.self.inside.bytes.items _ c.self.invariant refl)

pub returns : goal.returns
returns c =
    colours_of _ (set (colours c.self.inside.bytes.items) c.args.k c.args.c) (put_bytes c.args.k c.args.c c.self.inside.bytes.items _ c.self.invariant refl)
    ∙ ap (λ ps. set ps c.args.k c.args.c) c.self.view_is
