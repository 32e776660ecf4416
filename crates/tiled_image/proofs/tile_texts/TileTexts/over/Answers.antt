use Rattle.std.proofs.Common.{◌*◌, length, replicate, ap, arith}
use Rattle.std.proofs.lemmas.List.{length-replicate}
use Rattle.plain_world.proofs.Windows.{size_bounds}
use Rattle.tiled_image.specs.inner.Blanks.{text_of}
use Rattle.tiled_image.proofs.TextsKept.{text_short, of_one}
use Rattle.tiled_image.proofs.tile_texts.TileTexts.over.Goals as goal

pub copies-requires-clause-len : goal.copies-requires-clause-len
copies-requires-clause-len c =
    omega (
      arith,
      ap length c.in_ok-text.ensures.text,
      text_short c.args.side (replicate (c.args.side * c.args.side) c.args.c) (size_bounds c.args.side c.requires.size).1 (length-replicate (c.args.side * c.args.side) c.args.c),
    )

pub invariant_of-result : goal.invariant_of-result
invariant_of-result c =
    let bounds = size_bounds c.args.side c.requires.size in
    (of_one c.args.before c.args.side c.args.count c.len.result c.args.c (text_of c.in_ok-text.text) c.in_ok-bytes.bytes.items c.requires.before (omega (arith, bounds.0)) bounds.1 c.requires.few
    (omega (arith, c.len.ensures, c.in_ok-text.text.head.bytes.ok.0, ap length c.in_ok-text.ensures.head)) c.in_ok-text.ensures.text c.in_ok-bytes.ensures).0

pub returns : goal.returns
returns c =
    let bounds = size_bounds c.args.side c.requires.size in
    ap (λ ts. record { before = c.args.before; side = c.args.side; tiles = ts })
    (of_one c.args.before c.args.side c.args.count c.len.result c.args.c (text_of c.in_ok-text.text) c.in_ok-bytes.bytes.items c.requires.before (omega (arith, bounds.0)) bounds.1 c.requires.few
    (omega (arith, c.len.ensures, c.in_ok-text.text.head.bytes.ok.0, ap length c.in_ok-text.ensures.head)) c.in_ok-text.ensures.text c.in_ok-bytes.ensures).1
