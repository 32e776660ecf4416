use Rattle.std.proofs.Common.{refl, arith}
use Rattle.plain_image.proofs.Bytes.{byte_count, there_bytes}
use Rattle.plain_image.proofs.blending.colour_at.Goals as goal

pub bounds-bytes-k : goal.bounds-bytes-k
bounds-bytes-k c = omega (arith, byte_count c.args.bytes.now _ refl c.requires.kept, c.requires.inside)

pub bounds-bytes-k-2 : goal.bounds-bytes-k-2
bounds-bytes-k-2 c = omega (arith, byte_count c.args.bytes.now _ refl c.requires.kept, c.requires.inside)

pub bounds-bytes-k-3 : goal.bounds-bytes-k-3
bounds-bytes-k-3 c = omega (arith, byte_count c.args.bytes.now _ refl c.requires.kept, c.requires.inside)

pub returns : goal.returns
returns c = there_bytes c.args.k c.args.bytes.now c.requires.kept c.requires.inside
