use Rattle.std.proofs.Common.{◌*◌, ◌+◌, set, refl, arith}
use Rattle.std.proofs.lemmas.List.{length-set}
use Rattle.plain_image.proofs.Bytes.{byte_count, put_bytes}
use Rattle.plain_image.proofs.blending.put_colour.Goals as goal

pub bounds-bytes-k : goal.bounds-bytes-k
bounds-bytes-k c = omega (arith, byte_count c.args.bytes.now _ refl c.requires.kept, c.requires.inside)

pub bounds-bytes-k-2 : goal.bounds-bytes-k-2
bounds-bytes-k-2 c = omega (arith, byte_count c.args.bytes.now _ refl c.requires.kept, c.requires.inside, length-set c.args.bytes.now (c.args.k * 3) c.args.c.r)

pub bounds-bytes-k-3 : goal.bounds-bytes-k-3
bounds-bytes-k-3 c =
    omega (
      arith,
      byte_count c.args.bytes.now _ refl c.requires.kept,
      c.requires.inside,
      length-set c.args.bytes.now (c.args.k * 3) c.args.c.r,
      length-set (set c.args.bytes.now (c.args.k * 3) c.args.c.r) (c.args.k * 3 + 1) c.args.c.g,
    )

pub returns : goal.returns
returns c = put_bytes c.args.k c.args.c c.args.bytes.now _ c.requires.kept refl
