use Rattle.std.proofs.Common.{arith, ap, length}
use Rattle.plain_image.proofs.Bytes.{length_written}
use Rattle.plain_image.proofs.image.Image.into_bytes.Goals as goal

pub returns-clause-len : goal.returns-clause-len
returns-clause-len c =
    rw (← c.self.view_is) (omega (arith, ap length c.into_bytes.ensures, length_written c.self.inside.pixels, c.self.invariant.count_is))
