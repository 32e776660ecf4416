use Rattle.std.proofs.Common.{arith}
use Rattle.plain_image.proofs.Bytes.{byte_count}
use Rattle.plain_image.proofs.colours.Colours.len.Goals as goal

pub returns : goal.returns
returns c = omega (arith, c.len.ensures, byte_count c.self.inside.bytes.items c.args.self.now c.self.view_is c.self.invariant)
