use Rattle.std.proofs.Common.{◌∙◌, arith}
use Rattle.plain_image.proofs.Bytes.{pixels_more}
use Rattle.plain_image.proofs.ready_line.ReadyLine.lengthen.Goals as goal

pub invariant_of-self : goal.invariant_of-self
invariant_of-self c = c.in-Ok.ensures ∙ pixels_more c.self.inside.count c.args.count c.self.inside.colour c.self.inside.bytes.items (omega (arith, c.if-count-self.false)) c.self.invariant
