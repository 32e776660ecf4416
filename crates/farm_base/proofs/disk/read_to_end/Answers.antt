use Rattle.std.proofs.Common.{◌≡◌, IfSome, subst, arith}
use Rattle.farm_base.proofs.Reading.{read_whole}
use Rattle.farm_base.proofs.disk.read_to_end.Goals as goal

pub returns-in-Ok-clause-whole : goal.returns-in-Ok-clause-whole
returns-in-Ok-clause-whole g c =
    subst (λ from. IfSome (g.F.Read.remaining from) (λ bytes. c.read_to_end.new.buf.items ≡ bytes)) c.take.ensures.inner
    (read_whole (g.F.Read.remaining c.take.result.inner) c.take.result.limit c.args.most c.new-bytes.result.items c.read_to_end.new.buf.items
    c.new-bytes.ensures.items (omega (arith, c.take.ensures.limit, c.from.ensures)) c.in-Ok.ensures.bytes
    (omega (arith, c.if-len-most.true, c.len.ensures)))
