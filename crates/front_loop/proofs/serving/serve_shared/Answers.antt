use Rattle.std.proofs.Common.{ap}
use Rattle.farm_shared.specs.Seats.{plain}
use Rattle.front_loop.proofs.serving.serve_shared.Goals as goal

pub serve-requires-clause-seat : goal.serve-requires-clause-seat
serve-requires-clause-seat g c = (c.requires.seat, c.requires.known)

pub serve-requires-clause-fresh : goal.serve-requires-clause-fresh
serve-requires-clause-fresh g c = ap plain c.requires.fresh

pub returns-clause-same : goal.returns-clause-same
returns-clause-same g c =
    let same = c.serve.ensures.seat in
    (same.number, ap (λ p. p.first) same.place, ap (λ p. p.splits) same.place, ap (λ p. p.joined) same.place)
