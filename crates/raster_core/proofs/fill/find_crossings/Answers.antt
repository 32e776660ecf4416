use Rattle.std.proofs.Common.{arith}
use Rattle.raster_core.proofs.Filling.{crossings_found}
use Rattle.raster_core.proofs.fill.find_crossings.Goals as goal

pub cross_rings-requires-clause-inside : goal.cross_rings-requires-clause-inside
cross_rings-requires-clause-inside c = rw c.clear.ensures.items (λ k d within. absurd (omega arith))

pub put_in_order-requires-clause-inside : goal.put_in_order-requires-clause-inside
put_in_order-requires-clause-inside c =
    c.in_ok-list_corners.ensures.inside (c.in_ok-cross_rings.ensures.inside (rw c.clear.ensures.items (λ k d within. absurd (omega arith))))

pub returns : goal.returns
returns c =
    crossings_found _ _ _ _ _ _ c.put_in_order.result c.clear.ensures.items c.clear-2.ensures.items c.in_ok-cross_rings.ensures c.in_ok-list_corners.ensures
    c.put_in_order.ensures.inside c.put_in_order.ensures.order c.put_in_order.ensures.parity
