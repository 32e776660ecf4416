use Rattle.std.proofs.Common.{Some, ap, ◌∙◌, refl, arith}
use Rattle.farm_shared.proofs.Names.{named_more, named_all}
use Rattle.farm_shared.proofs.shared.names_of.Goals as goal

pub loop-place-preserved : goal.loop-place-preserved
loop-place-preserved g c =
    let lt = c.loop-place-test.true in
    let few = c.maps-place-end.ensures in
    c.in_ok-push.ensures.items ∙ named_more _ _ _ c.loop-place.place _ refl (omega arith) c.loop-place.invariant (ap Some c.in_ok-of.ensures ∙ c.map_name.ensures)

pub returns : goal.returns
returns g c =
    let all = c.maps-place-end.ensures in
    let few = c.maps-place-end.type_inv in
    let low = c.loop-place.auto.place-end in
    let high = c.loop-place-test.false in
    named_all _ _ c.loop-place.place (omega arith) (omega arith) c.loop-place.invariant
