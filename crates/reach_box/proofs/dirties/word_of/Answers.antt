use Rattle.std.proofs.Common.{◌==◌, length, refl, ap, arith}
use Rattle.std.proofs.lemmas.Option.{slice_get_read}
use Rattle.farm_plan.specs.Plans.{MapPlan}
use Rattle.reach_box.proofs.Dirtied.{no_sized, sized_more, sized_all}
use Rattle.reach_box.proofs.dirties.word_of.Goals as goal

pub loop-place-init : goal.loop-place-init
loop-place-init c = no_sized c.args.maps.now c.args.size

pub loop-place-preserved : goal.loop-place-preserved
loop-place-preserved c =
    sized_more c.args.maps.now c.args.size c.loop-place.place c.index-maps-place.result c.loop-place.word c.bit_if-word.result (c.plan.inside.tile == c.args.size)
    (slice_get_read c.args.maps.now (length c.args.maps.now) c.loop-place.place c.index-maps-place.result refl c.loop-place-test.true c.index-maps-place.is)
    (ap (λ (mp : MapPlan). mp.tile == c.args.size) c.plan.view_is) c.loop-place.invariant c.bit_if-word.ensures

pub returns : goal.returns
returns c = sized_all c.args.maps.now c.args.size c.loop-place.place c.loop-place.word (omega arith) c.loop-place.invariant
