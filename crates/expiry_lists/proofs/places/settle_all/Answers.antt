use Rattle.std.proofs.Common.{length, refl, ap, sym, ◌∙◌, arith, subst}
use Rattle.std.specs.List.{IsDistinct}
use Rattle.std.specs.Map.{keys_of}
use Rattle.std.proofs.lemmas.Map.Entries.{length-keys_of}
use Rattle.farm_history.specs.Plans.{same_key}
use Rattle.expiry_lists.proofs.Placing.{key_at_place}
use Rattle.expiry_lists.proofs.Settling.{value_at, place_at, walks_no_place, walks_place, walks_places}
use Rattle.expiry_lists.proofs.Walked.{walks_few}
use Rattle.expiry_lists.proofs.places.settle_all.Goals as goal

pub loop-i-init : goal.loop-i-init
loop-i-init c = record { walks = walks_no_place c.args.nodes.now c.requires; places = refl }

pub spot_at-requires : goal.spot_at-requires
spot_at-requires c =
    omega (arith, c.loop-i-test.true, c.spots-i-end.ensures.len, ap length c.loop-i.invariant.places, length-keys_of c.loop-i.nodes.spots, length-keys_of c.args.nodes.now.spots)

pub mark_spot_dirty-count-requires-clause-tree : goal.mark_spot_dirty-count-requires-clause-tree
mark_spot_dirty-count-requires-clause-tree c = c.loop-i.invariant.walks.tree

pub mark_spot_dirty-count-requires-clause-at : goal.mark_spot_dirty-count-requires-clause-at
mark_spot_dirty-count-requires-clause-at c = place_at c.loop-i.nodes.spots c.loop-i.i c.spot_at.result.0 c.spot_at.result.1 (subst (λ ks. IsDistinct same_key ks) (sym c.loop-i.invariant.places) c.spots-i-end.ensures.unique) c.spot_at.ensures

pub mark_spot_dirty-count-requires-clause-found : goal.mark_spot_dirty-count-requires-clause-found
mark_spot_dirty-count-requires-clause-found c = value_at c.loop-i.nodes.spots c.loop-i.i c.spot_at.result.0 c.spot_at.result.1 (subst (λ ks. IsDistinct same_key ks) (sym c.loop-i.invariant.places) c.spots-i-end.ensures.unique) c.spot_at.ensures

pub overflow_add-count : goal.overflow_add-count
overflow_add-count c =
    let ps = c.args.nodes.now.spots in
    let both = walks_place (keys_of ps) (keys_of c.loop-i.nodes.spots) c.loop-i.i c.spot_at.result.0 c.loop-i.invariant.places (omega (arith, c.loop-i-test.true, c.spots-i-end.ensures.len, length-keys_of ps))
    (key_at_place c.loop-i.nodes.spots c.loop-i.i c.spot_at.result.0 c.spot_at.result.1 c.spot_at.ensures) c.loop-i.invariant.walks c.mark_spot_dirty-count.ensures.walks in
    omega (arith, walks_few both, c.len-nodes.ensures.small, c.len-nodes.ensures.len)

pub loop-i-preserved : goal.loop-i-preserved
loop-i-preserved c =
    let ps = c.args.nodes.now.spots in
    record {
      walks = walks_place (keys_of ps) (keys_of c.loop-i.nodes.spots) c.loop-i.i c.spot_at.result.0 c.loop-i.invariant.places (omega (arith, c.loop-i-test.true, c.spots-i-end.ensures.len, length-keys_of ps))
          (key_at_place c.loop-i.nodes.spots c.loop-i.i c.spot_at.result.0 c.spot_at.result.1 c.spot_at.ensures) c.loop-i.invariant.walks c.mark_spot_dirty-count.ensures.walks;
      places = c.mark_spot_dirty-count.ensures.places ∙ c.loop-i.invariant.places;
    }

pub returns : goal.returns
returns c = record {
  walks = walks_places c.args.nodes.now c.loop-i.nodes c.loop-i.i c.loop-i.count c.len-nodes.ensures.unique c.requires (omega (arith, c.loop-i-test.false, c.spots-i-end.ensures.len)) c.loop-i.invariant.walks;
}
