use Rattle.std.proofs.Common.{◌<◌, ◌≤◌, length, sym, ◌∙◌, arith, refl}
use Rattle.std.proofs.Math.ListN.{length-set}
use Rattle.front_loop.proofs.Tries.{offered_one, owes_none, owes_more, can_leave, rest_of_offer, open_of_offer}
use Rattle.front_loop.proofs.offering.offer_all.Goals as goal

pub loop-place-init : goal.loop-place-init
loop-place-init g c = record { goes = λ seat e stopped start h. h; count = omega arith; none = tt; many = refl }

pub offer_one-requires-clause-rest : goal.offer_one-requires-clause-rest
offer_one-requires-clause-rest g c =
    let many = c.loop-place.invariant.many in
    let small : c.loop-place.place < length c.loop-place.table.sessions.items = omega arith in
    let r = c.requires.ready in
    rest_of_offer (g.F.Front.rules c.args.work.now.front.now (g.M.Farm.map_at c.args.work.now.farm.now)) g.F.Front.knows r.1.0 r.1.1.0 r.1.1.1.0 _ c.loop-place.place c.index_mut.result.now
    (c.loop-place.invariant.goes r.0 r.1.0 r.1.1.0 r.1.1.1.0 r.1.1.1.1) (small, sym c.index_mut.ensures.value)

pub offer_one-requires-clause-open : goal.offer_one-requires-clause-open
offer_one-requires-clause-open g c =
    let many = c.loop-place.invariant.many in
    let small : c.loop-place.place < length c.loop-place.table.sessions.items = omega arith in
    let r = c.requires.ready in
    open_of_offer (g.F.Front.rules c.args.work.now.front.now (g.M.Farm.map_at c.args.work.now.farm.now)) g.F.Front.knows r.1.0 r.1.1.0 r.1.1.1.0 _ c.loop-place.place c.index_mut.result.now
    (c.loop-place.invariant.goes r.0 r.1.0 r.1.1.0 r.1.1.1.0 r.1.1.1.1) (small, sym c.index_mut.ensures.value)

pub loop-place-preserved : goal.loop-place-preserved
loop-place-preserved g c =
    let many = c.loop-place.invariant.many in
    let small : c.loop-place.place < length c.loop-place.table.sessions.items = omega arith in
    record {
      goes = λ seat e stopped start h. offered_one (g.F.Front.rules c.args.work.now.front.now (g.M.Farm.map_at c.args.work.now.farm.now)) g.F.Front.knows e stopped start (g.P.Ports.state c.offer_one.new.ports).told
          _ c.loop-place.place c.index_mut.result.now c.offer_one.new.session c.offer_one.new.outbox
          (c.loop-place.invariant.goes seat e stopped start h) (small, sym c.index_mut.ensures.value) c.offer_one.ensures.offers;
      count = let a = c.loop-place.invariant.count in
          let b = c.offer_one.ensures.count in
          omega (arith, a, b);
      none = owes_more c.loop-place.table.sessions.items c.loop-place.place c.offer_one.new.session small
          (owes_none (g.F.Front.rules c.args.work.now.front.now (g.M.Farm.map_at c.args.work.now.farm.now)) g.F.Front.knows c.index_mut.result.now c.offer_one.new.session c.loop-place.table.answers.outbox c.offer_one.new.outbox _ _ c.offer_one.ensures.offers) c.loop-place.invariant.none;
      many = length-set c.loop-place.table.sessions.items c.loop-place.place c.offer_one.new.session ∙ many;
    }

pub returns : goal.returns
returns g c =
    let many = c.loop-place.invariant.many in
    let all : length c.loop-place.table.sessions.items ≤ c.loop-place.place = omega arith in
    record {
      goes = λ seat e stopped start h. can_leave (g.F.Front.rules c.args.work.now.front.now (g.M.Farm.map_at c.args.work.now.farm.now)) g.F.Front.knows e stopped start
          _ c.loop-place.place (c.loop-place.invariant.goes seat e stopped start h) all c.loop-place.invariant.none;
      count = c.loop-place.invariant.count;
    }
