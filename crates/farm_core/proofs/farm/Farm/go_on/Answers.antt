use Rattle.std.proofs.Common.{◌<◌, sym, subst}
use Rattle.std.specs.Vec.{vec_capacity}
use Rattle.farm_refinement.specs.Seen.{FarmSeen}
use Rattle.farm_core.specs.inner.Effects.{IsNext, own_of}
use Rattle.farm_core.proofs.Rooms.{room_advance}
use Rattle.farm_core.proofs.farm.Farm.go_on.Goals as goal

pub invariant_of-self-2 : goal.invariant_of-self-2
invariant_of-self-2 g c =
    let next = subst (λ (f : FarmSeen g.row.D.Denot). IsNext (own_of f) c.args.next.own.data_now c.args.next.own c.args.next.spares.items (vec_capacity c.args.next.spares)) (sym c.self.view_is) c.requires.next in
    let more = subst (λ (f : FarmSeen g.row.D.Denot). f.counts.version < f.counts.turns) (sym c.self.view_is) c.requires.more in
    room_advance _ _ _ _ _ _ _ _ _ _ _ c.self.invariant next more
