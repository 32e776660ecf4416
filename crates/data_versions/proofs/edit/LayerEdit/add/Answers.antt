use Rattle.std.proofs.Common.{arith}
use Rattle.data_versions.proofs.Standing.{knows_same, knows_undone, knows_added, added_is, added_count, unheld}
use Rattle.data_versions.proofs.edit.LayerEdit.add.Goals as goal

pub invariant_of-self : goal.invariant_of-self
invariant_of-self c = (
  knows_same c.self.inside.places c.insert.new.self c.self.inside.finder.features c.self.inside.slots.slots c.self.invariant.0 c.in_err-insert.ensures.err,
  c.self.invariant.1,
  c.self.invariant.2,
  c.self.invariant.3,
)

pub overflow_add-self : goal.overflow_add-self
overflow_add-self c = omega (arith, c.self.invariant.1, rw (← c.self.view_is) at c.requires.room)

pub invariant_of-self-in-Ok : goal.invariant_of-self-in-Ok
invariant_of-self-in-Ok c =
    let fresh = rw (← c.self.view_is) at c.requires.fresh in
    rw c.in-Ok.ensures.done (
      knows_added c.self.inside.places c.insert.new.self c.self.inside.finder.features c.self.inside.slots.slots c.args.feature.now c.self.invariant.0
          (unheld c.self.inside.slots.slots c.args.feature.now.id fresh)
          (rw (c.id-id.ensures, c.next_number-place.ensures) at c.in_ok-insert.ensures.updates),
      added_count c.self.inside.slots.slots c.args.feature.now c.self.inside.count c.self.invariant.1,
      omega (arith, c.self.invariant.1, rw (← c.self.view_is) at c.requires.room),
      c.self.invariant.3,
    )

pub invariant_of-self-in-Err : goal.invariant_of-self-in-Err
invariant_of-self-in-Err c =
    let fresh = rw (← c.self.view_is) at c.requires.fresh in
    rw c.in-Err.ensures.same (
      knows_undone c.self.inside.places c.insert.new.self c.remove.new.self c.self.inside.finder.features c.self.inside.slots.slots c.id-id.result _ c.self.invariant.0
          (rw c.id-id.ensures (unheld c.self.inside.slots.slots c.args.feature.now.id fresh))
          c.in_ok-insert.ensures.updates c.remove.ensures.updates,
      c.self.invariant.1,
      c.self.invariant.2,
      c.self.invariant.3,
    )

pub returns-in-Ok : goal.returns-in-Ok
returns-in-Ok c = rw (← c.self.view_is, c.in-Ok.ensures.done) (added_is c.self.inside.slots.slots c.args.feature.now)
