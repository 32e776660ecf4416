use Rattle.std.proofs.Common.{arith, sym}
use Rattle.data_versions.proofs.Standing.{in_slots, knows_removed, removed_is, fewer_standing, one_has, none_has}
use Rattle.data_versions.proofs.edit.LayerEdit.remove.Goals as goal

pub set-requires : goal.set-requires
set-requires c = in_slots c.self.inside.slots.slots c.in-Some.place c.args.id c.in-Some.ensures.found

pub overflow_sub-self : goal.overflow_sub-self
overflow_sub-self c = omega (arith, c.self.invariant.1, fewer_standing c.self.inside.slots.slots c.args.id c.in-Some.place c.in-Some.ensures.found)

pub invariant_of-self-in-Some : goal.invariant_of-self-in-Some
invariant_of-self-in-Some c =
    let here = c.in-Some.ensures.found in
    rw c.in_ok-set-in-Some.ensures.done (
      knows_removed c.self.inside.places c.remove.new.self c.self.inside.finder.features c.self.inside.slots.slots c.args.id c.in-Some.place
          c.self.invariant.0 here c.remove.ensures.updates,
      omega (arith, c.self.invariant.1, fewer_standing c.self.inside.slots.slots c.args.id c.in-Some.place here),
      omega (arith, c.self.invariant.2),
      c.self.invariant.3,
    )

pub returns-in_ok-set-in-Some-clause-found : goal.returns-in_ok-set-in-Some-clause-found
returns-in_ok-set-in-Some-clause-found c =
    rw (← c.self.view_is) (sym (one_has c.self.inside.slots.slots c.args.id c.in-Some.place c.in-Some.ensures.found))

pub returns-in_ok-set-in-Some-clause-gone : goal.returns-in_ok-set-in-Some-clause-gone
returns-in_ok-set-in-Some-clause-gone c =
    λ _. rw (← c.self.view_is, c.in_ok-set-in-Some.ensures.done) (removed_is c.self.inside.slots.slots c.args.id c.in-Some.place (c.self.invariant.0.one c.args.id) c.in-Some.ensures.found)

pub returns-in-None-clause-found : goal.returns-in-None-clause-found
returns-in-None-clause-found c =
    rw (← c.self.view_is) (sym (none_has c.self.inside.slots.slots c.args.id (c.slot_of.ensures.none c.in-None.is)))
