use Rattle.std.proofs.Common.{sym, ◌∙◌}
use Rattle.data_versions.proofs.Standing.{in_slots, knows_replaced, replaced_is, same_standing, one_has, none_has}
use Rattle.data_versions.proofs.edit.LayerEdit.replace.Goals as goal

pub set-requires : goal.set-requires
set-requires c = in_slots c.self.inside.slots.slots c.in-Some.place c.args.feature.now.id (rw c.id.ensures at c.in-Some.ensures.found)

pub invariant_of-self-in-Some : goal.invariant_of-self-in-Some
invariant_of-self-in-Some c =
    let here = rw c.id.ensures at c.in-Some.ensures.found in
    rw c.in_ok-set-in-Some.ensures.done (
      knows_replaced c.self.inside.places c.self.inside.finder.features c.self.inside.slots.slots c.args.feature.now c.in-Some.place c.self.invariant.0 here,
      rw (replaced_is c.self.inside.slots.slots c.args.feature.now c.in-Some.place (c.self.invariant.0.one c.args.feature.now.id) here)
          (c.self.invariant.1 ∙ sym (same_standing c.args.feature.now _)),
      c.self.invariant.2,
      c.self.invariant.3,
    )

pub returns-in_ok-set-in-Some-clause-found : goal.returns-in_ok-set-in-Some-clause-found
returns-in_ok-set-in-Some-clause-found c =
    rw (← c.self.view_is) (sym (one_has c.self.inside.slots.slots c.args.feature.now.id c.in-Some.place (rw c.id.ensures at c.in-Some.ensures.found)))

pub returns-in_ok-set-in-Some-clause-done : goal.returns-in_ok-set-in-Some-clause-done
returns-in_ok-set-in-Some-clause-done c =
    λ _. rw (← c.self.view_is, c.in_ok-set-in-Some.ensures.done) (replaced_is c.self.inside.slots.slots c.args.feature.now c.in-Some.place (c.self.invariant.0.one c.args.feature.now.id)
    (rw c.id.ensures at c.in-Some.ensures.found))

pub returns-in-None-clause-found : goal.returns-in-None-clause-found
returns-in-None-clause-found c =
    let none = rw c.id.ensures at c.slot_of.ensures.none c.in-None.is in
    rw (← c.self.view_is) (sym (none_has c.self.inside.slots.slots c.args.feature.now.id none))
