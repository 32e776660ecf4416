use Rattle.std.proofs.Common.{rules, ◌≡◌, ◌∙◌, sym, Some}
use Rattle.render_queues.specs.declared.standing.Standing.TheVariants.{Waits as InLine, Taken}
use Rattle.render_queues.specs.Tables.{standing}
use Rattle.farm_core.proofs.Standing.{taken_place, line_place}
use Rattle.farm_core.proofs.asks.place_of.Goals as goal

pub returns-in-Some-Taken-clause-waits : goal.returns-in-Some-Taken-clause-waits
returns-in-Some-Taken-clause-waits c = let e : standing c.args.queues.now c.args.key ≡ Some Taken = search rules in sym (taken_place _ _ c.law_sound.ensures e).1

pub returns-in-Some-Taken-clause-in_dirty : goal.returns-in-Some-Taken-clause-in_dirty
returns-in-Some-Taken-clause-in_dirty c = let e : standing c.args.queues.now c.args.key ≡ Some Taken = search rules in sym (taken_place _ _ c.law_sound.ensures e).2

pub returns-in-Some-Taken-clause-in_bulk : goal.returns-in-Some-Taken-clause-in_bulk
returns-in-Some-Taken-clause-in_bulk c = let e : standing c.args.queues.now c.args.key ≡ Some Taken = search rules in sym (taken_place _ _ c.law_sound.ensures e).3

pub returns-in-Some-Waits-clause-in_dirty : goal.returns-in-Some-Waits-clause-in_dirty
returns-in-Some-Waits-clause-in_dirty c =
    let e : standing c.args.queues.now c.args.key ≡ Some (InLine c.in-Some-Waits.queue) = search rules in
    c.is_dirty.ensures ∙ sym (line_place _ _ _ c.law_sound.ensures e).2

pub returns-in-Some-Waits-clause-in_bulk : goal.returns-in-Some-Waits-clause-in_bulk
returns-in-Some-Waits-clause-in_bulk c =
    let e : standing c.args.queues.now c.args.key ≡ Some (InLine c.in-Some-Waits.queue) = search rules in
    c.is_bulk.ensures ∙ sym (line_place _ _ _ c.law_sound.ensures e).3
