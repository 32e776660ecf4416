use Rattle.std.proofs.Common.{rules, ◌∙◌, ◌≡◌, sym, Some, None}
use Rattle.std.specs.List.{position}
use Rattle.render_queues.proofs.Ends.{first_none, no_place, found_there, left_there}
use Rattle.script_text.proofs.Holding.{of_ticket}
use Rattle.script_text.proofs.hands.take_job.Goals as goal

pub returns-in_err-place-clause-found : goal.returns-in_err-place-clause-found
returns-in_err-place-clause-found c =
    let place : position (of_ticket c.args.ticket) c.args.hand.now.items ≡ None = search rules in
    let none : c.from_residual.result ≡ None = search rules in
    none ∙ sym (first_none (of_ticket c.args.ticket) c.args.hand.now.items (no_place (of_ticket c.args.ticket) c.args.hand.now.items place)).0

pub returns-in_err-place-clause-left : goal.returns-in_err-place-clause-left
returns-in_err-place-clause-left c =
    let place : position (of_ticket c.args.ticket) c.args.hand.now.items ≡ None = search rules in
    sym (first_none (of_ticket c.args.ticket) c.args.hand.now.items (no_place (of_ticket c.args.ticket) c.args.hand.now.items place)).1

pub returns-clause-found : goal.returns-clause-found
returns-clause-found c =
    let place : position (of_ticket c.args.ticket) c.args.hand.now.items ≡ Some c.in_ok-place.place = search rules in
    sym (found_there (of_ticket c.args.ticket) c.args.hand.now.items c.in_ok-place.place c.remove.result place c.remove.ensures.value)

pub returns-clause-left : goal.returns-clause-left
returns-clause-left c =
    let place : position (of_ticket c.args.ticket) c.args.hand.now.items ≡ Some c.in_ok-place.place = search rules in
    c.remove.ensures.items ∙ left_there (of_ticket c.args.ticket) c.args.hand.now.items c.in_ok-place.place place
