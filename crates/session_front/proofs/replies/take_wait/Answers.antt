use Rattle.std.proofs.Common.{rules, ◌∙◌, ◌≡◌, ap, sym, Some, None}
use Rattle.std.specs.Prelude.{option_map}
use Rattle.std.specs.List.{position}
use Rattle.render_queues.proofs.Ends.{first_none, no_place, found_there, left_there}
use Rattle.session_front.specs.inner.Reads.{pair_of, pairs}
use Rattle.session_front.proofs.Takes.{of_ask, find_pairs, left_pairs}
use Rattle.session_front.proofs.replies.take_wait.Goals as goal

pub returns-in_err-place-clause-found : goal.returns-in_err-place-clause-found
returns-in_err-place-clause-found c =
    let place : position (of_ask c.args.ask) c.args.waits.now.items ≡ None = search rules in
    let none : c.from_residual.result ≡ None = search rules in
    ap (option_map pair_of) (none ∙ sym (first_none (of_ask c.args.ask) c.args.waits.now.items (no_place (of_ask c.args.ask) c.args.waits.now.items place)).0) ∙ find_pairs c.args.ask c.args.waits.now.items

pub returns-in_err-place-clause-left : goal.returns-in_err-place-clause-left
returns-in_err-place-clause-left c =
    let place : position (of_ask c.args.ask) c.args.waits.now.items ≡ None = search rules in
    ap pairs (sym (first_none (of_ask c.args.ask) c.args.waits.now.items (no_place (of_ask c.args.ask) c.args.waits.now.items place)).1) ∙ left_pairs c.args.ask c.args.waits.now.items

pub returns-clause-found : goal.returns-clause-found
returns-clause-found c =
    let place : position (of_ask c.args.ask) c.args.waits.now.items ≡ Some c.in_ok-place.place = search rules in
    ap (option_map pair_of) (sym (found_there (of_ask c.args.ask) c.args.waits.now.items c.in_ok-place.place c.remove.result place c.remove.ensures.value)) ∙ find_pairs c.args.ask c.args.waits.now.items

pub returns-clause-left : goal.returns-clause-left
returns-clause-left c =
    let place : position (of_ask c.args.ask) c.args.waits.now.items ≡ Some c.in_ok-place.place = search rules in
    ap pairs (c.remove.ensures.items ∙ left_there (of_ask c.args.ask) c.args.waits.now.items c.in_ok-place.place place) ∙ left_pairs c.args.ask c.args.waits.now.items
