use Rattle.std.proofs.Common.{rules, tests, ◌∙◌, ◌≡◌, sym, None, position}
use Rattle.std.proofs.lemmas.Iterator.{YieldsList-from_slice}
use Rattle.std.proofs.lemmas.Iterator.Search.{position_from_yields_List}
use Rattle.render_queues.specs.Tables.{is_of_front}
use Rattle.render_queues.proofs.Ends.{first_none, no_place, found_there, left_there}
use Rattle.render_queues.proofs.replies.first_reply.Goals as goal
use Rattle.render_queues.proofs.replies.first_reply.Goals.{After-position}

found : (c : After-position) → c.position.result ≡ position (is_of_front c.args.front) c.args.ended.now.items
found c = position_from_yields_List (is_of_front c.args.front) _ _ c.position.result c.position.ensures.ran (YieldsList-from_slice c.args.ended.now.items cc) (λ x b q k. search (rules, tests))

pub returns-in_err-place-clause-first : goal.returns-in_err-place-clause-first
returns-in_err-place-clause-first c =
    let none : c.from_residual.result ≡ None = search rules in
    none ∙ sym (first_none (is_of_front c.args.front) c.args.ended.now.items (no_place (is_of_front c.args.front) c.args.ended.now.items (sym (found (goal.at.returns-in_err-place-clause-first c).After-position) ∙ c.in_err-place.was))).0

pub returns-in_err-place-clause-rest : goal.returns-in_err-place-clause-rest
returns-in_err-place-clause-rest c =
    sym (first_none (is_of_front c.args.front) c.args.ended.now.items (no_place (is_of_front c.args.front) c.args.ended.now.items (sym (found (goal.at.returns-in_err-place-clause-rest c).After-position) ∙ c.in_err-place.was))).1

pub returns-clause-first : goal.returns-clause-first
returns-clause-first c =
    sym (found_there (is_of_front c.args.front) c.args.ended.now.items c.in_ok-place.place c.remove.result (sym (found (goal.at.returns-clause-first c).After-position) ∙ c.in_ok-place.was) c.remove.ensures.value)

pub returns-clause-rest : goal.returns-clause-rest
returns-clause-rest c =
    c.remove.ensures.items ∙ left_there (is_of_front c.args.front) c.args.ended.now.items c.in_ok-place.place (sym (found (goal.at.returns-clause-rest c).After-position) ∙ c.in_ok-place.was)
