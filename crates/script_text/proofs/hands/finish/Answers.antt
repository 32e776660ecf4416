use Rattle.std.proofs.Common.{◌∙◌, refl, sym}
use Rattle.std.specs.Prelude.{true, codes}
use Rattle.script_lines.specs.declared.script.ScriptLine.TheVariants as line
use Rattle.script_text.specs.ScriptTexts.{HasNone}
use Rattle.script_text.specs.inner.Hands.{tickets}
use Rattle.script_text.proofs.Entering.{answered_none, answered_end}
use Rattle.script_text.proofs.Holding.{not_in_hand, none_taken, in_hand, taken_flies, taken_valid}
use Rattle.script_text.proofs.Saying.{none_said, some_said, finish_failed}
use Rattle.script_text.proofs.hands.finish.Goals as goal

pub returns-in-None-clause-step : goal.returns-in-None-clause-step
returns-in-None-clause-step g c = λ told h s hand.
    answered_none _ _ _ _ _ _ _ _ _
    (none_said _ _ (codes "nojob\n") (HasNone (tickets c.args.hand.now.items) (line.Finish c.args.ticket)) c.said.ensures c.of.ensures
    (λ said is. (not_in_hand c.args.hand.now.items c.args.ticket (sym c.in-None.ensures.found), is)))
    (c.in-None.ensures.left ∙ none_taken c.args.hand.now.items c.args.ticket (sym c.in-None.ensures.found)) hand s

pub draw_job-requires : goal.draw_job-requires
draw_job-requires g c = taken_valid _ c.requires.stands.1 _ c.args.ticket _ (sym c.in-Some.ensures.found) c.requires.stands.3

pub finish-answer-requires-clause-flight : goal.finish-answer-requires-clause-flight
finish-answer-requires-clause-flight g c =
    (c.requires.stands.0, c.requires.stands.1, c.requires.stands.2, taken_flies _ c.requires.stands.1 _ c.args.ticket _ (sym c.in-Some.ensures.found) c.requires.stands.3)

pub returns-clause-step : goal.returns-clause-step
returns-clause-step g c = λ told h s hand.
    answered_end _ _ _ _ _ c.args.ticket true c.finish-answer.result c.in-Some.job _ _ _ _ (in_hand c.args.hand.now.items c.args.ticket c.in-Some.job (sym c.in-Some.ensures.found)) (c.finish-answer.result, refl)
    (sym c.in-Some.ensures.found) c.in-Some.ensures.left hand (c.finish-answer.ensures.step told h s (taken_flies _ h _ c.args.ticket _ (sym c.in-Some.ensures.found) hand))
    (some_said _ _ _ _ _ c.noted.ensures (c.is_failed_finish.ensures ∙ finish_failed c.args.ticket c.finish-answer.result) c.finish_line.ensures)
