use Rattle.std.proofs.Common.{◌∙◌, refl, sym}
use Rattle.std.specs.Prelude.{false, codes}
use Rattle.script_lines.specs.declared.script.ScriptLine.TheVariants as line
use Rattle.script_text.specs.ScriptTexts.{HasNone}
use Rattle.script_text.specs.inner.Hands.{tickets}
use Rattle.script_text.proofs.Entering.{answered_none, answered_end}
use Rattle.script_text.proofs.Holding.{not_in_hand, none_taken, in_hand, taken_flies}
use Rattle.script_text.proofs.Saying.{none_said, line_said}
use Rattle.script_text.proofs.hands.cut.Goals as goal

pub returns-in-None-clause-step : goal.returns-in-None-clause-step
returns-in-None-clause-step g c = λ told h s hand.
    answered_none _ _ _ _ _ _ _ _ _
    (none_said _ _ (codes "nojob\n") (HasNone (tickets c.args.hand.now.items) (line.Cut c.args.ticket)) c.said.ensures c.of.ensures
    (λ said is. (not_in_hand c.args.hand.now.items c.args.ticket (sym c.in-None.ensures.found), is)))
    (c.in-None.ensures.left ∙ none_taken c.args.hand.now.items c.args.ticket (sym c.in-None.ensures.found)) hand s

pub finish-requires-clause-flight : goal.finish-requires-clause-flight
finish-requires-clause-flight g c =
    (c.requires.stands.0, c.requires.stands.1, c.requires.stands.2, taken_flies _ c.requires.stands.1 _ c.args.ticket _ (sym c.in-Some.ensures.found) c.requires.stands.3)

pub returns-clause-step : goal.returns-clause-step
returns-clause-step g c = λ told h s hand.
    answered_end _ _ _ _ _ c.args.ticket false c.finish.result c.in-Some.job _ _ _ _ (in_hand c.args.hand.now.items c.args.ticket c.in-Some.job (sym c.in-Some.ensures.found)) (c.finish.result, refl)
    (sym c.in-Some.ensures.found) c.in-Some.ensures.left hand (c.finish.ensures.step told h s (taken_flies _ h _ c.args.ticket _ (sym c.in-Some.ensures.found) hand))
    (line_said _ _ _ _ _ _ c.said-2.ensures refl refl c.of-2.ensures)
