use Rattle.std.proofs.Common.{refl, ◌∷◌, []}
use Rattle.control_front.specs.declared.acts.Act.TheVariants as act
use Rattle.script_answers.specs.Answers.{tally_line, stop_line}
use Rattle.control_front.specs.Control as spec
use Rattle.control_front.proofs.Deeds.{did_at, did_worn}
use Rattle.control_front.proofs.Saying.{says_answer}
use Rattle.control_front.proofs.doing.do_line.Goals as goal

pub returns-in_default-clause-did : goal.returns-in_default-clause-did
returns-in_default-clause-did g c = λ front conn. did_worn front c.args.context.now.front.now.lists.now conn (c.args.line ∷ []) _ _ _ _ c.in_default.ensures.takes.0

pub returns-in_default-turn-clause-did : goal.returns-in_default-turn-clause-did
returns-in_default-turn-clause-did g c = λ front conn. did_worn front c.args.context.now.front.now.lists.now conn (c.args.line ∷ []) _ _ _ _ c.in_default-turn.ensures.takes.0

pub returns-in_default-turn-2-clause-did : goal.returns-in_default-turn-2-clause-did
returns-in_default-turn-2-clause-did g c = λ front conn. did_worn front c.args.context.now.front.now.lists.now conn (c.args.line ∷ []) _ _ _ _ c.in_default-turn-2.ensures.takes.0

pub returns-in_default-turn-3-clause-did : goal.returns-in_default-turn-3-clause-did
returns-in_default-turn-3-clause-did g c = λ front conn. did_worn front c.args.context.now.front.now.lists.now conn (c.args.line ∷ []) _ _ _ _ c.in_default-turn-3.ensures.takes.0

pub returns-in_default-turn-4-clause-did : goal.returns-in_default-turn-4-clause-did
returns-in_default-turn-4-clause-did g c = λ front conn. did_worn front c.args.context.now.front.now.lists.now conn (c.args.line ∷ []) _ _ _ _ c.in_default-turn-4.ensures.takes.0

pub returns-in-Ok-clause-did : goal.returns-in-Ok-clause-did
returns-in-Ok-clause-did g c = λ front conn.
    let a = act.Updates c.in-Update.number c.in-Ok.answer in
    did_at front c.args.context.now.front.now.lists.now conn c.args.line a _ _ _ _ c.say_update.result c.in-Update.is refl refl c.in-Ok.ensures.takes
    (c.say_update.ensures c.args.context.now.front.now.lists.now c.in-Update.number)

pub returns-in-Ok-turn-clause-did : goal.returns-in-Ok-turn-clause-did
returns-in-Ok-turn-clause-did g c = λ front conn.
    let a = act.Restyles c.in-Restyle.number c.in-Ok-turn.answer in
    did_at front c.args.context.now.front.now.lists.now conn c.args.line a _ _ _ _ c.say_restyle.result c.in-Restyle.is refl refl c.in-Ok-turn.ensures.takes
    (says_answer c.args.context.now.front.now.lists.now a (spec.restyle_text c.in-Ok-turn.answer) _ _ c.say_restyle.result refl refl c.say_restyle.ensures)

pub returns-in-Ok-turn-2-clause-did : goal.returns-in-Ok-turn-2-clause-did
returns-in-Ok-turn-2-clause-did g c = λ front conn.
    let a = act.Renews c.in-Renew.number c.in-Ok-turn-2.answer in
    did_at front c.args.context.now.front.now.lists.now conn c.args.line a _ _ _ _ c.say_renew.result c.in-Renew.is refl refl c.in-Ok-turn-2.ensures.takes
    (c.say_renew.ensures c.args.context.now.front.now.lists.now c.in-Renew.number)

pub returns-in-Ok-turn-3-clause-did : goal.returns-in-Ok-turn-3-clause-did
returns-in-Ok-turn-3-clause-did g c = λ front conn.
    let a = act.Counts c.in-Ok-turn-3.totals in
    did_at front c.args.context.now.front.now.lists.now conn c.args.line a _ _ _ _ c.say_tally.result c.in-Stats.is refl refl c.in-Ok-turn-3.ensures.takes
    (says_answer c.args.context.now.front.now.lists.now a (tally_line c.in-Ok-turn-3.totals) _ _ c.say_tally.result refl refl c.say_tally.ensures)

pub returns-in-Ok-turn-4-clause-did : goal.returns-in-Ok-turn-4-clause-did
returns-in-Ok-turn-4-clause-did g c = λ front conn.
    let a = act.Stops in
    did_at front c.args.context.now.front.now.lists.now conn c.args.line a _ _ _ _ c.say.result c.in-Stop.is refl refl c.in-Ok-turn-4.ensures.takes
    (says_answer c.args.context.now.front.now.lists.now a stop_line _ _ c.say.result refl refl c.say.ensures)
