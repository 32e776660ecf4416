use Rattle.load_command.proofs.Stepping.{unclaimed, claimed_flies, undrawn, unended, drawn}
use Rattle.load_command.proofs.steps.draw_next.Goals as goal

pub returns-in_default : goal.returns-in_default
returns-in_default g c = record { grows = λ told h step s. unclaimed _ told step _ h c.claim.result c.in_default.not-Job (c.claim.ensures.step told h s); kept = c.claim.ensures.kept }

pub finish-answer-requires-clause-flight : goal.finish-answer-requires-clause-flight
finish-answer-requires-clause-flight g c =
    let told = c.requires.stands.0 in
    let h = c.requires.stands.1 in
    let s = c.requires.stands.2 in
    let after = c.in-Job.ensures.step told h s in
    (told, _, after, claimed_flies _ told _ _ h c.in-Job.job after c.in-Job.ensures.kept.plan (c.in-Job.ensures.carries told h s))

pub returns-in-Err-clause-grows : goal.returns-in-Err-clause-grows
returns-in-Err-clause-grows g c = λ told h step s. undrawn _ told step _ h c.in-Job.job _ (c.in-Job.ensures.step told h s)

pub returns-then-is_wanting-clause-grows : goal.returns-then-is_wanting-clause-grows
returns-then-is_wanting-clause-grows g c = λ told h step s.
    let after = c.in-Job.ensures.step told h s in
    unended _ told step _ h c.in-Job.job c.finish-answer.result _
    (c.finish-answer.ensures.step told _ after (claimed_flies _ told _ _ h c.in-Job.job after c.in-Job.ensures.kept.plan (c.in-Job.ensures.carries told h s)))

pub returns-clause-grows : goal.returns-clause-grows
returns-clause-grows g c = λ told h step s.
    let after = c.in-Job.ensures.step told h s in
    drawn _ told step _ h c.in-Job.job c.finish-answer.result _ (c.is_wanting.ensures.no c.if-is_wanting.false) c.is_failed_finish.ensures
    (c.finish-answer.ensures.step told _ after (claimed_flies _ told _ _ h c.in-Job.job after c.in-Job.ensures.kept.plan (c.in-Job.ensures.carries told h s)))
