use Rattle.load_command.proofs.Stepping.{expired}
use Rattle.load_command.proofs.steps.expire_marked.Goals as goal

pub returns-then-step-clause-grows : goal.returns-then-step-clause-grows
returns-then-step-clause-grows g c = λ told h s. expired _ told c.args.step _ h _ c.if-step.true (c.expire.ensures.step told h s)
