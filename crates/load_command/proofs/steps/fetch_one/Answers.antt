use Rattle.std.proofs.Common.{◌∙◌, ap}
use Rattle.std.specs.Prelude.{◌||◌, Bool}
use Rattle.load_command.proofs.Stepping.{fetched_one, unfetched}
use Rattle.load_command.proofs.steps.fetch_one.Goals as goal

pub returns-then-is_short-clause-grows : goal.returns-then-is_short-clause-grows
returns-then-is_short-clause-grows g c = λ told h s.
    unfetched _ told _ c.args.lost _ h c.fetch-fetched.result _ (c.is_short.ensures.yes c.if-is_short.true) (c.fetch-fetched.ensures.step told h s)

pub returns-clause-grows : goal.returns-clause-grows
returns-clause-grows g c = λ told h s.
    fetched_one _ told _ c.args.lost _ h _ (c.is_short.ensures.no c.if-is_short.false)
    (c.either-failed.ensures ∙ ap (λ (b : Bool). b || c.args.lost) c.is_failed_fetch.ensures) (c.fetch-fetched.ensures.step told h s)
