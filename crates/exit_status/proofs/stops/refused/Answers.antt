use Rattle.std.proofs.Common.{ap, ◌∙◌, inr, append_assoc}
use Rattle.exit_status.specs.declared.stops.Stop.TheVariants.{Refused}
use Rattle.exit_status.proofs.stops.refused.Goals as goal

pub returns-in-Ok : goal.returns-in-Ok
returns-in-Ok c = inr (ap Refused (c.from_string.ensures ∙ c.in-Ok.ensures.ok ∙ simp append_assoc))
