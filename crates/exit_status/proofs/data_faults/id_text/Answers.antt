use Rattle.std.proofs.Common.{◌∙◌, append_assoc}
use Rattle.exit_status.proofs.data_faults.id_text.Goals as goal

pub returns : goal.returns
returns c = c.from_string.ensures ∙ c.in_ok-format.ensures.ok ∙ simp append_assoc
