use Rattle.std.proofs.Common.{◌≡◌, append_assoc}
use Rattle.std.specs.Prelude.{string_bytes}
use Rattle.std.proofs.lemmas.Result.{IfOk-weaker}
use Rattle.render_command.specs.inner.MetaLines.{entry_line}
use Rattle.render_command.proofs.meta_lines.entry_line.Goals as goal

pub returns : goal.returns
returns c = IfOk-weaker c.format.result _ (λ s. string_bytes s ≡ entry_line c.args.entry) (λ s e. simp append_assoc e) c.format.ensures.ok
