use Rattle.std.proofs.Common.{◌≡◌, append_assoc}
use Rattle.std.specs.Prelude.{string_bytes}
use Rattle.std.proofs.lemmas.Result.{IfOk-weaker}
use Rattle.load_command.specs.Loads.{load_text}
use Rattle.load_command.proofs.Summing.{line_told}
use Rattle.load_command.proofs.totals.Totals.line.Goals as goal

pub returns : goal.returns
returns c = λ count h tells.
    IfOk-weaker c.format.result _ (λ s. string_bytes s ≡ load_text c.args.features h)
    (λ s e. line_told c.args.self count h c.args.features (string_bytes s) tells (simp append_assoc e)) c.format.ensures.ok
