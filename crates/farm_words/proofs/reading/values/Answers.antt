use Rattle.std.proofs.Common.{◌≡◌, Err, ap}
use Rattle.std.proofs.lemmas.Result.{IfOk-weaker}
use Rattle.clap.specs.Words.{rows_of, found_of}
use Rattle.farm_words.specs.declared.command.WordsFault.{WordsFault}
use Rattle.farm_words.specs.declared.command.WordsFault.TheVariants.{Refused}
use Rattle.farm_words.proofs.PlainWords.{values_known, values_refused}
use Rattle.farm_words.proofs.reading.values.Goals as goal

pub returns-in-Ok-clause-ok : goal.returns-in-Ok-clause-ok
returns-in-Ok-clause-ok c =
    IfOk-weaker c.gathered.result _ _
    (λ v given. values_known _ (rows_of (found_of c.in-Ok.matches)) _ c.in-Ok.ensures.ok.0 c.in-Ok.ensures.ok.1 given)
    c.gathered.ensures.ok

pub returns-in-Err-clause-refused : goal.returns-in-Err-clause-refused
returns-in-Err-clause-refused c refused =
    let same : c.in-Err.fault ≡ Refused = cc in
    values_refused _ (c.in-Err.ensures.refused (ap (λ (f : WordsFault). Err f) same))
