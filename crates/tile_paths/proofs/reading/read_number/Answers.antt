use Rattle.std.proofs.Common.{◌≡◌, Ok, Err, sym, ◌∙◌, arith}
use Rattle.std.proofs.lemmas.Fmt.{parse-decimal}
use Rattle.tile_paths.proofs.Numbers.{number_apart}
use Rattle.tile_paths.proofs.reading.read_number.Goals as goal

pub returns-in_default : goal.returns-in_default
returns-in_default c n rest h e =
    rw c.in_default.is at (number_apart c.args.end n c.args.text.now rest c.split_once.result c.split_once.ensures.cases c.requires h e)

pub returns-in-Ok : goal.returns-in-Ok
returns-in-Ok c n rest h e =
    let apart = rw c.in-Some.is at (number_apart c.args.end n c.args.text.now rest c.split_once.result c.split_once.ensures.cases c.requires h e) in
    let parsed : c.parse.result ≡ Ok n = parse-decimal 8 n c.in-Some.digits.now c.parse.result h (omega arith) apart.0 c.parse.ensures.value.0 in
    let same : Ok c.in-Ok.number ≡ Ok n = sym c.in-Ok.is ∙ parsed in
    ((cc), apart.1)

pub returns-in-Err : goal.returns-in-Err
returns-in-Err c n rest h e =
    let apart = rw c.in-Some.is at (number_apart c.args.end n c.args.text.now rest c.split_once.result c.split_once.ensures.cases c.requires h e) in
    let parsed : c.parse.result ≡ Ok n = parse-decimal 8 n c.in-Some.digits.now c.parse.result h (omega arith) apart.0 c.parse.ensures.value.0 in
    let apart : Err c.in-Err.field-0 ≡ Ok n = sym c.in-Err.is ∙ parsed in
    cc
