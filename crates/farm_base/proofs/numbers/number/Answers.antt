use Rattle.std.proofs.Common.{◌≡◌, ◌^◌, Ok, true, false, not, sym, ap, ◌∙◌, ◌<◌, rules}
use Rattle.std.specs.Fmt.{decimal}
use Rattle.std.specs.Str.{bytes_eq}
use Rattle.std.proofs.lemmas.Bool.{not-false}
use Rattle.std.proofs.lemmas.Slice.Eq.{bytes_eq-Decides}
use Rattle.std.proofs.lemmas.Fmt.{parse-decimal}
use Rattle.farm_base.proofs.NumberTexts.{number_known, number_none}
use Rattle.farm_base.proofs.numbers.number.Goals as goal

pub returns-in_default : goal.returns-in_default
returns-in_default c =
    sym (number_none (2 ^ 64) c.args.text.now (λ n h e. c.in_default.not-Ok n (parse-decimal 64 n c.args.text.now c.parse.result h h e c.parse.ensures.value.0)))

pub returns-then-ne : goal.returns-then-ne
returns-then-ne c = sym (number_none (2 ^ 64) c.args.text.now (λ n h e.
    let parsed : c.parse.result ≡ Ok n = parse-decimal 64 n c.args.text.now c.parse.result h h e c.parse.ensures.value.0 in
    let same : Ok c.in-Ok.number ≡ Ok n = sym c.in-Ok.is ∙ parsed in
    let number : c.in-Ok.number ≡ n = cc in
    let equal : bytes_eq c.format.result.now c.args.text.now ≡ true =
    (bytes_eq-Decides c.format.result.now c.args.text.now).1 (c.format.ensures.text ∙ ap decimal number ∙ sym e) in
    let bad : true ≡ false = c.if-ne.ensures ∙ ap not equal in
    cc))

pub returns : goal.returns
returns c =
    let fits : c.in-Ok.number < 2 ^ 64 = search rules in
    let equal : bytes_eq c.format.result.now c.args.text.now ≡ true = not-false (bytes_eq c.format.result.now c.args.text.now) (sym c.if-ne.ensures) in
    let text : c.format.result.now ≡ c.args.text.now = (bytes_eq-Decides c.format.result.now c.args.text.now).0 equal in
    sym (number_known (2 ^ 64) c.in-Ok.number c.args.text.now fits fits (sym text ∙ c.format.ensures.text))
