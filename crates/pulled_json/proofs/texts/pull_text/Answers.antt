use Rattle.std.proofs.Common.{◌≡◌, [], Some, ap, sym, ◌∙◌, arith}
use Rattle.std.proofs.lemmas.Str.{is_utf8-from_IsUtf8}
use Rattle.json.specs.Lex.{tokens}
use Rattle.json.specs.Json.{value}
use Rattle.serde_json.specs.Data.{object}
use Rattle.serde_json.specs.Read.{of_json, converted}
use Rattle.pulled_json.proofs.Turns.{whole_text}
use Rattle.pulled_json.proofs.texts.pull_text.Goals as goal

pub returns : goal.returns
returns t c =
    let found = c.in_ok-pull_object.ensures.value in
    let told = c.in-Ok.ensures.cases in
    let begun : c.in-Ok-new.reader ≡ tokens c.args.bytes.now = c.in-Ok-new.ensures.ok ∙ ap tokens told.0 in
    let over : c.pull_object.new.reader ≡ [] = grind arith in
    let whole : converted of_json (value 127 (tokens c.args.bytes.now)) ≡ Some (object found.0, []) =
    ap (λ ts. converted of_json (value 127 ts)) (sym begun) ∙ found.1 ∙ ap (λ ts. Some (object found.0, ts)) over in
    (found.0, whole_text c.args.bytes.now (object found.0) (is_utf8-from_IsUtf8 c.args.bytes.now told.1) whole, found.2)
