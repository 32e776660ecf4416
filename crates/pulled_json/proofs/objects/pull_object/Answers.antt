use Rattle.std.proofs.Common.{◌≡◌, ◌∷◌, ap, ◌∙◌, arith}
use Rattle.json.specs.Token.{Token}
use Rattle.json.specs.Json.{value}
use Rattle.serde_json.specs.Read.{of_json, converted}
use Rattle.pulled_json.proofs.Pulls.{object_value}
use Rattle.pulled_json.proofs.Turns.{on_some}
use Rattle.pulled_json.proofs.objects.pull_object.Goals as goal

pub returns-clause-value : goal.returns-clause-value
returns-clause-value t c =
    let r = c.pull_members.new.reader in
    let first : c.args.reader.now ≡ Token.begin_object ∷ c.next.new.self = grind arith in
    on_some _ _ c.pull_members.result c.pull_members.ensures.value
    (λ u found. (found.0, ap (λ ts. converted of_json (value c.args.depth ts)) first ∙ object_value c.args.depth c.next.new.self r found.0 (omega arith) found.1, found.2))
