use Rattle.std.proofs.Common.{◌≡◌, ◌∷◌, refl, arith}
use Rattle.json.specs.Token.{Token}
use Rattle.json.specs.Json as json
use Rattle.json.proofs.Grammar.{value_is}
use Rattle.serde_json.specs.Data.{string}
use Rattle.pulled_json.proofs.Pulls.{plain_value}
use Rattle.pulled_json.proofs.values.str_from.Goals as goal

pub returns-in-String-clause-value : goal.returns-in-String-clause-value
returns-in-String-clause-value c =
    let first : c.args.reader.now ≡ Token.string c.in-String.text.now ∷ c.next.new.self = grind arith in
    λ depth. plain_value depth _ c.args.reader.now c.next.new.self (json.string c.in-String.text.now) (string c.in-String.text.now) first (value_is depth _) refl
