use Rattle.std.proofs.Common.{rules, ap}
use Rattle.std.specs.Option.{ok_or}
use Rattle.reading.proofs.Texts.{json_read, json_refused}
use Rattle.reading.proofs.json.read_json.Goals as goal

pub returns-in-Ok : goal.returns-in-Ok
returns-in-Ok g c = ap (λ o. ok_or o c.args.not_json) (json_read c.args.bytes.now _ c.in-Ok.ensures.ok.0 c.in-Ok.ensures.ok.1)

pub returns-else-is_memory : goal.returns-else-is_memory
returns-else-is_memory g c = λ n. ap (λ o. ok_or o c.args.not_json) (json_refused c.args.bytes.now (c.in-Err.ensures.err (search rules)))
