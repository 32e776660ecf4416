use Rattle.renderd_protocol.proofs.Streams.{takes_messages, one_way, any_pieces}
use Rattle.renderd_protocol.proofs.laws.law_any_pieces.Goals as goal

pub returns : goal.returns
returns c = record { takes = takes_messages; one_way = one_way; pieces = any_pieces }
