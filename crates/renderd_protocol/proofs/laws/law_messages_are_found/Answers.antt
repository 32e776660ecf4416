use Rattle.renderd_protocol.proofs.Streams.{finds_messages}
use Rattle.renderd_protocol.proofs.laws.law_messages_are_found.Goals as goal

pub returns : goal.returns
returns c = finds_messages
