use Rattle.std.proofs.Common.{◌≡◌, ◌≤◌, ◌++◌, drop, length}
use Rattle.renderd_protocol.specs.Messages.{text_field}
use Rattle.renderd_protocol.proofs.reading.text_of.Given as goal

-- the text so far, and the text of what is left, are the whole text
abbrev pub invariant-loop-byte : goal.invariant-loop-byte
invariant-loop-byte l = record {
  short : length l.text.items ≤ l.byte-index;
  rest : l.text.items ++ text_field (drop l.byte-index l.field) ≡ text_field l.field;
}
