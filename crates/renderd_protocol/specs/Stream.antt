-- A connection's bytes as a stream of messages, in whatever pieces they come.
use Rattle.std.specs.Prelude.{◌≡◌, ℕ, zero, suc, ◌^◌, ◌<◌, ◌++◌, ◌∷◌, [], List, length, drop, fold, map, IsTrue}
use Rattle.std.specs.List.{flat_map}
use Rattle.renderd_protocol.specs.declared.messages.Request.{Request}
use Rattle.renderd_protocol.specs.declared.messages.Found.{Found}
use Rattle.renderd_protocol.specs.declared.messages.Found.TheVariants.{Message}
use Rattle.renderd_protocol.specs.Messages.{is_version, message_len, number_at, request_in, found_in, wire_of, IsCarried}

-- a whole message: its first number is a version, and it has the length of that version
pub record IsMessage (message : List ℕ) : Type 0 where
  pub version : IsTrue (is_version (number_at 0 message))
  pub whole : length message ≡ message_len (number_at 0 message)

-- bytes that begin with no whole message, wherever one would end
abbrev pub HasNoMessage : List ℕ → Type 0
HasNoMessage bytes = (message more : List ℕ) → IsMessage message → bytes ≡ message ++ more → ⊥

-- each of the lists is a whole message
abbrev pub AreMessages : List (List ℕ) → Type 0
AreMessages [] = Unit {0}
AreMessages (message ∷ messages) = IsMessage message × AreMessages messages

-- the lists one after another
abbrev pub joined : List (List ℕ) → List ℕ
joined pieces = flat_map (λ piece. piece) pieces

-- the bytes are these whole messages one after another, and then a rest that begins with none
pub record Splits (bytes : List ℕ) (messages : List (List ℕ)) (rest : List ℕ) : Type 0 where
  pub whole : bytes ≡ joined messages ++ rest
  pub each : AreMessages messages
  pub none_left : HasNoMessage rest

-- what the reader of a connection holds: the requests so far, in order, and the bytes not used yet
pub record StreamRead : Type 0 where
  pub requests : List Request
  pub rest : List ℕ

-- what is taken, by what stands at the head of the bytes; `later` takes of the bytes after a length
abbrev pub taken_at : (ℕ → StreamRead) → List ℕ → Found → StreamRead
taken_at later bytes (Message request len) =
    record { requests = request ∷ (later len).requests; rest = (later len).rest }
taken_at later bytes _ = record { requests = []; rest = bytes }

-- what is taken of the bytes, message by message, in at most so many turns
abbrev pub taken_in : ℕ → List ℕ → StreamRead
taken_in zero bytes = record { requests = []; rest = bytes }
taken_in (suc turns) bytes =
    taken_at (λ len. taken_in turns (drop len bytes)) bytes (found_in bytes)

-- all that is taken of the bytes: no message is empty, so no more turns are needed than bytes
unfoldable pub stream_read : List ℕ → StreamRead
stream_read bytes = taken_in (length bytes) bytes

-- the reader after one more piece: it takes all that its bytes give now
abbrev pub with_piece : StreamRead → List ℕ → StreamRead
with_piece before piece =
    let now = stream_read (before.rest ++ piece) in
    record { requests = before.requests ++ now.requests; rest = now.rest }

-- the reader after all pieces of a connection, from nothing
abbrev pub taken_by_pieces : List (List ℕ) → StreamRead
taken_by_pieces pieces = fold with_piece (record { requests = []; rest = [] }) pieces

-- **However the bytes of a connection are cut, the reader ends with the same requests and the same
-- rest: those of the bytes as one piece.**
abbrev pub AnyPieces : Type 0
AnyPieces = (pieces : List (List ℕ)) → taken_by_pieces pieces ≡ stream_read (joined pieces)

-- The requests that are taken are those of the whole messages that stand at the head of the bytes.
abbrev pub TakesMessages : Type 0
TakesMessages =
    (bytes : List ℕ) → (messages : List (List ℕ)) × Splits bytes messages (stream_read bytes).rest
    × ((stream_read bytes).requests ≡ map request_in messages)

-- Bytes split into messages and a rest in one way alone.
abbrev pub SplitsOneWay : Type 0
SplitsOneWay = (bytes : List ℕ) (messages others : List (List ℕ)) (rest left : List ℕ)
    → Splits bytes messages rest → Splits bytes others left → (messages ≡ others) × (rest ≡ left)

-- Where the bytes begin with a whole message, it is found, whatever follows it; and what is found
-- is such a message.
abbrev pub FindsMessages : Type 0
FindsMessages = ((message more : List ℕ) → IsMessage message
    → found_in (message ++ more) ≡ Message (request_in message) (length message))
    × ((bytes : List ℕ) (request : Request) (len : ℕ) → found_in bytes ≡ Message request len
    → (message more : List ℕ) × IsMessage message × (bytes ≡ message ++ more)
    × (len ≡ length message) × (request ≡ request_in message))

-- What was written is read back, whatever follows it.
abbrev pub ReadsBack : Type 0
ReadsBack = (request : Request) (cmd : ℕ) (more : List ℕ) → IsCarried request → cmd < 2 ^ 32
    → found_in (wire_of request cmd ++ more)
    ≡ Message (record request { cmd = cmd }) (message_len request.ver)
