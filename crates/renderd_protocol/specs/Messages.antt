-- The messages of renderd's protocol, as mod_tile and renderd exchange them (struct protocol of
-- mod_tile's protocol.h). A message is a list of bytes; numbers stand little-endian.
use Rattle.std.specs.Prelude.{◌≡◌, ℕ, ◌-◌, ◌<◌, ◌≤◌, ◌^◌, ◌==◌, ◌||◌, ◌++◌, ◌∷◌, [], Bool, not, List, length, take, drop, replicate, nat_lt, nat_le, if◌then◌else◌, IsTrue}
use Rattle.std.specs.List.{list_all}
use Rattle.byteorder.specs.Endian.{little_number, little_bytes}
use Rattle.renderd_protocol.specs.declared.messages.Request.{Request}
use Rattle.renderd_protocol.specs.declared.messages.Found.{Found}
use Rattle.renderd_protocol.specs.declared.messages.Found.TheVariants.{Message, NeedMore, BadVersion}

-- the versions of the protocol
abbrev pub is_version : ℕ → Bool
is_version version = version == 1 || (version == 2 || version == 3)

-- how many bytes a message of a version has: the numbers; the name and 3 bytes of padding; the
-- name, the kind, the options and 1 byte of padding
abbrev pub message_len : ℕ → ℕ
message_len version = if version == 1 then 20 else if version == 2 then 64 else 144

-- the number in the four bytes at a place
abbrev pub number_at : ℕ → List ℕ → ℕ
number_at place bytes = little_number 4 (drop place bytes)

-- the text that a field's bytes begin with: those before the first NUL, or all
abbrev pub text_field : List ℕ → List ℕ
text_field [] = []
text_field (b ∷ bs) = if not (b == 0) then b ∷ text_field bs else []

-- the text in the field at a place, at most 40 bytes
abbrev pub text_at : ℕ → List ℕ → List ℕ
text_at place bytes = text_field (take 40 (drop place bytes))

-- the text of a field that stands in the versions from a least one on; empty in the others
abbrev pub text_from : ℕ → ℕ → List ℕ → List ℕ
text_from least place bytes = if nat_le least (number_at 0 bytes) then text_at place bytes else []

-- the request of a message, field by field. The padding counts for nothing: mod_tile writes `ima`
-- into that of version 2.
abbrev pub request_in : List ℕ → Request
request_in bytes = record {
  ver = number_at 0 bytes;
  cmd = number_at 4 bytes;
  x = number_at 8 bytes;
  y = number_at 12 bytes;
  z = number_at 16 bytes;
  name = record { items = text_from 2 20 bytes };
  mime = record { items = text_from 3 61 bytes };
  options = record { items = text_from 3 102 bytes };
}

-- what stands at the head of the bytes: a whole message with its length, less than one, or a first
-- number that is no version
unfoldable pub found_in : List ℕ → Found
found_in bytes =
    if nat_lt (length bytes) 4 then NeedMore
    else if not (is_version (number_at 0 bytes)) then BadVersion (number_at 0 bytes)
    else if nat_lt (length bytes) (message_len (number_at 0 bytes)) then NeedMore
    else Message (request_in bytes) (message_len (number_at 0 bytes))

-- a text with NULs up to the 41 bytes of its field
abbrev pub field_of : List ℕ → List ℕ
field_of text = text ++ replicate (41 - length text) 0

-- the texts of a message, by its version, with the padding behind them
abbrev pub texts_of : Request → List ℕ
texts_of request =
    if request.ver == 1 then []
    else if request.ver == 2 then field_of request.name.items ++ replicate 3 0
    else field_of request.name.items ++ field_of request.mime.items
    ++ field_of request.options.items ++ replicate 1 0

-- the message of a request with a command: the texts that its version has no place for are left out
unfoldable pub wire_of : Request → ℕ → List ℕ
wire_of request cmd =
    little_bytes 4 request.ver ++ little_bytes 4 cmd
    ++ little_bytes 4 request.x ++ little_bytes 4 request.y ++ little_bytes 4 request.z
    ++ texts_of request

-- a byte that is not the NUL
abbrev pub is_text_byte : ℕ → Bool
is_text_byte b = not (b == 0)

-- a text that a field can carry: at most 40 bytes, none of them the NUL
pub record IsFieldText (text : List ℕ) : Type 0 where
  pub short : length text ≤ 40
  pub no_nul : IsTrue (list_all is_text_byte text)

-- a request that its own version can carry: numbers of 32 bits, texts without NUL, and no text that
-- the version has no place for
pub record IsCarried (request : Request) : Type 0 where
  pub version : IsTrue (is_version request.ver)
  pub x : request.x < 2 ^ 32
  pub y : request.y < 2 ^ 32
  pub z : request.z < 2 ^ 32
  pub name : IsFieldText request.name.items
  pub mime : IsFieldText request.mime.items
  pub options : IsFieldText request.options.items
  pub no_name : request.ver < 2 → request.name.items ≡ []
  pub no_mime : request.ver < 3 → request.mime.items ≡ []
  pub no_options : request.ver < 3 → request.options.items ≡ []
