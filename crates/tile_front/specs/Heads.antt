-- The heads of requests, as `httparse` reads them. Its answer is no function of the bytes: where
-- these have more than 32 headers, or end within a target, it may refuse at once or later. So what
-- is said here is a relation.
use Rattle.std.specs.Prelude.{◌≡◌, ℕ, ◌<◌, ◌≤◌, ◌==◌, Bool, true, false, ◌&&◌, ◌||◌, List, [], ◌∷◌, length, take}
use Rattle.farm_base.specs.Limits.{most_head_bytes, most_head_fields}
use Rattle.httparse.specs.Grammar.{RequestHead, ReadsRequest, NeverHasRequest, MayBecomeRequest}
use Rattle.httparse.specs.Spans.{RequestOverflows, RequestExceeds}
use Rattle.tile_front.specs.declared.heads.Head.{Head}
use Rattle.tile_front.specs.declared.heads.Head.TheVariants.{Open, Bad, Whole}

-- the bytes of a connection that are read
abbrev pub bytes_read : List ℕ → List ℕ
bytes_read given = take most_head_bytes given

-- the bytes begin with this head, which has at most 32 headers
pub record IsWhole (bytes : List ℕ) (h : RequestHead) : Type 0 where
  pub rest : List ℕ
  pub reads : ReadsRequest bytes h rest
  pub few : length h.fields ≤ most_head_fields

-- they begin with no such head
abbrev pub HasNoHead : List ℕ → Type 0
HasNoHead bytes = (h : RequestHead) → ¬ (IsWhole bytes h)

-- a line ends at once
abbrev pub begins_newline : List ℕ → Bool
begins_newline [] = false
begins_newline (b ∷ bytes) = b == 10

abbrev pub ends_line : List ℕ → Bool
ends_line [] = false
ends_line (b ∷ bytes) = b == 10 || (b == 13 && begins_newline bytes)

-- two newlines stand there with nothing or one carriage return between them
abbrev pub has_empty_line : List ℕ → Bool
has_empty_line [] = false
has_empty_line (b ∷ bytes) = (b == 10 && ends_line bytes) || has_empty_line bytes

-- The bytes are refused: whatever follows them, no head is made; or all are there that are read,
-- and no head of at most 32 headers; or there are more than 32 headers, and an empty line.
pub data IsBad (bytes : List ℕ) : Type 0 where
  IsNever : NeverHasRequest bytes → IsBad bytes
  IsLong : most_head_bytes ≤ length bytes → HasNoHead bytes → IsBad bytes
  IsCrowded : RequestOverflows most_head_fields bytes → RequestExceeds most_head_fields bytes
      → has_empty_line bytes ≡ true → IsBad bytes

-- More bytes are waited for: none came; or they are the beginning of a head; or there are more than
-- 32 headers, and no empty line.
pub data IsOpen (bytes : List ℕ) : Type 0 where
  IsNothing : bytes ≡ [] → IsOpen bytes
  IsPart : length bytes < most_head_bytes → HasNoHead bytes → MayBecomeRequest bytes → IsOpen bytes
  IsFull : length bytes < most_head_bytes → RequestOverflows most_head_fields bytes
      → RequestExceeds most_head_fields bytes → has_empty_line bytes ≡ false → IsOpen bytes

abbrev pub open_unless : Bool → Head
open_unless true = Bad
open_unless false = Open

-- the head that the bytes begin with
abbrev pub ReadsHead : List ℕ → Head → Type 0
ReadsHead bytes Open = IsOpen bytes
ReadsHead bytes Bad = IsBad bytes
ReadsHead bytes (Whole method target) =
    (h : RequestHead) × IsWhole bytes h × (method.now ≡ h.method) × (target.now ≡ h.target)
