-- What holds of requests.
use Rattle.std.specs.Prelude.{◌≡◌, ℕ, List, ◌++◌}
use Rattle.httparse.specs.Grammar.{RequestHead}
use Rattle.tile_front.specs.declared.targets.Kind.{Kind}
use Rattle.tile_front.specs.Targets.{Place, Names}
use Rattle.tile_front.specs.Heads.{bytes_read, IsWhole, HasNoHead, IsOpen, IsBad}

-- What is refused, and what is waited for, begins with no head of at most 32 headers.
abbrev pub NoHeadUnlessWhole : Type 0
NoHeadUnlessWhole =
    (bytes : List ℕ) → (IsBad bytes → HasNoHead bytes) × (IsOpen bytes → HasNoHead bytes)

-- Bytes begin with one head at most.
abbrev pub OneHead : Type 0
OneHead = (bytes : List ℕ) (h k : RequestHead) → IsWhole bytes h → IsWhole bytes k → h ≡ k

-- A target asks for one thing of one tile at most.
abbrev pub OneTarget : Type 0
OneTarget = (target : List ℕ) (k l : Kind) (p q : Place) → Names target k p → Names target l q
    → (k ≡ l) × (p ≡ q)

-- What is refused stays so, whatever follows.
abbrev pub BadStays : Type 0
BadStays = (given more : List ℕ) → IsBad (bytes_read given) → IsBad (bytes_read (given ++ more))

-- A whole head stays the same.
abbrev pub WholeStays : Type 0
WholeStays = (given more : List ℕ) (h : RequestHead) → IsWhole (bytes_read given) h
    → IsWhole (bytes_read (given ++ more)) h
