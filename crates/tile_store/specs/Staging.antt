-- Bytes that were staged for a store, as contracts see them.
use Rattle.std.specs.Prelude.{ℕ, List}

-- bytes, and the number under which they were staged
pub record StagedSeen : Type 0 where
  pub number : ℕ
  pub bytes : List ℕ
