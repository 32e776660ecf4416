-- So many of the same, and one more.
use Rattle.std.proofs.Common.{◌≡◌, ℕ, ◌+◌, [], ◌∷◌, ◌++◌, replicate}
use Rattle.std.proofs.lemmas.List.{replicate-append-replicate}

pub replicate_push : {X : Type 0} (n : ℕ) (x : X) → replicate n x ++ x ∷ [] ≡ replicate (n + 1) x
replicate_push n x = replicate-append-replicate n 1 x
