-- What a tile store tells of itself, and what a call on it may do.
use Rattle.std.specs.Prelude.{◌≡◌, ◌≢◌, ℕ, true, false, List, [], ◌∷◌, ◌++◌, take, drop, Option, Some, None, Result, Ok, Err, Vec, option_map, IfSome, MatchOption}
use Rattle.std.specs.declared.alloc.Global.{Global}
use Rattle.farm_base.specs.declared.files.FailedCall.{FailedCall}
use Rattle.farm_base.specs.Outside.{Outside, FilesTold, Counted}
use Rattle.tile_store.specs.declared.stores.StoreFault.{StoreFault}
use Rattle.tile_store.specs.declared.stores.StoreFault.TheVariants.{Failed, NoMemory}

-- what a store that tells tells, as files do: the bytes that each path holds, if any, and the calls
-- that failed so far
abbrev pub StoreTold : Type 0
StoreTold = FilesTold

-- the note of a put at this path that failed
abbrev pub failed_put : List ℕ → FailedCall
failed_put path = record { name = path; put = true }

-- the note of a get of this path that failed, whole or in part
abbrev pub failed_get : List ℕ → FailedCall
failed_get path = record { name = path; put = false }

-- every path but this one holds what it held
abbrev pub KeepsOthers : StoreTold → StoreTold → List ℕ → Type 0
KeepsOthers old new path = (other : List ℕ) → other ≢ path → new.content other ≡ old.content other

-- the path holds the bytes now, every other path holds what it held, and no call failed
pub record Stored (old new : StoreTold) (path bytes : List ℕ) : Type 0 where
  pub held : new.content path ≡ Some bytes
  pub others : KeepsOthers old new path
  pub failed : new.failed ≡ old.failed

-- a put failed: what its path holds is unknown, every other path holds what it held
pub record PutFailed (old new : StoreTold) (path : List ℕ) : Type 0 where
  pub others : KeepsOthers old new path
  pub failed : new.failed ≡ old.failed ++ failed_put path ∷ []

-- whether the store tells stays, and where it does, this holds of what it told and what it tells
-- now
abbrev pub IfTold : Outside StoreTold → Outside StoreTold
    → (StoreTold → StoreTold → Type 0) → Type 0
IfTold old new holds = MatchOption old.told (new.told ≡ None)
    (λ before. (now : StoreTold) × (new.told ≡ Some now) × holds before now)

-- A put of bytes at a path. After Ok the path holds the bytes and the count is as before; after
-- Failed what the path holds is unknown, and the count has risen; after NoMemory all is as before.
abbrev pub StorePuts : Outside StoreTold → Outside StoreTold → List ℕ → List ℕ
    → Result (Unit {0}) StoreFault → Type 0
StorePuts old new path bytes (Ok done) =
    IfTold old new (λ before now. Stored before now path bytes) × (new.faults ≡ old.faults)
StorePuts old new path bytes (Err Failed) =
    IfTold old new (λ before now. PutFailed before now path) × Counted old.faults new.faults
StorePuts old new path bytes (Err NoMemory) = new ≡ old

-- the same content after one more get of this path that failed
abbrev pub with_failed_get : List ℕ → StoreTold → StoreTold
with_failed_get path store = record store { failed = store.failed ++ failed_get path ∷ [] }

-- A get of a path by a view of its bytes. After Ok all is as before, and where the store tells, the
-- answer is the view of the bytes that the path holds, and none exactly where it holds nothing.
-- After Failed the count has risen, the failed get is noted where the store tells, and nothing else
-- has changed. After NoMemory all is as before.
abbrev pub Gets : (List ℕ → List ℕ) → Outside StoreTold → Outside StoreTold → List ℕ
    → Result (Option (Vec ℕ Global)) StoreFault → Type 0
Gets view old new path (Ok found) =
    (new ≡ old)
    × IfSome old.told (λ t. option_map (λ v. v.items) found ≡ option_map view (t.content path))
Gets view old new path (Err Failed) =
    (new.told ≡ option_map (with_failed_get path) old.told) × Counted old.faults new.faults
Gets view old new path (Err NoMemory) = new ≡ old

-- the whole of the bytes
abbrev pub whole : List ℕ → List ℕ
whole bytes = bytes

-- the bytes from an offset on, at most so many and no further than their end
abbrev pub part : ℕ → ℕ → List ℕ → List ℕ
part offset len bytes = take len (drop offset bytes)
