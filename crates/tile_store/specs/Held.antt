-- The store that stands in memory, as contracts see it.
use Rattle.std.specs.Prelude.{◌≡◌, ℕ, ◌/◌, Bool, true, false, List, [], ◌∷◌, ◌++◌, length, take, Option, Some, Result, Ok, Err, Vec, option_map, if◌then◌else◌}
use Rattle.std.specs.Str.{bytes_eq}
use Rattle.std.specs.declared.alloc.Global.{Global}
use Rattle.farm_base.specs.declared.files.FailedCall.{FailedCall}
use Rattle.farm_base.specs.InMemory.{content_of, is_to_fail, next_count}
use Rattle.farm_base.specs.Outside.{Outside}
use Rattle.tile_store.specs.declared.stores.StoreFault.{StoreFault}
use Rattle.tile_store.specs.declared.stores.StoreFault.TheVariants.{Failed, NoMemory}
use Rattle.tile_store.specs.Stores.{StoreTold, failed_put, failed_get}

-- contents by their paths, the puts and the gets that are to fail by their numbers, how many puts
-- and how many gets were answered, and the calls that failed
pub record StoreHeld : Type 0 where
  pub held : List (List ℕ × List ℕ)
  pub puts : List ℕ
  pub gets : List ℕ
  pub put_calls : ℕ
  pub get_calls : ℕ
  pub failed : List FailedCall

-- what the store in memory tells
abbrev pub told_of : StoreHeld → StoreTold
told_of store = record { content = content_of store.held; failed = store.failed }

-- the store in memory as an object of the outside: it tells, and counts the calls that failed
abbrev pub store_state : StoreHeld → Outside StoreTold
store_state store = record { told = Some (told_of store); faults = length store.failed }

-- the contents with these bytes at a path, in place of those that it held
abbrev pub with_content : List (List ℕ × List ℕ) → List ℕ → List ℕ → List (List ℕ × List ℕ)
with_content [] path bytes = (path, bytes) ∷ []
with_content (pair ∷ pairs) path bytes = if bytes_eq pair.0 path then (pair.0, bytes) ∷ pairs
    else pair ∷ with_content pairs path bytes

-- is the next put to fail?
abbrev pub put_fails : StoreHeld → Bool
put_fails store = is_to_fail store.puts store.put_calls

-- is the next get to fail?
abbrev pub get_fails : StoreHeld → Bool
get_fails store = is_to_fail store.gets store.get_calls

-- the half of bytes, rounded down, that a failed put leaves
abbrev pub half : List ℕ → List ℕ
half bytes = take (length bytes / 2) bytes

-- A put in memory, exactly: it fails where its number says so, and then half of the bytes stand.
abbrev pub PutsHeld : StoreHeld → StoreHeld → List ℕ → List ℕ
    → Result (Unit {0}) StoreFault → Type 0
PutsHeld old new path bytes (Ok done) = (put_fails old ≡ false)
    × (new ≡ record old {
      held = with_content old.held path bytes;
      put_calls = next_count old.put_calls;
    })
PutsHeld old new path bytes (Err Failed) = (put_fails old ≡ true)
    × (new ≡ record old {
      held = with_content old.held path (half bytes);
      put_calls = next_count old.put_calls;
      failed = old.failed ++ failed_put path ∷ [];
    })
PutsHeld old new path bytes (Err NoMemory) = new ≡ old

-- A get in memory by a view of the bytes, exactly: it fails where its number says so.
abbrev pub GetsHeld : (List ℕ → List ℕ) → StoreHeld → StoreHeld → List ℕ
    → Result (Option (Vec ℕ Global)) StoreFault → Type 0
GetsHeld view old new path (Ok found) = (get_fails old ≡ false)
    × (option_map (λ v. v.items) found ≡ option_map view (content_of old.held path))
    × (new ≡ record old { get_calls = next_count old.get_calls })
GetsHeld view old new path (Err Failed) = (get_fails old ≡ true)
    × (new ≡ record old {
      get_calls = next_count old.get_calls;
      failed = old.failed ++ failed_get path ∷ [];
    })
GetsHeld view old new path (Err NoMemory) = new ≡ old
