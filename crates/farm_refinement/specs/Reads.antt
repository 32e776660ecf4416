-- What a read of a shown tile gives, by what the store holds at its metatile's path.
use Rattle.std.specs.Prelude.{ℕ, ◌<◌, ◌≡◌, List, length, take, drop, Option, Some, None, Result, Ok, Err, option_map, IfSome, if◌then◌else◌}
use Rattle.farm_base.specs.declared.faults.MetaFault.{MetaFault}
use Rattle.farm_base.specs.declared.faults.MetaFault.TheVariants.{Index}
use Rattle.farm_base.specs.Outside.{Outside, Counted}
use Rattle.plain_world.specs.declared.world.Meta.{Meta}
use Rattle.meta_container.specs.declared.container.Entry.{Entry}
use Rattle.meta_container.specs.Container.{head_len}
use Rattle.meta_container.specs.Reading.{entry_found}
use Rattle.tile_store.specs.Stores.{StoreTold, with_failed_get}
use Rattle.farm_history.specs.declared.keys.Mark.{Mark}
use Rattle.farm_history.specs.declared.answers.Fetched.{Fetched}

-- something is held, the container's head in it has an entry at the place, and the bytes are the
-- entry's part, whole
pub record IsTilePart (content : Option (List ℕ)) (m : Meta) (place : ℕ)
    (bytes : List ℕ) : Type 0 where
  pub held : List ℕ
  pub is_held : content ≡ Some held
  pub entry : Entry
  pub is_entry : entry_found (take head_len held) m place ≡ Ok entry
  pub bytes_are : bytes ≡ take entry.size (drop entry.offset held)
  pub whole : length bytes ≡ entry.size

-- the first fault of the head; where that has an entry at the place, that its part is cut off
abbrev pub SpoiltBy : List ℕ → ℕ → MetaFault → Result Entry MetaFault → Type 0
SpoiltBy held place fault (Err first) = fault ≡ first
SpoiltBy held place fault (Ok entry) =
    (fault ≡ Index place) × (length (take entry.size (drop entry.offset held)) < entry.size)

-- something is held that is no container with a tile at the place, and why
pub record IsSpoilt (content : Option (List ℕ)) (m : Meta) (place : ℕ)
    (fault : MetaFault) : Type 0 where
  pub held : List ℕ
  pub is_held : content ≡ Some held
  pub spoilt : SpoiltBy held place fault (entry_found (take head_len held) m place)

-- A read of the tile at a place of a metatile's container at a path: its bytes, or Gone, Spoilt,
-- GetFailed or NoMemory, each as the store's reads gave it, with the store before and after
abbrev pub ReadsTile : Outside StoreTold → Outside StoreTold → List ℕ → Meta → ℕ
    → Result (List ℕ) Fetched → Type 0
ReadsTile old new path m place (Ok bytes) =
    (new ≡ old) × IfSome old.told (λ t. IsTilePart (t.content path) m place bytes)
ReadsTile old new path m place (Err Fetched.Gone) =
    (new ≡ old) × IfSome old.told (λ t. t.content path ≡ None)
ReadsTile old new path m place (Err (Fetched.Spoilt fault)) =
    (new ≡ old) × IfSome old.told (λ t. IsSpoilt (t.content path) m place fault)
ReadsTile old new path m place (Err Fetched.GetFailed) =
    (new.told ≡ option_map (with_failed_get path) old.told) × Counted old.faults new.faults
ReadsTile old new path m place (Err Fetched.NoMemory) = new ≡ old
ReadsTile old new path m place (Err _) = ⊥

-- what a fetch of a tile with that mark is answered
abbrev pub fetched_by : Mark → Result (List ℕ) Fetched → Fetched
fetched_by m (Ok bytes) = if m.clean then Fetched.Clean m.version bytes
    else Fetched.Dirty m.version bytes
fetched_by m (Err answer) = answer
