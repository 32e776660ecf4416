-- The count of faults of the store in files.
use Rattle.std.specs.Prelude.{◌≡◌, ℕ, Result, Ok, Err}
use Rattle.farm_base.specs.Outside.{Counted}
use Rattle.tile_store.specs.declared.stores.StoreFault.{StoreFault}
use Rattle.tile_store.specs.declared.stores.StoreFault.TheVariants.{Failed, NoMemory}

-- the count over a call: it rises where the call failed, and else it stays
abbrev pub Counts : {T : Type 0} → ℕ → ℕ → Result T StoreFault → Type 0
Counts before now (Ok value) = now ≡ before
Counts before now (Err Failed) = Counted before now
Counts before now (Err NoMemory) = now ≡ before
