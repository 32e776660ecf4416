-- What it takes to show a key: spots on the way from its group's root.
use Rattle.std.specs.Prelude.{ℕ, ◌+◌, ◌-◌, ◌≡◌, ◌⊎◌, true}
use Rattle.farm_history.specs.declared.keys.Key.{Key}
use Rattle.expiry_lists.specs.inner.Nodes.{NodeTable, has_bit, has_spot, lives_at, IsTree}

-- how many spots lead to a place, its own among them: at most 16
abbrev pub path_len : Key → ℕ
path_len p = p.meta.z - 3 + 1

-- the place has a spot, where the maps of the mask are live; the nodes are the same, and only
-- places of its group are new
pub record Wakes (place : Key) (mask : ℕ) (old new : NodeTable) : Type 0 where
  pub entries : new.entries ≡ old.entries
  pub tree : IsTree new.entries new.spots
  pub woken : has_spot new.spots place ≡ true
  pub lives : (b : ℕ) → has_bit mask b ≡ true → lives_at new.spots place b ≡ true
  pub still_there : (p : Key) → has_spot old.spots p ≡ true → has_spot new.spots p ≡ true
  pub of_group : (p : Key) → has_spot new.spots p ≡ true
      → (has_spot old.spots p ≡ true) ⊎ (p.map ≡ place.map)
  pub room : new.room ≡ old.room
