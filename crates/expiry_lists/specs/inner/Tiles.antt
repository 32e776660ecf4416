-- The keys of a map that an expired tile leads to.
use Rattle.std.specs.Prelude.{ℕ, ◌+◌, ◌-◌, ◌*◌, ◌/◌, ◌^◌, Bool, ◌||◌, ◌==◌, nat_le, if◌then◌else◌, List}
use Rattle.std.specs.List.{list_any}
use Rattle.farm_history.specs.declared.keys.Key.{Key}
use Rattle.farm_history.specs.Plans.{same_key}
use Rattle.plain_world.specs.declared.world.Tile.{Tile}

-- a map's key of that zoom, up to 3, whose square is the whole world
abbrev pub world_key : ℕ → ℕ → Key
world_key map z = record { map = map; meta = record { z = z; x = 0; y = 0 } }

-- whether the key is one of the three that share the square of zoom 3's
abbrev pub is_flat : ℕ → Key → Bool
is_flat map k =
    (same_key (world_key map 0) k || same_key (world_key map 1) k) || same_key (world_key map 2) k

-- the map's key whose square is the tile's, or the smallest that holds it
abbrev pub key_over : ℕ → Tile → Key
key_over map t = if nat_le t.z 15
    then record { map = map; meta = record { z = t.z + 3; x = t.x * 8; y = t.y * 8 } }
    else record {
      map = map;
      meta = record { z = 18; x = t.x / 2 ^ (t.z - 15) * 8; y = t.y / 2 ^ (t.z - 15) * 8 };
    }

-- whether the key's map is one of these
abbrev pub is_of_maps : List ℕ → Key → Bool
is_of_maps maps k = list_any (λ map. map == k.map) maps

-- whether the key is one of these
abbrev pub is_one_of : List Key → Key → Bool
is_one_of keys k = list_any (λ key. same_key key k) keys
