-- Marks: what is shown of metatiles, and what an expiry makes of it.
use Rattle.std.specs.Prelude.{ℕ, ◌≡◌, Bool, ◌&&◌, ◌==◌, not, nat_lt, List, map, count_by, find, Option, Some, None, option_map, if◌then◌else◌}
use Rattle.std.specs.Int.{bit_at}
use Rattle.std.specs.List.{list_any}
use Rattle.farm_history.specs.declared.keys.Key.{Key}
use Rattle.farm_history.specs.declared.keys.Mark.{Mark}
use Rattle.farm_history.specs.Plans.{same_key}
use Rattle.plain_world.specs.World.{meta_square}
use Rattle.geo_model.specs.declared.bounds.Bounds.{Bounds}
use Rattle.plain_shapes.specs.Reach.{margin_of}
use Rattle.expiry_lists.specs.Boxes.{Holds, comes_near}

-- a shown metatile with its mark
pub record Shown : Type 0 where
  pub key : Key
  pub mark : Mark

-- the value of Marks: what is shown, in no order that counts, and how many keys more may be shown
-- without memory
pub record MarksSeen : Type 0 where
  pub shown : List Shown
  pub room : ℕ

-- a shown metatile's key
abbrev pub shown_key : Shown → Key
shown_key s = s.key

-- the mark of a key, or none where it is not shown
abbrev pub mark_of : List Shown → Key → Option Mark
mark_of shown key = option_map (λ s. s.mark) (find (λ s. same_key key s.key) shown)

-- a mark after what touches its metatile, or doesn't
abbrev pub touched_by : Bool → Mark → Mark
touched_by touched m = record { version = m.version; clean = not touched && m.clean }

-- one that is shown, after an expiry of the keys that pass the test
abbrev pub dirtied_mark : (Key → Bool) → Shown → Shown
dirtied_mark test s = record { key = s.key; mark = touched_by (test s.key) s.mark }

-- what is shown, after an expiry of the keys that pass the test: each of them is dirty, and all
-- else is as it was
abbrev pub dirtied_marks : (Key → Bool) → List Shown → List Shown
dirtied_marks test shown = map (dirtied_mark test) shown

-- how many clean ones pass the test
abbrev pub clean_marks : (Key → Bool) → List Shown → ℕ
clean_marks test shown = count_by (λ s. s.mark.clean && test s.key) shown

-- whether the key is of that map
abbrev pub is_of_map : ℕ → Key → Bool
is_of_map map k = map == k.map

-- whether the box, widened by 64 pixels of tiles of that size at the key's zoom, holds a point of
-- the key's square
abbrev pub is_met : Bounds → ℕ → Key → Bool
is_met b size k = comes_near b (margin_of size k.meta.z) (meta_square k.meta)

-- whether some of the boxes is that near
abbrev pub some_meets : ℕ → List Bounds → Key → Bool
some_meets size boxes k = list_any (λ b. is_met b size k) boxes

-- whether the key is at one of the zooms 0 to 18, and some of the boxes is that near
abbrev pub is_near_zooms : ℕ → List Bounds → Key → Bool
is_near_zooms size boxes k = nat_lt k.meta.z 19 && some_meets size boxes k

-- whether it is of that map too
abbrev pub is_near_boxes : ℕ → ℕ → List Bounds → Key → Bool
is_near_boxes map size boxes k = is_of_map map k && is_near_zooms size boxes k

-- whether the key's map is one of the first 64, and has its bit in the word
abbrev pub is_of_bits : ℕ → Key → Bool
is_of_bits word k = nat_lt k.map 64 && (bit_at word k.map == 1)

-- whether it is that near too
abbrev pub is_near_bits : ℕ → ℕ → List Bounds → Key → Bool
is_near_bits word size boxes k = is_of_bits word k && is_near_zooms size boxes k

-- the box with these edges
abbrev pub rectangle : ℕ → ℕ → ℕ → ℕ → Bounds
rectangle west north east south = record { west = west; north = north; east = east; south = south }

-- whether the key is of that map and zoom, and the box holds a point of the key's square
abbrev pub is_in_box : ℕ → ℕ → Bounds → Key → Bool
is_in_box map z b k = is_of_map map k && ((k.meta.z == z) && comes_near b 0 (meta_square k.meta))

-- the same in the world's words: the edges of the box belong to it
pub record InBox (map z : ℕ) (b : Bounds) (k : Key) : Type 0 where
  pub of_map : map ≡ k.map
  pub of_zoom : k.meta.z ≡ z
  pub holds : Holds (meta_square k.meta) b 0

-- the version of a mark that is clean
abbrev pub clean_version : Option Mark → Option ℕ
clean_version None = None
clean_version (Some m) = if m.clean then Some m.version else None
