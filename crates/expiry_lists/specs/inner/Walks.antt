-- Walks over the quadtree of a map: which keys they meet, as they go.
use Rattle.std.specs.Prelude.{ℕ, suc, zero, ◌+◌, ◌*◌, ◌/◌, ◌%◌, ◌≡◌, ◌≤◌, Bool, false, ◌||◌, ◌&&◌, List}
use Rattle.farm_history.specs.declared.keys.Key.{Key}
use Rattle.farm_history.specs.Plans.{same_key}
use Rattle.plain_world.specs.World.{IsMeta}
use Rattle.expiry_lists.specs.Marks.{Shown, dirtied_marks, clean_marks}
use Rattle.expiry_lists.specs.inner.Nodes.{NodeTable, parent, place_of, bit_of, has_bit, has_node, has_spot, shown_of, IsTree, Quieter}

-- the key of quarter j of a key's square, by rows
abbrev pub child : ℕ → Key → Key
child j k = record {
  map = k.map;
  meta = record {
    z = k.meta.z + 1;
    x = k.meta.x * 2 + 8 * (j % 2);
    y = k.meta.y * 2 + 8 * (j / 2);
  };
}

-- whether k is top, or below it at most n zooms
unfoldable pub is_under : ℕ → Key → Key → Bool
is_under zero top k = same_key top k
is_under (suc n) top k =
    (((is_under n (child 0 top) k || is_under n (child 1 top) k) || is_under n (child 2 top) k)
    || is_under n (child 3 top) k) || same_key top k

-- whether k is above low by at most n zooms
unfoldable pub is_above : ℕ → Key → Key → Bool
is_above zero low k = false
is_above (suc n) low k = is_above n (parent low) k || same_key (parent low) k

-- a metatile of zoom 3 or later, whose square is not shared with another zoom's
pub record IsNode (k : Key) : Type 0 where
  pub deep : 3 ≤ k.meta.z
  pub meta : IsMeta k.meta

-- the keys that pass the test were made dirty, and so many of them were clean
pub record Dirties (test : Key → Bool) (old new : List Shown) (count : ℕ) : Type 0 where
  pub marks : new ≡ dirtied_marks test old
  pub counted : count ≡ clean_marks test old

-- what an expiry does to the tables: the keys that pass the test were made dirty, the tables are a
-- quadtree with the same keys and places, nothing is live that was not, and no room is taken
pub record Walks (test : Key → Bool) (old new : NodeTable) (count : ℕ) : Type 0 where
  pub dirties : Dirties test (shown_of old.entries) (shown_of new.entries) count
  pub tree : IsTree new.entries new.spots
  pub there : (k : Key) → has_node new.entries k ≡ has_node old.entries k
  pub spotted : (p : Key) → has_spot new.spots p ≡ has_spot old.spots p
  pub quieter : Quieter old.spots new.spots
  pub room : new.room ≡ old.room
  pub free : new.free ≡ old.free

-- whether the key's place is under that place, and its map has its bit in the mask
abbrev pub under_bits : ℕ → Key → ℕ → Key → Bool
under_bits n top mask k = is_under n top (place_of k) && has_bit mask (bit_of k)

-- whether it is above it
abbrev pub above_bits : ℕ → Key → ℕ → Key → Bool
above_bits n low mask k = is_above n low (place_of k) && has_bit mask (bit_of k)
