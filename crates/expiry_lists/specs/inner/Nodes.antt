-- The tables that Marks keep. One has the version of each key that was shown. The other has a spot
-- for the place of each such key, and for each place above one: words of bits, one for each of 64
-- maps. A key is clean where its map has its bit among its place's own: so an expiry of a place
-- touches its spot alone, for all maps of a group at once. The square of a place of zoom 3 or later
-- has four squares of the next zoom, whose places are found by their numbers; so the spots are a
-- quadtree for all maps of a group, and the places are its links.
use Rattle.std.specs.Prelude.{ℕ, ◌+◌, ◌-◌, ◌*◌, ◌/◌, ◌%◌, ◌^◌, ◌≤◌, ◌<◌, ◌≡◌, ◌==◌, ◌&&◌, Bool, true, false, List, [], ◌∷◌, map, Option, Some, None, is_some, if◌then◌else◌}
use Rattle.std.specs.Int.{bit_at}
use Rattle.std.specs.Map.{lookup}
use Rattle.farm_history.specs.declared.keys.Key.{Key}
use Rattle.farm_history.specs.declared.keys.Mark.{Mark}
use Rattle.farm_history.specs.Plans.{same_key}
use Rattle.plain_world.specs.World.{IsMeta}
use Rattle.expiry_lists.specs.declared.table.Spot.{Spot}
use Rattle.expiry_lists.specs.Marks.{Shown}

-- a key that was shown has a node, with its mark while it is shown
pub record Node : Type 0 where
  pub mark : Option Mark

-- the key whose square is the quarter's that holds this key's square, for keys from zoom 4 on
abbrev pub parent : Key → Key
parent k = record {
  map = k.map;
  meta = record { z = k.meta.z - 1; x = k.meta.x / 16 * 8; y = k.meta.y / 16 * 8 };
}

-- the place of a key, for its group of 64 maps: the group's number stands for the map's
abbrev pub place_of : Key → Key
place_of k = record { map = k.map / 64; meta = k.meta }

-- the bit of the key's map in the words of its group
abbrev pub bit_of : Key → ℕ
bit_of k = k.map % 64

-- whether a word has that bit
abbrev pub has_bit : ℕ → ℕ → Bool
has_bit word b = bit_at word b == 1

-- whether the key stands at that place, and its map has its bit in the word
abbrev pub at_bits : Key → ℕ → Key → Bool
at_bits place word k = same_key place (place_of k) && has_bit word (bit_of k)

-- the key of the map of that bit at a place
abbrev pub key_at : Key → ℕ → Key
key_at p b = record { map = p.map * 64 + b; meta = p.meta }

-- the tables as they are kept: the versions and the spots with their keys, in the order in which
-- they came, and for how many more of each there is room
pub record TablesSeen : Type 0 where
  pub versions : List (Key × Option ℕ)
  pub spots : List (Key × Spot)
  pub room : ℕ
  pub free : ℕ

-- the same, with what each key has beside its version
pub record NodeTable : Type 0 where
  pub entries : List (Key × Node)
  pub spots : List (Key × Spot)
  pub room : ℕ
  pub free : ℕ

-- the node of a key
abbrev pub node_of : List (Key × Node) → Key → Option Node
node_of es k = lookup (same_key k) es

-- a node's mark, where there is one
abbrev pub node_mark : Option Node → Option Mark
node_mark None = None
node_mark (Some n) = n.mark

-- whether there is a mark and it is clean
abbrev pub is_clean : Option Mark → Bool
is_clean None = false
is_clean (Some m) = m.clean

-- whether the key has a node
abbrev pub has_node : List (Key × Node) → Key → Bool
has_node es k = is_some (node_of es k)

-- whether the key is clean
abbrev pub is_clean_at : List (Key × Node) → Key → Bool
is_clean_at es k = is_clean (node_mark (node_of es k))

-- a mark, where there is one, before what else is shown
abbrev pub shown_before : Key → Option Mark → List Shown → List Shown
shown_before key None rest = rest
shown_before key (Some m) rest = record { key = key; mark = m } ∷ rest

-- what the table shows: the nodes with a mark
abbrev pub shown_of : List (Key × Node) → List Shown
shown_of [] = []
shown_of (e ∷ es) = shown_before e.0 e.1.mark (shown_of es)

-- the spot of a place
abbrev pub spot_of : List (Key × Spot) → Key → Option Spot
spot_of ss p = lookup (same_key p) ss

-- whether the place has a spot
abbrev pub has_spot : List (Key × Spot) → Key → Bool
has_spot ss p = is_some (spot_of ss p)

-- the word of the maps whose keys at a place may be clean
abbrev pub own_word : Option Spot → ℕ
own_word None = 0
own_word (Some s) = s.own

-- the word of the maps that may have a clean key at a place or below it
abbrev pub live_word : Option Spot → ℕ
live_word None = 0
live_word (Some s) = s.live

-- whether the map of that bit has its bit in the one or the other
abbrev pub owns_at : List (Key × Spot) → Key → ℕ → Bool
owns_at ss p b = has_bit (own_word (spot_of ss p)) b

abbrev pub lives_at : List (Key × Spot) → Key → ℕ → Bool
lives_at ss p b = has_bit (live_word (spot_of ss p)) b

-- the version of a key
abbrev pub version_of : List (Key × Option ℕ) → Key → Option (Option ℕ)
version_of vs k = lookup (same_key k) vs

-- the mark of a key that has that version: it is clean where its bit is among its place's own
abbrev pub seen_mark : List (Key × Spot) → Key → Option ℕ → Option Mark
seen_mark ss k None = None
seen_mark ss k (Some v) =
    Some (record { version = v; clean = owns_at ss (place_of k) (bit_of k) })

abbrev pub seen_node : List (Key × Spot) → Key × Option ℕ → Key × Node
seen_node ss v = (v.0, record { mark = seen_mark ss v.0 v.1 })

abbrev pub seen_nodes : List (Key × Spot) → List (Key × Option ℕ) → List (Key × Node)
seen_nodes ss vs = map (seen_node ss) vs

-- each own bit is that of a clean key
abbrev pub AreOwned : List (Key × Node) → List (Key × Spot) → Type 0
AreOwned es ss =
    (p : Key) (b : ℕ) → b < 64 → owns_at ss p b ≡ true → is_clean_at es (key_at p b) ≡ true

-- the key has that mark, and each other key what it had
abbrev pub Gives : Key → Option Node → List (Key × Node) → List (Key × Node) → Type 0
Gives key n old new = (k : Key) → node_of new k ≡ (if same_key key k then n else node_of old k)

-- one bit of the own ones of the key's place is set or cleared, and all else is as it was
pub record Owns (key : Key) (clean : Bool) (old new : List (Key × Spot)) : Type 0 where
  pub owns : (p : Key) (b : ℕ) → b < 64 → owns_at new p b
      ≡ (if same_key (place_of key) p && (b == bit_of key) then clean else owns_at old p b)
  pub lives : (p : Key) (b : ℕ) → lives_at new p b ≡ lives_at old p b
  pub there : (p : Key) → has_spot new p ≡ has_spot old p

-- the keys and the places are those of metatiles, a shown key's place has a spot, above each spot
-- stand spots up to zoom 3, a clean key has its bits, and what stands above a live one is live
pub record IsTree (es : List (Key × Node)) (ss : List (Key × Spot)) : Type 0 where
  pub metas : (k : Key) → has_node es k ≡ true → IsMeta k.meta
  pub places : (p : Key) → has_spot ss p ≡ true → IsMeta p.meta
  pub groups : (p : Key) → has_spot ss p ≡ true → p.map < 2 ^ 26
  pub spotted : (k : Key) → has_node es k ≡ true → has_spot ss (place_of k) ≡ true
  pub rooted : (p : Key) → 3 < p.meta.z → has_spot ss p ≡ true → has_spot ss (parent p) ≡ true
  pub own : (k : Key) → is_clean_at es k ≡ true → owns_at ss (place_of k) (bit_of k) ≡ true
  pub clean_live : (k : Key) → 3 ≤ k.meta.z → is_clean_at es k ≡ true
      → lives_at ss (place_of k) (bit_of k) ≡ true
  pub rises : (p : Key) (b : ℕ) → 3 < p.meta.z → lives_at ss p b ≡ true
      → lives_at ss (parent p) b ≡ true

-- nothing is live that was not
abbrev pub Quieter : List (Key × Spot) → List (Key × Spot) → Type 0
Quieter old new = (p : Key) (b : ℕ) → lives_at new p b ≡ true → lives_at old p b ≡ true
