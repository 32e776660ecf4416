-- What a farm is started with, as far as its history depends on it; keys, connections and queues.
use Rattle.std.specs.Prelude.{ℕ, ◌+◌, ◌^◌, Bool, true, false, ◌&&◌, not, ◌==◌, nat_lt, ◌≡◌, List, [], ◌∷◌, filter, count_by, find, slice_get, Option, Some, None}
use Rattle.std.specs.List.{list_any}
use Rattle.std.specs.Option.{option_or}
use Rattle.farm_base.specs.declared.faults.ApplyFault.{ApplyFault}
use Rattle.plain_world.specs.declared.world.Tile.{Tile}
use Rattle.plain_world.specs.declared.world.Meta.{Meta}
use Rattle.plain_world.specs.World.{squares_meet, tile_square, meta_square, meta_of}
use Rattle.farm_history.specs.declared.keys.Key.{Key}
use Rattle.farm_history.specs.declared.asks.Spot.{Spot}
use Rattle.farm_history.specs.declared.asks.Cmd.{Cmd}
use Rattle.farm_history.specs.declared.queues.Conn.{Conn}
use Rattle.farm_history.specs.declared.queues.Queue.{Queue}
use Rattle.farm_history.specs.declared.queues.Limits.{Limits}

-- A plan. Maps, updates and styles go by their numbers, and data are the numbers of the updates
-- that made them, in order, so that nothing here needs a feature, a style or a pixel
pub record Plan : Type 0 where
  -- the greatest zoom of each map, by its place
  pub max_zooms : List ℕ
  -- how many metatiles may wait in each queue
  pub limits : Limits
  -- how many drawings may be under way at once
  pub workers : ℕ
  -- how many updates the table has
  pub updates : ℕ
  -- the map of each style of the table
  pub restyles : List ℕ
  -- the first fault of update number n over the data, or none
  pub fault : List ℕ → ℕ → Option ApplyFault
  -- whether a feature that update number n names over the data, old or new, reaches the key's
  -- metatile square
  pub reaches : List ℕ → ℕ → Key → Bool
  -- the bytes of a map's tile in the style of that number (none: the map's first style) over the
  -- data; any function, which the laws do not look into
  pub drawing : ℕ → Option ℕ → Tile → List ℕ → List ℕ

-- whether two metatiles are one
abbrev pub same_meta : Meta → Meta → Bool
same_meta a b = (a.z == b.z) && ((a.x == b.x) && (a.y == b.y))

-- whether two keys are one
abbrev pub same_key : Key → Key → Bool
same_key a b = (a.map == b.map)
    && ((a.meta.z == b.meta.z) && ((a.meta.x == b.meta.x) && (a.meta.y == b.meta.y)))

-- whether two connections are one
abbrev pub same_conn : Conn → Conn → Bool
same_conn a b = (a.front == b.front) && (a.number == b.number)

-- whether the option holds that number
abbrev pub holds : Option ℕ → ℕ → Bool
holds None n = false
holds (Some m) n = m == n

-- whether a key is among the keys
abbrev pub is_in : Key → List Key → Bool
is_in k ks = list_any (λ x. same_key x k) ks

-- no two of the list have one key
abbrev pub AreApart : {X : Type 0} → (X → Key) → List X → Type 0
AreApart key [] = Unit {0}
AreApart key (x ∷ xs) = (list_any (λ y. same_key (key y) (key x)) xs ≡ false) × AreApart key xs

-- the key of a key, so that AreApart own_key says of a list of keys that no two are one
abbrev pub own_key : Key → Key
own_key k = k

-- the tile of a spot
abbrev pub spot_tile : Spot → Tile
spot_tile spot = record { z = spot.z; x = spot.x; y = spot.y }

-- the map that is given, or the first
abbrev pub map_or_first : Option ℕ → ℕ
map_or_first None = 0
map_or_first (Some map) = map

-- the map of a spot; a spot without a map, which is never servable, counts as the first map's
abbrev pub map_of : Spot → ℕ
map_of spot = map_or_first spot.map

-- the key of a spot: its map, and the metatile of its tile
abbrev pub key_of : Spot → Key
key_of spot = record { map = map_of spot; meta = meta_of (spot_tile spot) }

-- whether there is a limit, and n is at most that
abbrev pub is_at_most : ℕ → Option ℕ → Bool
is_at_most n None = false
is_at_most n (Some m) = nat_lt n (m + 1)

-- the greatest zoom of the map, where a map is given and the table has it
abbrev pub greatest_zoom : List ℕ → Option ℕ → Option ℕ
greatest_zoom zooms None = None
greatest_zoom zooms (Some map) = slice_get zooms map

-- whether a spot can be served: its map is given and in the table, its zoom is at most the map's
-- greatest, and its column and row are below 2^z
unfoldable pub is_servable : Plan → Spot → Bool
is_servable p spot = is_at_most spot.z (greatest_zoom p.max_zooms spot.map)
    && (nat_lt spot.x (2 ^ spot.z) && nat_lt spot.y (2 ^ spot.z))

-- whether a tile's square overlaps the square of the key's metatile, whatever the map
unfoldable pub overlaps : Tile → Key → Bool
overlaps tile k = squares_meet (tile_square tile) (meta_square k.meta)

-- whether the table has a style of that number, and it is one of that map
unfoldable pub is_style_of : Plan → ℕ → ℕ → Bool
is_style_of p n map = holds (slice_get p.restyles n) map

-- the place of a queue in the order in which the queues are taken, which is renderd's
abbrev pub queue_place : Queue → ℕ
queue_place Queue.Prio = 0
queue_place Queue.Request = 1
queue_place Queue.Low = 2
queue_place Queue.Dirty = 3
queue_place Queue.Bulk = 4

-- whether two queues are one
abbrev pub same_queue : Queue → Queue → Bool
same_queue a b = queue_place a == queue_place b

-- how many metatiles may wait in a queue
abbrev pub limit_of : Limits → Queue → ℕ
limit_of limits Queue.Prio = limits.prio
limit_of limits Queue.Request = limits.request
limit_of limits Queue.Low = limits.low
limit_of limits Queue.Dirty = limits.dirty
limit_of limits Queue.Bulk = limits.bulk

-- the queue of a command
abbrev pub own_queue : Cmd → Queue
own_queue Cmd.Prio = Queue.Prio
own_queue Cmd.Render = Queue.Request
own_queue Cmd.Low = Queue.Low
own_queue Cmd.Dirty = Queue.Dirty
own_queue Cmd.Bulk = Queue.Bulk

-- whether the command only marks the metatile dirty
abbrev pub is_dirty_command : Cmd → Bool
is_dirty_command Cmd.Dirty = true
is_dirty_command _ = false

-- whether the command can lift a metatile out of the dirty or bulk queue
abbrev pub is_lifting : Cmd → Bool
is_lifting Cmd.Prio = true
is_lifting Cmd.Render = true
is_lifting Cmd.Low = true
is_lifting _ = false

-- a metatile that waits, with its queue
pub record Waits : Type 0 where
  pub queue : Queue
  pub key : Key

-- whether a key waits
abbrev pub waits_in : List Waits → Key → Bool
waits_in ws k = list_any (λ w. same_key w.key k) ws

-- whether a key waits in that queue
abbrev pub waits_in_queue : List Waits → Queue → Key → Bool
waits_in_queue ws queue k = list_any (λ w. same_queue w.queue queue && same_key w.key k) ws

-- those that wait, without the key
abbrev pub without_key : Key → List Waits → List Waits
without_key k ws = filter (λ w. not (same_key w.key k)) ws

-- how many wait in a queue
abbrev pub how_many_in : List Waits → Queue → ℕ
how_many_in ws queue = count_by (λ w. same_queue w.queue queue) ws

-- whether a queue is below its limit
abbrev pub has_room : Limits → Queue → List Waits → Bool
has_room limits queue ws =
    nat_lt (count_by (λ w. same_queue w.queue queue) ws) (limit_of limits queue)

-- the first that waits in a queue
abbrev pub first_in : List Waits → Queue → Option Waits
first_in ws queue = find (λ w. same_queue w.queue queue) ws

-- the one that is taken next: the first of the first queue in which one waits, in renderd's order
-- of its queues: prio, request, low, dirty, bulk
unfoldable pub next : List Waits → Option Waits
next ws = option_or (first_in ws Queue.Prio) (option_or (first_in ws Queue.Request) (option_or
    (first_in ws Queue.Low) (option_or (first_in ws Queue.Dirty) (first_in ws Queue.Bulk))))
