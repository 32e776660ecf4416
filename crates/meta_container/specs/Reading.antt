-- What is read of bytes as a META container, and the first fault of those that are none. The faults
-- come in the order of reading: the length of the mark, the mark, the length of the head, the
-- count, the place, and the pairs.
use Rattle.std.specs.Prelude.{◌≡◌, ℕ, ◌+◌, ◌*◌, ◌%◌, ◌^◌, ◌==◌, ◌&&◌, ◌||◌, not, Bool, List, length, take, drop, map, filter, find, codes, nat_lt, nat_le, Option, Some, None, Result, Ok, Err, option_map, if◌then◌else◌}
use Rattle.std.specs.List.{range_with_len}
use Rattle.std.specs.Str.{bytes_eq}
use Rattle.std.specs.Borrow.{Bor}
use Rattle.byteorder.specs.Endian.{little_number}
use Rattle.farm_base.specs.declared.faults.MetaFault.{MetaFault}
use Rattle.farm_base.specs.declared.faults.MetaFault.TheVariants.{Short, Magic, Compressed, Count, Place, Index}
use Rattle.plain_world.specs.declared.world.Meta.{Meta}
use Rattle.meta_container.specs.declared.container.Entry.{Entry}
use Rattle.meta_container.specs.declared.container.Listing.{Listing}
use Rattle.meta_container.specs.Container.{head_len}

-- the number in the four bytes at a place of the file
abbrev pub number_at : ℕ → List ℕ → ℕ
number_at place bytes = little_number 4 (drop place bytes)

-- the mark: the first four bytes
abbrev pub mark : List ℕ → List ℕ
mark bytes = take 4 bytes

-- the first fault that does not speak of a metatile
abbrev pub head_fault : List ℕ → Option MetaFault
head_fault bytes =
    if nat_lt (length bytes) 4 then Some (Short (length bytes))
    else if bytes_eq (mark bytes) (codes "METZ") then Some Compressed
    else if not (bytes_eq (mark bytes) (codes "META")) then Some Magic
    else if nat_lt (length bytes) head_len then Some (Short (length bytes))
    else if not (number_at 4 bytes == 64) then Some (Count (number_at 4 bytes))
    else None

-- the metatile that the head names, if it is one
abbrev pub head_meta : List ℕ → Meta
head_meta bytes = record { z = number_at 16 bytes; x = number_at 8 bytes; y = number_at 12 bytes }

-- the fault that names what stands in the head in place of a metatile
abbrev pub wrong_place : List ℕ → MetaFault
wrong_place bytes = Place (number_at 8 bytes) (number_at 12 bytes) (number_at 16 bytes)

-- are two metatiles the same?
abbrev pub same_meta : Meta → Meta → Bool
same_meta m n = m.x == n.x && (m.y == n.y && m.z == n.z)

-- is this a metatile: zoom at most 18, column and row below 2^z and multiples of 8?
abbrev pub is_meta : Meta → Bool
is_meta m =
    nat_le m.z 18 && nat_lt m.x (2 ^ m.z) && nat_lt m.y (2 ^ m.z) && m.x % 8 == 0 && m.y % 8 == 0

-- the pair of a place
abbrev pub entry_at : List ℕ → ℕ → Entry
entry_at bytes place = record {
  place = place;
  offset = number_at (20 + 8 * place) bytes;
  size = number_at (24 + 8 * place) bytes;
}

-- the pair names a tile: its size is not 0
abbrev pub is_present : Entry → Bool
is_present entry = not (entry.size == 0)

-- a pair that begins in the head
abbrev pub begins_in_head : Entry → Bool
begins_in_head entry = nat_lt entry.offset head_len

-- a pair that begins in the head or ends past so many bytes
abbrev pub is_wild : ℕ → Entry → Bool
is_wild len entry = begins_in_head entry || nat_lt len (entry.offset + entry.size)

-- the place names another metatile than the asked one
abbrev pub place_fault : List ℕ → Meta → Option MetaFault
place_fault bytes m = if same_meta (head_meta bytes) m then None else Some (wrong_place bytes)

-- the place names no metatile
abbrev pub no_place_fault : List ℕ → Option MetaFault
no_place_fault bytes = if is_meta (head_meta bytes) then None else Some (wrong_place bytes)

-- the fault, if there is one, and else what follows
abbrev pub unless : {A : Type 0} → Option MetaFault → Result A MetaFault → Result A MetaFault
unless (Some fault) later = Err fault
unless None later = later

-- the bytes of a tile in the container of a metatile
unfoldable pub tile_found : List ℕ → Meta → ℕ → Result (List ℕ) MetaFault
tile_found bytes m place =
    unless (head_fault bytes) (unless (place_fault bytes m)
    (let entry = entry_at bytes place in
    if not (is_present entry) || is_wild (length bytes) entry then Err (Index place)
    else Ok (take entry.size (drop entry.offset bytes))))

-- the pair of a tile in the head of the container of a metatile; the bytes behind the head are not
-- there
unfoldable pub entry_found : List ℕ → Meta → ℕ → Result Entry MetaFault
entry_found head m place =
    unless (head_fault head) (unless (place_fault head m)
    (let entry = entry_at head place in
    if not (is_present entry) || begins_in_head entry then Err (Index place) else Ok entry))

-- the pairs that name tiles among the first places, in order
unfoldable pub entries_below : List ℕ → ℕ → List Entry
entries_below bytes count = filter is_present (map (entry_at bytes) (range_with_len 0 count))

-- the pairs that name tiles among all 64 places, in order
unfoldable pub entries_in : List ℕ → List Entry
entries_in bytes = entries_below bytes 64

-- the fault of the first pair that is wild
abbrev pub first_wild : ℕ → List Entry → Option MetaFault
first_wild len entries = option_map (λ entry. Index entry.place) (find (is_wild len) entries)

-- the metatile of a container and its tiles' pairs
unfoldable pub listing_found : List ℕ → Result Listing MetaFault
listing_found bytes =
    unless (head_fault bytes)
    (unless (no_place_fault bytes) (unless (first_wild (length bytes) (entries_in bytes))
    (Ok (record { meta = head_meta bytes; entries = record { items = entries_in bytes } }))))

-- what a reader that hands out a part of the bytes answers
abbrev pub Hands : Result (List ℕ) MetaFault → Result (Bor (List ℕ)) MetaFault → Type 0
Hands found (Ok part) = found ≡ Ok part.now
Hands found (Err fault) = found ≡ Err fault
