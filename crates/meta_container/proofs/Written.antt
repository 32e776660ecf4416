-- What is read of a container that was written.
use Rattle.std.proofs.Common.{◌≡◌, ℕ, zero, suc, ◌+◌, ◌*◌, ◌/◌, ◌%◌, ◌^◌, ◌<◌, ◌≤◌, ◌==◌, ◌&&◌, ◌||◌, List, [], ◌∷◌, ◌++◌, length, get_or, take, drop, not, true, false, cond, nat_lt, Some, None, Ok, refl, sym, ap, subst, ◌∙◌, arith, length-append}
use Rattle.std.specs.Prelude.{codes}
use Rattle.std.specs.List.{flat_map, list_all}
use Rattle.std.specs.Str.{bytes_eq}
use Rattle.std.proofs.Math.Nat.{mul-le-mul_right, add-mul, pow-le-pow_right}
use Rattle.std.proofs.Math.Seq.{drop-append_seam, take-append_seam, drop-append-add}
use Rattle.std.proofs.lemmas.Bool.Decides.{nat_tests}
use Rattle.std.proofs.lemmas.List.{drop-drop, append-nil}
use Rattle.std.proofs.lemmas.List.FromFn.{length-map-range_with_len, get_or-map-range_with_len}
use Rattle.std.proofs.lemmas.List.Sums.{sum_by-cons, sum_by_more_le, AllPass-from_list_all}
use Rattle.byteorder.specs.Endian.{little_bytes, little_number}
use Rattle.byteorder.specs.Numbers.{little_number-reads_back}
use Rattle.plain_world.specs.declared.world.Meta.{Meta}
use Rattle.plain_world.specs.declared.world.Tile.{Tile}
use Rattle.plain_world.specs.World.{IsTile, IsMeta, meta_of, tiles_across, index_place}
use Rattle.meta_container.specs.declared.container.Entry.{Entry}
use Rattle.meta_container.specs.declared.container.Span.{Span}
use Rattle.meta_container.specs.Container.{span_bytes, tile_bytes, bytes_of, head_len, has_tile, rank, span_at, index_below, container_of, is_stored, AreTilesOf}
use Rattle.meta_container.specs.Reading.{number_at, mark, head_fault, wrong_place, entry_at, is_present, begins_in_head, is_wild, place_fault, tile_found, entry_found}
use Rattle.meta_container.specs.Laws.{meta_tile, TilesComeBack, EntriesComeBack}

-- the head of a container
abbrev head : Meta → List Span → List ℕ
head m index =
    codes "META" ++ little_bytes 4 64 ++ little_bytes 4 m.x ++ little_bytes 4 m.y ++ little_bytes 4 m.z ++ flat_map span_bytes index

length-spans : (spans : List Span) → length (flat_map span_bytes spans) ≡ 8 * length spans
length-spans [] = refl
length-spans (s ∷ ss) = let e = length-spans ss in omega arith

length-head : (m : Meta) (index : List Span) → length index ≡ 64 → length (head m index) ≡ 532
length-head m index l = let e = length-spans index in omega arith

length-joined : (tiles : List (List ℕ)) → length (tile_bytes tiles) ≡ bytes_of tiles
length-joined [] = refl
length-joined (t ∷ ts) =
    length-append t (tile_bytes ts) ∙ ap (λ n. length t + n) (length-joined ts) ∙ sym (sum_by-cons (λ (tile : List ℕ). length tile) t ts)

-- the pair at a place of the index
record SpanThere (spans : List Span) (k : ℕ) (more : List ℕ) (d : Span) : Type 0 where
  rest : List ℕ
  there : drop (8 * k) (flat_map span_bytes spans ++ more) ≡ span_bytes (get_or spans k d) ++ rest

span_there : (spans : List Span) (k : ℕ) (more : List ℕ) (d : Span) → k < length spans → SpanThere spans k more d
span_there [] k more d h = absurd (omega arith)
span_there (s ∷ ss) zero more d h = record { rest = flat_map span_bytes ss ++ more; there = refl }
span_there (s ∷ ss) (suc k) more d h =
    let later = span_there ss k more d (omega arith) in
    let n : 8 * suc k ≡ 8 + 8 * k = omega arith in
    record {
      rest = later.rest;
      there = ap (λ i. drop i (flat_map span_bytes (s ∷ ss) ++ more)) n ∙ sym (drop-drop (8 * k) 8 (flat_map span_bytes (s ∷ ss) ++ more)) ∙ later.there;
    }

-- the head holds no fault of its own
head_by : (bytes : List ℕ) → nat_lt (length bytes) 4 ≡ false → bytes_eq (mark bytes) (codes "METZ") ≡ false
    → bytes_eq (mark bytes) (codes "META") ≡ true → nat_lt (length bytes) head_len ≡ false → (number_at 4 bytes == 64) ≡ true
    → head_fault bytes ≡ None
head_by bytes a b c d e = rw (a, b, c, d, e) refl

not_below : (a b : ℕ) → b ≤ a → nat_lt a b ≡ false
not_below a b h = grind (arith, nat_tests)

no_head_fault : (m : Meta) (index : List Span) (more : List ℕ) → length index ≡ 64 → head_fault (head m index ++ more) ≡ None
no_head_fault m index more l =
    let e = length-head m index l in
    let n = length-append (head m index) more in
    head_by (head m index ++ more) (not_below _ _ (omega arith)) refl refl (not_below _ _ (omega arith)) refl

-- the head names its metatile
small_column : (m : Meta) → IsMeta m → m.x < 2 ^ 32
small_column m is = let p : 2 ^ m.z ≤ 2 ^ 18 = pow-le-pow_right {n = 2} (omega arith) is.z_fits in let f = is.x_fits in omega arith

small_row : (m : Meta) → IsMeta m → m.y < 2 ^ 32
small_row m is = let p : 2 ^ m.z ≤ 2 ^ 18 = pow-le-pow_right {n = 2} (omega arith) is.z_fits in let f = is.y_fits in omega arith

x_there : (m : Meta) (index : List Span) (more : List ℕ) → IsMeta m → number_at 8 (head m index ++ more) ≡ m.x
x_there m index more is =
    little_number-reads_back 4 m.x (little_bytes 4 m.y ++ little_bytes 4 m.z ++ flat_map span_bytes index ++ more) (small_column m is)

y_there : (m : Meta) (index : List Span) (more : List ℕ) → IsMeta m → number_at 12 (head m index ++ more) ≡ m.y
y_there m index more is =
    little_number-reads_back 4 m.y (little_bytes 4 m.z ++ flat_map span_bytes index ++ more) (small_row m is)

z_there : (m : Meta) (index : List Span) (more : List ℕ) → IsMeta m → number_at 16 (head m index ++ more) ≡ m.z
z_there m index more is =
    let z = is.z_fits in
    little_number-reads_back 4 m.z (flat_map span_bytes index ++ more) (omega arith)

same_numbers : (a b c : ℕ) (m : Meta) → a ≡ m.x → b ≡ m.y → c ≡ m.z → (a == m.x && (b == m.y && c == m.z)) ≡ true
same_numbers a b c m x y z = grind (arith, nat_tests)

no_place_fault : (m : Meta) (index : List Span) (more : List ℕ) → IsMeta m → place_fault (head m index ++ more) m ≡ None
no_place_fault m index more is =
    ap (λ b. cond b None (Some (wrong_place (head m index ++ more))))
    (same_numbers (number_at 8 (head m index ++ more)) (number_at 12 (head m index ++ more)) (number_at 16 (head m index ++ more)) m
    (x_there m index more is) (y_there m index more is) (z_there m index more is))

-- the pair that is read at a place
entry_there : (m : Meta) (index : List Span) (more : List ℕ) (k : ℕ) (s : Span) → k < length index → get_or index k s ≡ s
    → s.offset < 2 ^ 32 → s.size < 2 ^ 32
    → entry_at (head m index ++ more) k ≡ record { place = k; offset = s.offset; size = s.size }
entry_there m index more k s h at o z =
    let there = span_there index k more s h in
    let first : drop (20 + 8 * k) (head m index ++ more) ≡ span_bytes s ++ there.rest =
    sym (drop-drop (8 * k) 20 (head m index ++ more)) ∙ there.there ∙ ap (λ t. span_bytes t ++ there.rest) at in
    let n : 24 + 8 * k ≡ (20 + 8 * k) + 4 = omega arith in
    let second : drop (24 + 8 * k) (head m index ++ more) ≡ little_bytes 4 s.size ++ there.rest =
    ap (λ i. drop i (head m index ++ more)) n ∙ sym (drop-drop 4 (20 + 8 * k) (head m index ++ more)) ∙ ap (drop 4) first in
    let offset : number_at (20 + 8 * k) (head m index ++ more) ≡ s.offset =
    ap (little_number 4) first ∙ little_number-reads_back 4 s.offset (little_bytes 4 s.size ++ there.rest) o in
    let size : number_at (24 + 8 * k) (head m index ++ more) ≡ s.size =
    ap (little_number 4) second ∙ little_number-reads_back 4 s.size there.rest z in
    ap (λ (x : ℕ). record { place = k; offset = x; size = number_at (24 + 8 * k) (head m index ++ more) }) offset
    ∙ ap (λ (x : ℕ). record { place = k; offset = s.offset; size = x }) size

-- the tile's own place
place_parts : (t : Tile) → (index_place t / 8 ≡ t.x % 8) × (index_place t % 8 ≡ t.y % 8) × (index_place t < 64)
place_parts t = (omega arith, omega arith, omega arith)

tests_hold : (a p q : ℕ) → p < a → q < a → (nat_lt p a && nat_lt q a) ≡ true
tests_hold a p q h g = grind (arith, nat_tests)

tile_there : (t : Tile) → IsTile t → has_tile (tiles_across (meta_of t)) (index_place t) ≡ true
tile_there t is =
    let p = place_parts t in
    let x = is.x_fits in
    let y = is.y_fits in
    tests_hold (tiles_across (meta_of t)) (index_place t / 8) (index_place t % 8) (omega arith) (omega arith)

below_all : (a p q n : ℕ) → p < a → q < a → n ≡ a * a → p * a + q < n
below_all a p q n h g e =
    let m : (p + 1) * a ≤ a * a = mul-le-mul_right a (omega arith) in
    let d = add-mul p 1 a in
    omega arith

rank_below : (t : Tile) (tiles : List (List ℕ)) → IsTile t → length tiles ≡ tiles_across (meta_of t) * tiles_across (meta_of t)
    → rank (tiles_across (meta_of t)) (index_place t) < length tiles
rank_below t tiles is count =
    let p = place_parts t in
    let x = is.x_fits in
    let y = is.y_fits in
    below_all (tiles_across (meta_of t)) (index_place t / 8) (index_place t % 8) (length tiles) (omega arith) (omega arith) count

-- the tiles behind those before a tile begin with it
joined_at : (tiles : List (List ℕ)) (r : ℕ) → r < length tiles
    → drop (bytes_of (take r tiles)) (tile_bytes tiles) ≡ get_or tiles r [] ++ tile_bytes (drop (suc r) tiles)
joined_at [] r h = absurd (omega arith)
joined_at (t ∷ ts) zero h = refl
joined_at (t ∷ ts) (suc r) h =
    ap (λ n. drop n (t ++ tile_bytes ts)) (sum_by-cons (λ (tile : List ℕ). length tile) t (take r ts))
    ∙ drop-append-add t (tile_bytes ts) (bytes_of (take r ts))
    ∙ joined_at ts r (omega arith)

-- the pair of the tile of number r
abbrev span_of : List (List ℕ) → ℕ → Span
span_of tiles r = record { offset = 532 + bytes_of (take r tiles); size = length (get_or tiles r []) }

-- the part that the pair names
part_there : (m : Meta) (index : List Span) (tiles : List (List ℕ)) (r : ℕ) → length index ≡ 64 → r < length tiles
    → take (span_of tiles r).size (drop (span_of tiles r).offset (head m index ++ tile_bytes tiles)) ≡ get_or tiles r []
part_there m index tiles r l h =
    let len = length-head m index l in
    let behind : drop 532 (head m index ++ tile_bytes tiles) ≡ tile_bytes tiles =
    ap (λ n. drop n (head m index ++ tile_bytes tiles)) (sym len) ∙ drop-append_seam (head m index) (tile_bytes tiles) in
    ap (take (length (get_or tiles r [])))
    (sym (drop-drop (bytes_of (take r tiles)) 532 (head m index ++ tile_bytes tiles)) ∙ ap (drop (bytes_of (take r tiles))) behind ∙ joined_at tiles r h)
    ∙ take-append_seam (get_or tiles r []) (tile_bytes (drop (suc r) tiles))

-- how far it reaches
within : (tiles : List (List ℕ)) (r : ℕ) → r < length tiles → bytes_of (take r tiles) + length (get_or tiles r []) ≤ bytes_of tiles
within tiles r h = sum_by_more_le (λ (tile : List ℕ). length tile) tiles r [] h

stored_at : (tiles : List (List ℕ)) (r : ℕ) → list_all is_stored tiles ≡ true → r < length tiles → 0 < length (get_or tiles r [])
stored_at tiles r h l = above (length (get_or tiles r [])) (AllPass-from_list_all is_stored tiles h r [] l)
  where
    above : (n : ℕ) → nat_lt 0 n ≡ true → 0 < n
    above n e = grind (arith, nat_tests)

-- the pair passes both tests
passes : (len place offset size : ℕ) → 532 ≤ offset → 0 < size → offset + size ≤ len
    → (not (is_present (record { place = place; offset = offset; size = size }))
    || is_wild len (record { place = place; offset = offset; size = size })) ≡ false
passes len place offset size o s l = grind (arith, nat_tests)

passes_head : (place offset size : ℕ) → 532 ≤ offset → 0 < size
    → (not (is_present (record { place = place; offset = offset; size = size }))
    || begins_in_head (record { place = place; offset = offset; size = size })) ≡ false
passes_head place offset size o s = grind (arith, nat_tests)

tile_by : (bytes : List ℕ) (m : Meta) (place : ℕ) (entry : Entry) (part : List ℕ) → head_fault bytes ≡ None → place_fault bytes m ≡ None
    → entry_at bytes place ≡ entry → (not (is_present entry) || is_wild (length bytes) entry) ≡ false
    → take entry.size (drop entry.offset bytes) ≡ part → tile_found bytes m place ≡ Ok part
unfolding tile_found
tile_by bytes m place entry part h p e w is =
    subst (λ (x : Entry). (not (is_present x) || is_wild (length bytes) x) ≡ false → take x.size (drop x.offset bytes) ≡ part → tile_found bytes m place ≡ Ok part)
    e (λ w' is'. rw (h, p, w') (ap Ok is')) w is

entry_by : (bytes : List ℕ) (m : Meta) (place : ℕ) (entry : Entry) → head_fault bytes ≡ None → place_fault bytes m ≡ None
    → entry_at bytes place ≡ entry → (not (is_present entry) || begins_in_head entry) ≡ false
    → entry_found bytes m place ≡ Ok entry
unfolding entry_found
entry_by bytes m place entry h p e w =
    subst (λ (x : Entry). (not (is_present x) || begins_in_head x) ≡ false → entry_found bytes m place ≡ Ok x)
    e (λ w'. rw (h, p, w') refl) w

-- a tile's pair in the index of its metatile's container
record Placed (tiles : List (List ℕ)) (t : Tile) : Type 0 where
  below : rank (tiles_across (meta_of t)) (index_place t) < length tiles
  indexed : length (index_below (tiles_across (meta_of t)) tiles 64) ≡ 64
  spanned : get_or (index_below (tiles_across (meta_of t)) tiles 64) (index_place t) (span_of tiles (rank (tiles_across (meta_of t)) (index_place t)))
      ≡ span_of tiles (rank (tiles_across (meta_of t)) (index_place t))

placed : (tiles : List (List ℕ)) (t : Tile) → AreTilesOf (meta_of t) tiles → IsTile t → Placed tiles t
unfolding index_below
placed tiles t are is =
    let a = tiles_across (meta_of t) in
    let p = place_parts t in
    let spot : 0 + index_place t ≡ index_place t = omega arith in
    record {
      below = rank_below t tiles is are.count;
      indexed = length-map-range_with_len (span_at (tiles_across (meta_of t)) tiles) 0 64;
      spanned = get_or-map-range_with_len (span_at (tiles_across (meta_of t)) tiles) 0 64 (index_place t) (index_place t)
          (span_of tiles (rank (tiles_across (meta_of t)) (index_place t))) p.2 spot
          ∙ ap (λ b. cond b (span_of tiles (rank (tiles_across (meta_of t)) (index_place t))) (record { offset = 0; size = 0 })) (tile_there t is);
    }

-- the index of a tile's metatile, and the number of the tile among the tiles
abbrev index : List (List ℕ) → Tile → List Span
index tiles t = index_below (tiles_across (meta_of t)) tiles 64

abbrev number : Tile → ℕ
number t = rank (tiles_across (meta_of t)) (index_place t)

abbrev entry_of : List (List ℕ) → Tile → Entry
entry_of tiles t = record { place = index_place t; offset = (span_of tiles (number t)).offset; size = (span_of tiles (number t)).size }

-- what bounds the pair of a tile
record Bounded (tiles : List (List ℕ)) (t : Tile) : Type 0 where
  offset : (span_of tiles (number t)).offset < 2 ^ 32
  size : (span_of tiles (number t)).size < 2 ^ 32
  stored : 0 < (span_of tiles (number t)).size
  reach : (span_of tiles (number t)).offset + (span_of tiles (number t)).size ≤ 532 + bytes_of tiles

bounded : (tiles : List (List ℕ)) (t : Tile) → AreTilesOf (meta_of t) tiles → number t < length tiles → Bounded tiles t
bounded tiles t are below =
    let w = within tiles (number t) below in
    let s = stored_at tiles (number t) are.stored below in
    let short = are.short in
    record { offset = omega arith; size = omega arith; stored = s; reach = omega arith }

entry_read : (tiles : List (List ℕ)) (t : Tile) (more : List ℕ) → AreTilesOf (meta_of t) tiles → IsTile t
    → entry_at (head (meta_of t) (index tiles t) ++ more) (index_place t) ≡ entry_of tiles t
entry_read tiles t more are is =
    let p = placed tiles t are is in
    let b = bounded tiles t are p.below in
    let spot = (place_parts t).2 in
    entry_there (meta_of t) (index tiles t) more (index_place t) (span_of tiles (number t)) (omega (arith, p.indexed)) p.spanned b.offset b.size

tile_back : (tiles : List (List ℕ)) (t : Tile) → AreTilesOf (meta_of t) tiles → IsTile t
    → tile_found (head (meta_of t) (index tiles t) ++ tile_bytes tiles) (meta_of t) (index_place t) ≡ Ok (get_or tiles (number t) [])
tile_back tiles t are is =
    let p = placed tiles t are is in
    let b = bounded tiles t are p.below in
    let len = length-head (meta_of t) (index tiles t) p.indexed in
    let whole = length-append (head (meta_of t) (index tiles t)) (tile_bytes tiles) in
    let tail = length-joined tiles in
    tile_by (head (meta_of t) (index tiles t) ++ tile_bytes tiles) (meta_of t) (index_place t) (entry_of tiles t) (get_or tiles (number t) [])
    (no_head_fault (meta_of t) (index tiles t) (tile_bytes tiles) p.indexed)
    (no_place_fault (meta_of t) (index tiles t) (tile_bytes tiles) are.meta)
    (entry_read tiles t (tile_bytes tiles) are is)
    (passes (length (head (meta_of t) (index tiles t) ++ tile_bytes tiles)) (index_place t) (span_of tiles (number t)).offset (span_of tiles (number t)).size
    (omega arith) b.stored (omega (arith, b.reach)))
    (part_there (meta_of t) (index tiles t) tiles (number t) p.indexed p.below)

entry_back : (tiles : List (List ℕ)) (t : Tile) (more : List ℕ) → AreTilesOf (meta_of t) tiles → IsTile t
    → entry_found (head (meta_of t) (index tiles t) ++ more) (meta_of t) (index_place t) ≡ Ok (entry_of tiles t)
entry_back tiles t more are is =
    let p = placed tiles t are is in
    let b = bounded tiles t are p.below in
    entry_by (head (meta_of t) (index tiles t) ++ more) (meta_of t) (index_place t) (entry_of tiles t)
    (no_head_fault (meta_of t) (index tiles t) more p.indexed)
    (no_place_fault (meta_of t) (index tiles t) more are.meta)
    (entry_read tiles t more are is)
    (passes_head (index_place t) (span_of tiles (number t)).offset (span_of tiles (number t)).size (omega arith) b.stored)

-- a container is its head and its tiles
container_is : (tiles : List (List ℕ)) (t : Tile) → container_of (meta_of t) tiles ≡ head (meta_of t) (index tiles t) ++ tile_bytes tiles
unfolding container_of
container_is tiles t = refl

pub tiles_come_back : TilesComeBack
tiles_come_back m tiles t are is e =
    subst (λ (n : Meta). AreTilesOf n tiles → tile_found (container_of n tiles) n (index_place t) ≡ Ok (meta_tile n tiles t))
    e (λ are'. ap (λ bytes. tile_found bytes (meta_of t) (index_place t)) (container_is tiles t) ∙ tile_back tiles t are' is) are

head_alone : (tiles : List (List ℕ)) (t : Tile) → length (index tiles t) ≡ 64
    → take 532 (container_of (meta_of t) tiles) ≡ head (meta_of t) (index tiles t) ++ []
head_alone tiles t l =
    ap (take 532) (container_is tiles t)
    ∙ ap (λ n. take n (head (meta_of t) (index tiles t) ++ tile_bytes tiles)) (sym (length-head (meta_of t) (index tiles t) l))
    ∙ take-append_seam (head (meta_of t) (index tiles t)) (tile_bytes tiles)
    ∙ sym (append-nil (head (meta_of t) (index tiles t)))

entries_back : (tiles : List (List ℕ)) (t : Tile) → AreTilesOf (meta_of t) tiles → IsTile t
    → (entry : Entry) × (entry_found (take head_len (container_of (meta_of t) tiles)) (meta_of t) (index_place t) ≡ Ok entry)
    × (take entry.size (drop entry.offset (container_of (meta_of t) tiles)) ≡ meta_tile (meta_of t) tiles t)
    × (entry.size ≡ length (meta_tile (meta_of t) tiles t))
entries_back tiles t are is =
    let p = placed tiles t are is in (
      entry_of tiles t,
      ap (λ bytes. entry_found bytes (meta_of t) (index_place t)) (head_alone tiles t p.indexed) ∙ entry_back tiles t [] are is,
      ap (λ bytes. take (entry_of tiles t).size (drop (entry_of tiles t).offset bytes)) (container_is tiles t)
          ∙ part_there (meta_of t) (index tiles t) tiles (number t) p.indexed p.below,
      refl,
    )

pub entries_come_back : EntriesComeBack
entries_come_back m tiles t are is e =
    subst (λ (n : Meta). AreTilesOf n tiles
    → (entry : Entry) × (entry_found (take head_len (container_of n tiles)) n (index_place t) ≡ Ok entry)
    × (take entry.size (drop entry.offset (container_of n tiles)) ≡ meta_tile n tiles t)
    × (entry.size ≡ length (meta_tile n tiles t)))
    e (λ are'. entries_back tiles t are' is) are
