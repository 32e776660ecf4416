-- The pairs of a container whose tiles are all of one size.
use Rattle.std.proofs.Common.{◌≡◌, ℕ, zero, suc, ◌+◌, ◌*◌, ◌/◌, ◌%◌, ◌<◌, ◌≤◌, ◌==◌, true, List, [], ◌∷◌, ◌++◌, length, get_or, take, sym, ap, ◌∙◌, arith, append_assoc}
use Rattle.std.specs.Prelude.{if◌then◌else◌, codes}
use Rattle.std.specs.List.{flat_map}
use Rattle.byteorder.specs.Endian.{little_bytes}
use Rattle.plain_world.specs.declared.world.Meta.{Meta}
use Rattle.plain_world.specs.World.{tiles_across}
use Rattle.std.proofs.Math.Nat.{mul-le-mul_right}
use Rattle.std.proofs.lemmas.Bool.{eqb-true}
use Rattle.std.proofs.lemmas.Bool.Decides.{nat_tests}
use Rattle.std.proofs.lemmas.List.Sums.{sum_by-cons, AllPass-from_list_all}
use Rattle.meta_container.specs.declared.container.Span.{Span}
use Rattle.meta_container.specs.Container.{span_bytes, tile_bytes, bytes_of, has_tile, rank, span_at, index_below, container_of}
use Rattle.meta_container.specs.Heads.{all_of_size}

abbrev span : ℕ → ℕ → Span
span offset size = record { offset = offset; size = size }

-- each has its size
pub even_size : (size : ℕ) (tiles : List (List ℕ)) → all_of_size size tiles ≡ true → (k : ℕ) → k < length tiles → length (get_or tiles k []) ≡ size
even_size size tiles all k h = eqb-true (length (get_or tiles k [])) size (AllPass-from_list_all (λ (tile : List ℕ). length tile == size) tiles all k [] h)

-- the first of them have so many bytes together
sum_of_first : (size : ℕ) (tiles : List (List ℕ)) → ((k : ℕ) → k < length tiles → length (get_or tiles k []) ≡ size) → (k : ℕ) → k ≤ length tiles → bytes_of (take k tiles) ≡ k * size
sum_of_first size tiles each zero h = omega arith
sum_of_first size [] each (suc k) h = absurd (omega arith)
sum_of_first size (t ∷ ts) each (suc k) h =
    let first : length t ≡ size = each zero (omega arith) in
    let more = sum_of_first size ts (λ j l. each (suc j) (omega arith)) k (omega arith) in
    sum_by-cons (λ (tile : List ℕ). length tile) t (take k ts) ∙ omega (arith, more, first)

pub even_sum : (size : ℕ) (tiles : List (List ℕ)) → all_of_size size tiles ≡ true → (k : ℕ) → k ≤ length tiles → bytes_of (take k tiles) ≡ k * size
even_sum size tiles all = sum_of_first size tiles (even_size size tiles all)

-- a place that has a tile comes before the end
rank_within : (across place : ℕ) → has_tile across place ≡ true → rank across place < across * across
rank_within across place there =
    let col : place / 8 < across = grind (arith, nat_tests) in
    let row : place % 8 < across = grind (arith, nat_tests) in
    let m : (place / 8 + 1) * across ≤ across * across = mul-le-mul_right across (omega arith) in
    omega (arith, m)

-- the pair of a place that has a tile
pub even_pair : (across size place : ℕ) (tiles : List (List ℕ)) → has_tile across place ≡ true → length tiles ≡ across * across → all_of_size size tiles ≡ true
    → span (532 + rank across place * size) size ≡ span_at across tiles place
even_pair across size place tiles there count all =
    let within : rank across place < length tiles = omega (arith, rank_within across place there, count) in
    let before : 532 + rank across place * size ≡ 532 + bytes_of (take (rank across place) tiles) = omega (arith, even_sum size tiles all (rank across place) (omega arith)) in
    let each = even_size size tiles all (rank across place) within in
    pair before (sym each)
    ∙ ap (λ t. if t then span (532 + bytes_of (take (rank across place) tiles)) (length (get_or tiles (rank across place) [])) else span 0 0) (sym there)
  where
    pair : {a b c d : ℕ} → a ≡ b → c ≡ d → span a c ≡ span b d
    pair e f i = record { offset = e i; size = f i }

-- the mark and the index are the head
pub head_written : (m : Meta) (across : ℕ) (old marked new : List ℕ) (tiles : List (List ℕ)) → across ≡ tiles_across m
    → marked ≡ old ++ codes "META" ++ little_bytes 4 64 ++ little_bytes 4 m.x ++ little_bytes 4 m.y ++ little_bytes 4 m.z
    → new ≡ marked ++ flat_map span_bytes (index_below across tiles 64) → new ++ tile_bytes tiles ≡ old ++ container_of m tiles
unfolding container_of
head_written m across old marked new tiles e mark index =
    ap (λ bs. bs ++ tile_bytes tiles) (index ∙ ap (λ n. marked ++ flat_map span_bytes (index_below n tiles 64)) e
    ∙ ap (λ bs. bs ++ flat_map span_bytes (index_below (tiles_across m) tiles 64)) mark)
    ∙ joins (little_bytes 4 64) (little_bytes 4 m.x) (little_bytes 4 m.y) (little_bytes 4 m.z) (flat_map span_bytes (index_below (tiles_across m) tiles 64)) (tile_bytes tiles)
  where
    joins : (count x y z spans rest : List ℕ) → old ++ codes "META" ++ count ++ x ++ y ++ z ++ spans ++ rest ≡ old ++ (codes "META" ++ count ++ x ++ y ++ z ++ spans ++ rest)
    joins count x y z spans rest = simp append_assoc
