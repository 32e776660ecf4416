-- The pairs of a container, place by place.
use Rattle.std.proofs.Common.{◌≡◌, ℕ, ◌+◌, List, [], ◌∷◌, ◌++◌, map, refl, ap, ◌∙◌, arith}
use Rattle.std.specs.List.{flat_map, range_with_len}
use Rattle.std.proofs.lemmas.List.{append-nil}
use Rattle.std.proofs.lemmas.List.FromFn.{map-range_with_len_more}
use Rattle.std.proofs.lemmas.Grind.{flat_map-append}
use Rattle.meta_container.specs.Container.{span_bytes, span_at, index_below}

pub no_pair : (across : ℕ) (tiles : List (List ℕ)) → flat_map span_bytes (index_below across tiles 0) ≡ []
unfolding index_below
no_pair across tiles = refl

pub one_more_pair : (across : ℕ) (tiles : List (List ℕ)) (count : ℕ)
    → flat_map span_bytes (index_below across tiles (count + 1))
    ≡ flat_map span_bytes (index_below across tiles count) ++ span_bytes (span_at across tiles count)
unfolding index_below
one_more_pair across tiles count =
    let at : 0 + count ≡ count = omega arith in
    ap (flat_map span_bytes) (map-range_with_len_more (span_at across tiles) 0 count count at)
    ∙ flat_map-append span_bytes (map (span_at across tiles) (range_with_len 0 count)) (span_at across tiles count ∷ [])
    ∙ ap (λ bs. flat_map span_bytes (map (span_at across tiles) (range_with_len 0 count)) ++ bs) (append-nil (span_bytes (span_at across tiles count)))
