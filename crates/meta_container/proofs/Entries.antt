-- The pairs that name tiles, place by place.
use Rattle.std.proofs.Common.{◌≡◌, ℕ, ◌+◌, List, [], ◌∷◌, ◌++◌, map, filter, true, false, cond, refl, ap, ◌∙◌, arith}
use Rattle.std.specs.List.{range_with_len}
use Rattle.std.proofs.lemmas.List.{append-nil}
use Rattle.std.proofs.lemmas.List.FromFn.{map-range_with_len_more}
use Rattle.std.proofs.lemmas.List.Elements.{filter-append}
use Rattle.meta_container.specs.Reading.{entry_at, is_present, entries_below}

pub none_yet : (bytes : List ℕ) → entries_below bytes 0 ≡ []
unfolding entries_below
none_yet bytes = refl

one_more : (bytes : List ℕ) (count : ℕ)
    → entries_below bytes (count + 1) ≡ entries_below bytes count ++ filter is_present (entry_at bytes count ∷ [])
unfolding entries_below
one_more bytes count =
    let at : 0 + count ≡ count = omega arith in
    ap (filter is_present) (map-range_with_len_more (entry_at bytes) 0 count count at)
    ∙ filter-append is_present (map (entry_at bytes) (range_with_len 0 count)) (entry_at bytes count ∷ [])

pub present_more : (bytes : List ℕ) (count : ℕ) → is_present (entry_at bytes count) ≡ true
    → entries_below bytes (count + 1) ≡ entries_below bytes count ++ entry_at bytes count ∷ []
present_more bytes count h = one_more bytes count ∙ ap (λ b. entries_below bytes count ++ cond b (entry_at bytes count ∷ []) []) h

pub absent_more : (bytes : List ℕ) (count : ℕ) → is_present (entry_at bytes count) ≡ false
    → entries_below bytes (count + 1) ≡ entries_below bytes count
absent_more bytes count h =
    one_more bytes count ∙ ap (λ b. entries_below bytes count ++ cond b (entry_at bytes count ∷ []) []) h
    ∙ append-nil (entries_below bytes count)
