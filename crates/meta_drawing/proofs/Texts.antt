-- The texts of a metatile's tiles, one behind another.
use Rattle.std.proofs.Common.{◌≡◌, ℕ, ◌+◌, List, [], ◌∷◌, ◌++◌, map, flat_map, refl, sym, ap, ◌∙◌, append_assoc}
use Rattle.std.specs.List.{range_with_len}
use Rattle.std.proofs.lemmas.List.{append-nil}
use Rattle.std.proofs.lemmas.Grind.{flat_map-append}
use Rattle.meta_container.specs.Container.{tile_bytes}
use Rattle.tile_render.proofs.Metas.{one_more_text, one_more_column}

joined_append : (these those : List (List ℕ)) → tile_bytes (these ++ those) ≡ tile_bytes these ++ tile_bytes those
joined_append these those = flat_map-append (λ (text : List ℕ). text) these those

-- one text more
pub text_behind : (f : ℕ → List ℕ) (old now next : List ℕ) (row : ℕ) → now ≡ old ++ tile_bytes (map f (range_with_len 0 row)) → next ≡ now ++ f row
    → next ≡ old ++ tile_bytes (map f (range_with_len 0 (row + 1)))
text_behind f old now next row so_far step =
    let before : List (List ℕ) = map f (range_with_len 0 row) in
    step ∙ ap (λ bs. bs ++ f row) so_far ∙ append_assoc old (tile_bytes before) (f row)
    ∙ ap (λ bs. old ++ bs) (ap (λ bs. tile_bytes before ++ bs) (sym (append-nil (f row))) ∙ sym (joined_append before (f row ∷ []))
    ∙ ap tile_bytes (one_more_text f [] before (before ++ f row ∷ []) row (f row) refl refl refl))

-- one column more
pub column_behind : (f : ℕ → List (List ℕ)) (old now next : List ℕ) (col : ℕ) → now ≡ old ++ tile_bytes (flat_map f (range_with_len 0 col)) → next ≡ now ++ tile_bytes (f col)
    → next ≡ old ++ tile_bytes (flat_map f (range_with_len 0 (col + 1)))
column_behind f old now next col so_far step =
    let before : List (List ℕ) = flat_map f (range_with_len 0 col) in
    step ∙ ap (λ bs. bs ++ tile_bytes (f col)) so_far ∙ append_assoc old (tile_bytes before) (tile_bytes (f col))
    ∙ ap (λ bs. old ++ bs) (sym (joined_append before (f col)) ∙ ap tile_bytes (one_more_column f before (before ++ f col) col refl refl))
