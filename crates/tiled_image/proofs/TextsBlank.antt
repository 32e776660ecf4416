-- The text of a tile of one colour, in parts.
use Rattle.std.proofs.Common.{◌≡◌, ℕ, suc, zero, ◌+◌, ◌*◌, ◌/◌, List, [], ◌++◌, replicate, flat_map, refl, ap, sym, ◌∙◌, arith}
use Rattle.std.proofs.lemmas.List.{replicate-append-replicate}
use Rattle.std.proofs.lemmas.Grind.{flat_map-append}
use Rattle.plain_world.specs.World.{IsTileSize}
use Rattle.plain_world.proofs.Windows.{by_sizes}
use Rattle.plain_shapes.specs.declared.colour.Colour.{Colour}
use Rattle.plain_shapes.specs.Ppm.{pixel_bytes}
use Rattle.plain_drawing.specs.Drawing.{pixels_text}
use Rattle.plain_drawing.proofs.TileTexts.{text_parts}

-- so many pixels, so many times
times_over : (k n : ℕ) (c : Colour) → flat_map (λ bytes. bytes) (replicate n (flat_map pixel_bytes (replicate k c))) ≡ flat_map pixel_bytes (replicate (n * k) c)
times_over k zero c = ap (λ m. flat_map pixel_bytes (replicate m c)) (let e : 0 ≡ 0 * k = omega arith in e)
times_over k (suc n) c =
    let e : k + n * k ≡ suc n * k = omega arith in
    ap (λ bs. flat_map pixel_bytes (replicate k c) ++ bs) (times_over k n c)
    ∙ sym (flat_map-append pixel_bytes (replicate k c) (replicate (n * k) c))
    ∙ ap (λ ps. flat_map pixel_bytes ps) (replicate-append-replicate k (n * k) c)
    ∙ ap (λ m. flat_map pixel_bytes (replicate m c)) e

-- each size is a multiple of eight
eighths : (side : ℕ) → IsTileSize side → side / 8 * (8 * side) ≡ side * side
eighths = by_sizes (λ n. n / 8 * (8 * n) ≡ n * n) refl refl refl refl refl refl

-- the head and the rows are the text
pub blank_text : (side times : ℕ) (c : Colour) (head rows : List ℕ) → IsTileSize side → head ≡ pixels_text side side [] → rows ≡ flat_map pixel_bytes (replicate (8 * side) c) → times ≡ side / 8
    → head ++ flat_map (λ bytes. bytes) (replicate times rows) ≡ pixels_text side side (replicate (side * side) c)
blank_text side times c head rows sized head_is rows_is times_is =
    ap (λ bs. bs ++ flat_map (λ bytes. bytes) (replicate times rows)) head_is
    ∙ ap (λ n. pixels_text side side [] ++ flat_map (λ bytes. bytes) (replicate n rows)) times_is
    ∙ ap (λ bs. pixels_text side side [] ++ flat_map (λ bytes. bytes) (replicate (side / 8) bs)) rows_is
    ∙ ap (λ bs. pixels_text side side [] ++ bs) (times_over (8 * side) (side / 8) c ∙ ap (λ n. flat_map pixel_bytes (replicate n c)) (eighths side sized))
    ∙ sym (text_parts side side (replicate (side * side) c))
