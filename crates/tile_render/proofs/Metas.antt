-- The texts of a metatile's tiles, one after another.
use Rattle.std.proofs.Common.{◌≡◌, ℕ, zero, suc, ◌+◌, ◌*◌, ap, sym, ◌∙◌, arith, List, [], ◌∷◌, ◌++◌, length, map, take, drop, replicate, flat_map, append_assoc}
use Rattle.std.specs.List.{range_with_len}
use Rattle.std.proofs.lemmas.List.{append-nil, map-append, length-map, drop-drop, drop_all, take-append-drop}
use Rattle.std.proofs.lemmas.Grind.{flat_map-append}
use Rattle.plain_world.specs.declared.world.Window.{Window}
use Rattle.plain_world.specs.declared.world.Tile.{Tile}
use Rattle.plain_world.specs.World.{centres, window_of}
use Rattle.plain_shapes.specs.Features.{Layer}
use Rattle.plain_drawing.specs.Styles.{MapStyle}
use Rattle.plain_shapes.specs.declared.colour.Colour.{Colour}
use Rattle.plain_shapes.specs.Images.{Pixels}
use Rattle.plain_shapes.specs.inner.Canvas.{cut_rows, cut_of}
use Rattle.plain_shapes.specs.Ppm.{ppm}
use Rattle.plain_shapes.proofs.Places.{length-centres}
use Rattle.plain_drawing.specs.Rules.{denominator_of}
use Rattle.plain_drawing.specs.Drawing.{colour_at, pixel_of, drawn_tile}
use Rattle.plain_drawing.specs.inner.Pictures.{with_map}
use Rattle.plain_drawing.proofs.Steps.{one_colour, fresh_map}

-- a range of one more number
range_more : (a n : ℕ) → range_with_len a (n + 1) ≡ range_with_len a n ++ (a + n) ∷ []
range_more a zero = ap (λ k. k ∷ []) (omega arith)
range_more a (suc n) =
    let s : suc n + 1 ≡ suc (n + 1) = omega arith in
    let e : a + 1 + n ≡ a + suc n = omega arith in
    ap (range_with_len a) s ∙ ap (λ ks. a ∷ ks) (range_more (a + 1) n ∙ ap (λ k. range_with_len (a + 1) n ++ k ∷ []) e)

-- one more text of a column
pub one_more_text : {Y : Type 0} (f : ℕ → Y) (old now next : List Y) (row : ℕ) (y : Y) → now ≡ old ++ map f (range_with_len 0 row) → y ≡ f row → next ≡ now ++ y ∷ []
    → next ≡ old ++ map f (range_with_len 0 (row + 1))
one_more_text f old now next row y so_far is step =
    let z : 0 + row ≡ row = omega arith in
    step ∙ ap (λ ys. ys ++ y ∷ []) so_far ∙ ap (λ v. old ++ map f (range_with_len 0 row) ++ v ∷ []) is
    ∙ append_assoc old (map f (range_with_len 0 row)) (f row ∷ [])
    ∙ ap (λ k. old ++ (map f (range_with_len 0 row) ++ f k ∷ [])) (sym z)
    ∙ ap (λ ys. old ++ ys) (sym (map-append f (range_with_len 0 row) ((0 + row) ∷ [])))
    ∙ ap (λ ks. old ++ map f ks) (sym (range_more 0 row))

-- one more column
pub one_more_column : {Y : Type 0} (f : ℕ → List Y) (now next : List Y) (col : ℕ) → now ≡ flat_map f (range_with_len 0 col) → next ≡ now ++ f col
    → next ≡ flat_map f (range_with_len 0 (col + 1))
one_more_column f now next col so_far step =
    let z : 0 + col ≡ col = omega arith in
    step ∙ ap (λ ys. ys ++ f col) so_far
    ∙ ap (λ k. flat_map f (range_with_len 0 col) ++ f k) (sym z)
    ∙ ap (λ ys. flat_map f (range_with_len 0 col) ++ ys) (sym (append-nil (f (0 + col))))
    ∙ sym (flat_map-append f (range_with_len 0 col) ((0 + col) ∷ []))
    ∙ ap (flat_map f) (sym (range_more 0 col))

-- a picture of square tiles that is all of one colour, as one of their window
pub blank_picture : (w : Window) (size across : ℕ) (colour : Colour) (blank : Pixels) → w.cols ≡ size * across → w.rows ≡ size * across
    → blank ≡ record { cols = size * across; rows = size * across; pixels = replicate (size * across * (size * across)) colour } → blank ≡ one_colour w colour
blank_picture w size across colour blank cols rows is =
    is ∙ (λ i. record { cols = sym cols i; rows = sym rows i; pixels = replicate (sym rows i * sym cols i) colour })

-- the picture of a window that is drawn over the background
pub drawn_picture : (style : MapStyle) (size z : ℕ) (data_layers : List Layer) (w : Window) (scale : ℕ) (fresh drawn : Pixels)
    → w.pixel ≡ pixel_of z size → scale ≡ denominator_of z size → fresh ≡ one_colour w style.background_color → drawn ≡ with_map w scale style data_layers fresh
    → drawn ≡ record { cols = w.cols; rows = w.rows; pixels = map (colour_at style size z data_layers) (centres w) }
drawn_picture style size z data_layers w scale fresh drawn pixel_is scale_is fresh_is drawn_is =
    drawn_is ∙ ap (with_map w scale style data_layers) fresh_is
    ∙ ap (λ n. with_map w n style data_layers (one_colour w style.background_color)) scale_is
    ∙ fresh_map w z size style data_layers pixel_is

-- whole rows from a row on, to the last one, are all that is left from there
rows_left : {X : Type 0} (across row n : ℕ) (xs : List X) → length xs ≡ (row + n) * across → cut_rows across 0 row across n xs ≡ drop (row * across) xs
rows_left across row zero xs e = sym (drop_all (row * across) xs (omega (arith, e)))
rows_left across row (suc n) xs e =
    let z : row * across + 0 ≡ row * across = omega arith in
    let next : row * across + across ≡ (row + 1) * across = omega arith in
    ap (λ k. take across (drop k xs) ++ cut_rows across 0 (row + 1) across n xs) z
    ∙ ap (λ ys. take across (drop (row * across) xs) ++ ys)
    (rows_left across (row + 1) n xs (omega (arith, e)) ∙ ap (λ k. drop k xs) (sym next) ∙ sym (drop-drop across (row * across) xs))
    ∙ take-append-drop across (drop (row * across) xs)

-- the text of the whole picture of a tile's window is the tile
pub whole_tile : (style : MapStyle) (size : ℕ) (t : Tile) (data_layers : List Layer) (w : Window) (image : Pixels) → w ≡ window_of t size
    → image ≡ record { cols = w.cols; rows = w.rows; pixels = map (colour_at style size t.z data_layers) (centres w) }
    → ppm size size (cut_of image 0 0 size size).pixels ≡ drawn_tile style size t data_layers
whole_tile style size t data_layers w image window_is image_is =
    let f = colour_at style size t.z data_layers in
    let colours : List Colour = map f (centres (window_of t size)) in
    let none : 0 * size ≡ 0 = omega arith in
    let all : size * size ≡ (0 + size) * size = omega arith in
    ap (λ i. ppm size size (cut_of i 0 0 size size).pixels) image_is
    ∙ ap (λ v. ppm size size (cut_rows v.cols 0 0 size size (map f (centres v)))) window_is
    ∙ ap (ppm size size) (rows_left size 0 size colours (length-map (centres (window_of t size)) f ∙ length-centres (window_of t size) ∙ all)
    ∙ ap (λ k. drop k colours) none)
