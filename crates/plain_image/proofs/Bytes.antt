-- Colours as bytes, three each.
use Rattle.std.proofs.Common.{◌≡◌, ℕ, suc, zero, ◌+◌, ◌-◌, ◌*◌, ◌<◌, ◌≤◌, List, [], ◌∷◌, ◌++◌, length, take, drop, get_or, set, flat_map, replicate, refl, ap, sym, ◌∙◌, arith, Some}
use Rattle.std.specs.Prelude.{slice_get}
use Rattle.std.proofs.Math.Seq.{drop-nil}
use Rattle.std.proofs.lemmas.List.{take-replicate, length-replicate}
use Rattle.std.proofs.lemmas.Grind.{flat_map-append}
use Rattle.plain_shapes.specs.declared.colour.Colour.{Colour}
use Rattle.plain_shapes.specs.Ppm.{pixel_bytes}
use Rattle.plain_image.specs.PpmText.{colours}

pub colours_written : (ps : List Colour) → colours (flat_map pixel_bytes ps) ≡ ps
colours_written [] = refl
colours_written (p ∷ ps) = ap (λ qs. p ∷ qs) (colours_written ps)

pub length_written : (ps : List Colour) → length (flat_map pixel_bytes ps) ≡ length ps * 3
length_written [] = refl
length_written (p ∷ ps) = omega (arith, length_written ps)

-- bytes that are those of some colours say these
pub colours_of : (bytes : List ℕ) (ps : List Colour) → bytes ≡ flat_map pixel_bytes ps → colours bytes ≡ ps
colours_of bytes ps is = ap colours is ∙ colours_written ps

-- and are what is written of what they say
pub kept_of : (bytes : List ℕ) (ps : List Colour) → bytes ≡ flat_map pixel_bytes ps → flat_map pixel_bytes (colours bytes) ≡ bytes
kept_of bytes ps is = ap (λ qs. flat_map pixel_bytes qs) (colours_of bytes ps is) ∙ sym is

pub byte_count : (bytes : List ℕ) (now : List Colour) → colours bytes ≡ now → flat_map pixel_bytes (colours bytes) ≡ bytes → length bytes ≡ length now * 3
byte_count bytes now is kept = sym (ap length kept) ∙ length_written (colours bytes) ∙ ap (λ ps. length ps * 3) is

-- three times n bytes are the bytes of n colours
pub thirds : (n : ℕ) (bytes : List ℕ) → length bytes ≡ n * 3 → (flat_map pixel_bytes (colours bytes) ≡ bytes) × (length (colours bytes) ≡ n)
thirds zero [] h = (refl, refl)
thirds zero (a ∷ bs) h = absurd (omega arith)
thirds (suc n) [] h = absurd (omega arith)
thirds (suc n) (a ∷ []) h = absurd (omega arith)
thirds (suc n) (a ∷ b ∷ []) h = absurd (omega arith)
thirds (suc n) (a ∷ b ∷ c ∷ bs) h = (let r = thirds n bs (omega arith) in (ap (λ cs. a ∷ b ∷ c ∷ cs) (r.0), ap suc (r.1)))

pub drop_bytes : (n : ℕ) (ps : List Colour) → drop (n * 3) (flat_map pixel_bytes ps) ≡ flat_map pixel_bytes (drop n ps)
drop_bytes zero ps = refl
drop_bytes (suc n) [] = drop-nil (suc n * 3)
drop_bytes (suc n) (p ∷ ps) = let e : suc n * 3 ≡ suc (suc (suc (n * 3))) = omega arith in rw e (drop_bytes n ps)

take_none : (n : ℕ) → take n (flat_map pixel_bytes []) ≡ []
take_none zero = refl
take_none (suc n) = refl

pub take_bytes : (n : ℕ) (ps : List Colour) → take (n * 3) (flat_map pixel_bytes ps) ≡ flat_map pixel_bytes (take n ps)
take_bytes zero ps = refl
take_bytes (suc n) [] = take_none (suc n * 3)
take_bytes (suc n) (p ∷ ps) = let e : suc n * 3 ≡ suc (suc (suc (n * 3))) = omega arith in rw e (ap (λ bs. p.r ∷ p.g ∷ p.b ∷ bs) (take_bytes n ps))

-- the bytes of a part
pub part_bytes : (from count : ℕ) (ps : List Colour) → take (count * 3) (drop (from * 3) (flat_map pixel_bytes ps)) ≡ flat_map pixel_bytes (take count (drop from ps))
part_bytes from count ps = ap (λ bs. take (count * 3) bs) (drop_bytes from ps) ∙ take_bytes count (drop from ps)

-- the three bytes of the colour at a place
pub at_bytes : (ps : List Colour) (k r g b : ℕ) → k < length ps → r ≡ get_or (flat_map pixel_bytes ps) (k * 3) r → g ≡ get_or (flat_map pixel_bytes ps) (k * 3 + 1) g
    → b ≡ get_or (flat_map pixel_bytes ps) (k * 3 + 2) b → slice_get ps k ≡ Some (record { r = r; g = g; b = b })
at_bytes [] k r g b inside x y z = absurd (omega arith)
at_bytes (p ∷ ps) zero r g b inside x y z = sym (λ i. Some (record { r = x i; g = y i; b = z i }))
at_bytes (p ∷ ps) (suc k) r g b inside x y z =
    let e : suc k * 3 ≡ suc (suc (suc (k * 3))) = omega arith in
    let f : suc k * 3 + 1 ≡ suc (suc (suc (k * 3 + 1))) = omega arith in
    let h : suc k * 3 + 2 ≡ suc (suc (suc (k * 3 + 2))) = omega arith in
    let bs : List ℕ = flat_map pixel_bytes (p ∷ ps) in
    at_bytes ps k r g b (omega arith) (x ∙ ap (λ n. get_or bs n r) e) (y ∙ ap (λ n. get_or bs n g) f) (z ∙ ap (λ n. get_or bs n b) h)

-- three bytes written are one colour put
pub set_bytes : (k : ℕ) (c : Colour) (ps : List Colour)
    → set (set (set (flat_map pixel_bytes ps) (k * 3) c.r) (k * 3 + 1) c.g) (k * 3 + 2) c.b ≡ flat_map pixel_bytes (set ps k c)
set_bytes k c [] = refl
set_bytes zero c (p ∷ ps) = refl
set_bytes (suc k) c (p ∷ ps) =
    let e : suc k * 3 ≡ suc (suc (suc (k * 3))) = omega arith in
    let f : suc k * 3 + 1 ≡ suc (suc (suc (k * 3 + 1))) = omega arith in
    let h : suc k * 3 + 2 ≡ suc (suc (suc (k * 3 + 2))) = omega arith in
    let bs : List ℕ = flat_map pixel_bytes (p ∷ ps) in
    ap (λ n. set (set (set bs n c.r) (suc k * 3 + 1) c.g) (suc k * 3 + 2) c.b) e
    ∙ ap (λ n. set (set (set bs (suc (suc (suc (k * 3)))) c.r) n c.g) (suc k * 3 + 2) c.b) f
    ∙ ap (λ n. set (set (set bs (suc (suc (suc (k * 3)))) c.r) (suc (suc (suc (k * 3 + 1)))) c.g) n c.b) h
    ∙ ap (λ qs. p.r ∷ p.g ∷ p.b ∷ qs) (set_bytes k c ps)

-- the same in the words of the code
pub put_bytes : (k : ℕ) (c : Colour) (bytes next : List ℕ) → flat_map pixel_bytes (colours bytes) ≡ bytes
    → next ≡ set (set (set bytes (k * 3) c.r) (k * 3 + 1) c.g) (k * 3 + 2) c.b → next ≡ flat_map pixel_bytes (set (colours bytes) k c)
put_bytes k c bytes next kept is =
    is ∙ ap (λ bs. set (set (set bs (k * 3) c.r) (k * 3 + 1) c.g) (k * 3 + 2) c.b) (sym kept) ∙ set_bytes k c (colours bytes)

replicate_append : (m n : ℕ) (c : Colour) → replicate m c ++ replicate n c ≡ replicate (m + n) c
replicate_append zero n c = let e : n ≡ 0 + n = omega arith in ap (λ k. replicate k c) e
replicate_append (suc m) n c = let e : suc (m + n) ≡ suc m + n = omega arith in ap (λ ps. c ∷ ps) (replicate_append m n c) ∙ ap (λ k. replicate k c) e

-- one line more
pub lines_more : (cols j : ℕ) (c : Colour) (line out : List ℕ) → line ≡ flat_map pixel_bytes (replicate cols c)
    → out ≡ flat_map pixel_bytes (replicate (j * cols) c) → out ++ line ≡ flat_map pixel_bytes (replicate ((j + 1) * cols) c)
lines_more cols j c line out is so_far =
    let e : j * cols + cols ≡ (j + 1) * cols = omega arith in
    ap (λ bs. bs ++ line) so_far ∙ ap (λ bs. flat_map pixel_bytes (replicate (j * cols) c) ++ bs) is
    ∙ sym (flat_map-append pixel_bytes (replicate (j * cols) c) (replicate cols c))
    ∙ ap (λ ps. flat_map pixel_bytes ps) (replicate_append (j * cols) cols c)
    ∙ ap (λ n. flat_map pixel_bytes (replicate n c)) e

-- so many pixels, and then those that are missing of a longer line
pub pixels_more : (m n : ℕ) (c : Colour) (bytes : List ℕ) → m ≤ n → bytes ≡ flat_map pixel_bytes (replicate m c)
    → bytes ++ flat_map pixel_bytes (replicate (n - m) c) ≡ flat_map pixel_bytes (replicate n c)
pixels_more m n c bytes le so_far =
    let e : m + (n - m) ≡ n = omega arith in
    ap (λ bs. bs ++ flat_map pixel_bytes (replicate (n - m) c)) so_far ∙ sym (flat_map-append pixel_bytes (replicate m c) (replicate (n - m) c))
    ∙ ap (λ ps. flat_map pixel_bytes ps) (replicate_append m (n - m) c) ∙ ap (λ k. flat_map pixel_bytes (replicate k c)) e

-- the first pixels of a line of one colour
pub pixels_front : (m n : ℕ) (c : Colour) (bytes : List ℕ) → m ≤ n → bytes ≡ flat_map pixel_bytes (replicate n c) → take (m * 3) bytes ≡ flat_map pixel_bytes (replicate m c)
pixels_front m n c bytes le is =
    ap (λ bs. take (m * 3) bs) is ∙ take_bytes m (replicate n c) ∙ ap (λ ps. flat_map pixel_bytes ps) (take-replicate m n c le)

pub pixels_length : (n : ℕ) (c : Colour) (bytes : List ℕ) → bytes ≡ flat_map pixel_bytes (replicate n c) → length bytes ≡ n * 3
pixels_length n c bytes is = ap length is ∙ length_written (replicate n c) ∙ ap (λ k. k * 3) (length-replicate n c)

pub no_lines : (cols : ℕ) (c : Colour) → [] ≡ flat_map pixel_bytes (replicate (0 * cols) c)
no_lines cols c = let e : 0 ≡ 0 * cols = omega arith in ap (λ n. flat_map pixel_bytes (replicate n c)) e

-- the colour at a place in the words of the code
there_written : (k : ℕ) (ps : List Colour) → k < length ps
    → slice_get ps k ≡ Some (record { r = get_or (flat_map pixel_bytes ps) (k * 3) 0; g = get_or (flat_map pixel_bytes ps) (k * 3 + 1) 0; b = get_or (flat_map pixel_bytes ps) (k * 3 + 2) 0 })
there_written k [] inside = absurd (omega arith)
there_written zero (p ∷ ps) inside = refl
there_written (suc k) (p ∷ ps) inside =
    let e : suc k * 3 ≡ suc (suc (suc (k * 3))) = omega arith in
    let f : suc k * 3 + 1 ≡ suc (suc (suc (k * 3 + 1))) = omega arith in
    let h : suc k * 3 + 2 ≡ suc (suc (suc (k * 3 + 2))) = omega arith in
    let bs : List ℕ = flat_map pixel_bytes (p ∷ ps) in
    there_written k ps (omega arith) ∙ sym (λ i. Some (record { r = get_or bs (e i) 0; g = get_or bs (f i) 0; b = get_or bs (h i) 0 }))

pub there_bytes : (k : ℕ) (bytes : List ℕ) → flat_map pixel_bytes (colours bytes) ≡ bytes → k < length (colours bytes)
    → slice_get (colours bytes) k ≡ Some (record { r = get_or bytes (k * 3) 0; g = get_or bytes (k * 3 + 1) 0; b = get_or bytes (k * 3 + 2) 0 })
there_bytes k bytes kept inside =
    there_written k (colours bytes) inside ∙ ap (λ bs. Some (record { r = get_or bs (k * 3) 0; g = get_or bs (k * 3 + 1) 0; b = get_or bs (k * 3 + 2) 0 })) kept
