-- What is written is read back.
use Rattle.std.proofs.Common.{◌≡◌, ℕ, ◌+◌, ◌-◌, ◌*◌, ◌/◌, ◌%◌, ◌^◌, ◌<◌, ◌≤◌, true, false, List, [], ◌∷◌, ◌++◌, length, drop, flat_map, refl, ap, sym, ◌∙◌, arith, append_assoc, length-append}
use Rattle.std.specs.Prelude.{Result, Ok, Err, IfOk, Some, None, nat_lt, if◌then◌else◌}
use Rattle.std.specs.Option.{option_map_or}
use Rattle.std.specs.Fmt.{decimal}
use Rattle.std.proofs.lemmas.Bool.{le-leb, le-ltb, ne_eqb}
use Rattle.std.proofs.lemmas.Fmt.{decimal_by_steps}
use Rattle.std.proofs.Math.Seq.{drop-append_seam}
use Rattle.std.proofs.lemmas.List.{length-drop, drop-drop}
use Rattle.plain_shapes.specs.declared.colour.Colour.{Colour}
use Rattle.plain_shapes.specs.Images.{Pixels}
use Rattle.plain_shapes.specs.Ppm.{pixel_bytes, ppm}
use Rattle.farm_base.specs.Digits.{is_digit}
use Rattle.plain_image.specs.PpmText.{and_then, after_in_gap, gap, gap_end, digits, side, gap_side, one_byte, one_blank, greatest, head, colours, picture_behind, ppm_of}
use Rattle.plain_image.specs.declared.reading.Gap.TheVariants.{Bare, Blank}
use Rattle.plain_image.specs.declared.reading.PpmFault.TheVariants.{Bad, TooLarge}
use Rattle.plain_image.proofs.Bytes.{colours_written, length_written}

-- a digit is no blank and begins no comment
digit_stays : (b : ℕ) → 48 ≤ b → after_in_gap Blank b ≡ None
digit_stays b h =
    rw (ne_eqb b 32 (λ e. omega arith), ne_eqb b 9 (λ e. omega arith), ne_eqb b 13 (λ e. omega arith), ne_eqb b 10 (λ e. omega arith), ne_eqb b 35 (λ e. omega arith)) refl

digit_is : (n : ℕ) → n < 10 → is_digit (48 + n) ≡ true
digit_is n h = rw (le-leb 48 (48 + n) (omega arith), le-leb (48 + n) 57 (omega arith)) refl

-- a gap ends at a decimal number
gap_decimal : (n : ℕ) → n < 2 ^ 64 → (k : ℕ) (rest : List ℕ) → gap Blank k (decimal n ++ rest) ≡ Ok k
gap_decimal n small = decimal_by_steps P one more n small
  where
    P : ℕ → List ℕ → Type 0
    P n ds = (k : ℕ) (rest : List ℕ) → gap Blank k (ds ++ rest) ≡ Ok k

    one : (n : ℕ) → n < 10 → P n ((48 + n) ∷ [])
    one n h k rest = ap (λ o. option_map_or (λ next. gap next (k + 1) rest) o (gap_end Blank k)) (digit_stays (48 + n) (omega arith))

    more : (n : ℕ) (ds : List ℕ) → 10 ≤ n → P (n / 10) ds → P n (ds ++ ((48 + n % 10) ∷ []))
    more n ds h p k rest = ap (gap Blank k) (append_assoc ds ((48 + n % 10) ∷ []) rest) ∙ p k ((48 + n % 10) ∷ rest)

-- one digit more
digits_more : (v d n k : ℕ) (rest : List ℕ) → v * 10 + (48 + d - 48) ≡ n → d < 10 → n ≤ 4096 → digits v k ((48 + d) ∷ rest) ≡ digits n (k + 1) rest
digits_more v d n k rest e low few =
    ap (λ t. if t then (if nat_lt 4096 (v * 10 + (48 + d - 48)) then Err TooLarge else digits (v * 10 + (48 + d - 48)) (k + 1) rest) else Ok (record { value = v; next = k })) (digit_is d low)
    ∙ ap (λ t. if t then Err TooLarge else digits (v * 10 + (48 + d - 48)) (k + 1) rest) (le-ltb 4096 (v * 10 + (48 + d - 48)) (omega arith))
    ∙ ap (λ t. digits t (k + 1) rest) e

-- a decimal number is read as a side: all its digits, one after another
side_decimal : (n : ℕ) → n < 2 ^ 64 → 1 ≤ n → n ≤ 4096 → (k : ℕ) (rest : List ℕ) → side k (decimal n ++ rest) ≡ digits n (k + length (decimal n)) rest
side_decimal n small = decimal_by_steps P one more n small
  where
    P : ℕ → List ℕ → Type 0
    P n ds = 1 ≤ n → n ≤ 4096 → (k : ℕ) (rest : List ℕ) → side k (ds ++ rest) ≡ digits n (k + length ds) rest

    one : (n : ℕ) → n < 10 → P n ((48 + n) ∷ [])
    one n h some few k rest =
        let v : 48 + n - 48 ≡ n = omega arith in
        rw (le-leb 49 (48 + n) (omega arith), le-leb (48 + n) 57 (omega arith)) (ap (λ t. digits t (k + 1) rest) v)

    more : (n : ℕ) (ds : List ℕ) → 10 ≤ n → P (n / 10) ds → P n (ds ++ ((48 + n % 10) ∷ []))
    more n ds h p some few k rest =
        let d : ℕ = n % 10 in
        let v : n / 10 * 10 + (48 + d - 48) ≡ n = omega arith in
        let low : d < 10 = omega arith in
        let next : k + length ds + 1 ≡ k + length (ds ++ (48 + d) ∷ []) = omega (arith, length-append ds ((48 + d) ∷ [])) in
        ap (side k) (append_assoc ds ((48 + d) ∷ []) rest)
        ∙ p (omega arith) (omega arith) k ((48 + d) ∷ rest)
        ∙ digits_more (n / 10) d n (k + length ds) rest v low few
        ∙ ap (λ m. digits n m rest) next

drop_next : (k : ℕ) (bytes rest : List ℕ) (b : ℕ) → drop k bytes ≡ b ∷ rest → drop (k + 1) bytes ≡ rest
drop_next k bytes rest b e = sym (drop-drop 1 k bytes) ∙ ap (drop 1) e

drop_past : (k n : ℕ) (bytes ds rest : List ℕ) → n ≡ length ds → drop k bytes ≡ ds ++ rest → drop (k + n) bytes ≡ rest
drop_past k n bytes ds rest h e = sym (drop-drop n k bytes) ∙ ap (drop n) e ∙ ap (λ m. drop m (ds ++ rest)) h ∙ drop-append_seam ds rest

-- a blank, a decimal number and another byte
gap_side_decimal : (bytes : List ℕ) (k n b e : ℕ) (rest : List ℕ) → 1 ≤ n → n ≤ 4096 → after_in_gap Bare b ≡ Some Blank → is_digit e ≡ false
    → drop k bytes ≡ b ∷ (decimal n ++ (e ∷ rest)) → gap_side bytes k ≡ Ok (record { value = n; next = k + 1 + length (decimal n) })
gap_side_decimal bytes k n b e rest some few blank other at =
    let small : n < 2 ^ 64 = omega arith in
    ap (λ xs. and_then (gap Bare k xs) (λ m. side m (drop m bytes))) at
    ∙ ap (λ o. and_then (option_map_or (λ next. gap next (k + 1) (decimal n ++ (e ∷ rest))) o (gap_end Bare k)) (λ m. side m (drop m bytes))) blank
    ∙ ap (λ r. and_then r (λ m. side m (drop m bytes))) (gap_decimal n small (k + 1) (e ∷ rest))
    ∙ ap (side (k + 1)) (drop_next k bytes (decimal n ++ (e ∷ rest)) b at)
    ∙ side_decimal n small some few (k + 1) (e ∷ rest)
    ∙ ap (λ t. if t then (if nat_lt 4096 (n * 10 + (e - 48)) then Err TooLarge else digits (n * 10 + (e - 48)) (k + 1 + length (decimal n) + 1) rest) else Ok (record { value = n; next = k + 1 + length (decimal n) })) other

-- a newline, 255 and a newline
greatest_written : (bytes : List ℕ) (k : ℕ) (body : List ℕ) → drop k bytes ≡ 10 ∷ 50 ∷ 53 ∷ 53 ∷ 10 ∷ body → greatest bytes k ≡ Ok (k + 1 + 1 + 1 + 1 + 1)
greatest_written bytes k body at =
    let a = drop_next k bytes (50 ∷ 53 ∷ 53 ∷ 10 ∷ body) 10 at in
    let b = drop_next (k + 1) bytes (53 ∷ 53 ∷ 10 ∷ body) 50 a in
    let c = drop_next (k + 1 + 1) bytes (53 ∷ 10 ∷ body) 53 b in
    let d = drop_next (k + 1 + 1 + 1) bytes (10 ∷ body) 53 c in
    ap (λ xs. and_then (gap Bare k xs) (λ a. and_then (one_byte 50 a (drop a bytes)) (λ b. and_then (one_byte 53 b (drop b bytes)) (λ c. and_then (one_byte 53 c (drop c bytes)) (λ d. one_blank d (drop d bytes)))))) at
    ∙ ap (λ xs. and_then (one_byte 50 (k + 1) xs) (λ b. and_then (one_byte 53 b (drop b bytes)) (λ c. and_then (one_byte 53 c (drop c bytes)) (λ d. one_blank d (drop d bytes))))) a
    ∙ ap (λ xs. and_then (one_byte 53 (k + 1 + 1) xs) (λ c. and_then (one_byte 53 c (drop c bytes)) (λ d. one_blank d (drop d bytes)))) b
    ∙ ap (λ xs. and_then (one_byte 53 (k + 1 + 1 + 1) xs) (λ d. one_blank d (drop d bytes))) c
    ∙ ap (one_blank (k + 1 + 1 + 1 + 1)) d

length_from : (k : ℕ) (bytes rest : List ℕ) (b : ℕ) → drop k bytes ≡ b ∷ rest → length bytes ≡ k + 1 + length rest
length_from k bytes rest b e = omega (arith, length-drop k bytes, ap length e)

-- the text of an image says that image
pub ppm_of-ppm : (cols rows : ℕ) (pixels : List Colour) → 1 ≤ cols → cols ≤ 4096 → 1 ≤ rows → rows ≤ 4096 → length pixels ≡ rows * cols
    → ppm_of (ppm cols rows pixels) ≡ Ok (record { cols = cols; rows = rows; pixels = pixels })
unfolding ppm_of
ppm_of-ppm cols rows pixels some_col few_cols some_row few_rows count =
    let body : List ℕ = flat_map pixel_bytes pixels in
    let tail : List ℕ = 10 ∷ 50 ∷ 53 ∷ 53 ∷ 10 ∷ body in
    let text : List ℕ = 80 ∷ 54 ∷ 10 ∷ (decimal cols ++ (32 ∷ (decimal rows ++ tail))) in
    let n : ℕ = 3 + length (decimal cols) in
    let m : ℕ = n + 1 + length (decimal rows) in
    let start : ℕ = m + 1 + 1 + 1 + 1 + 1 in
    let is : ppm cols rows pixels ≡ text = simp append_assoc in
    let at_cols : drop 2 text ≡ 10 ∷ (decimal cols ++ (32 ∷ (decimal rows ++ tail))) = refl in
    let at_rows : drop n text ≡ 32 ∷ (decimal rows ++ tail) = drop_past 3 (length (decimal cols)) text (decimal cols) (32 ∷ (decimal rows ++ tail)) refl refl in
    let at_rest : drop m text ≡ tail = drop_past (n + 1) (length (decimal rows)) text (decimal rows) tail refl (drop_next n text (decimal rows ++ tail) 32 at_rows) in
    let a = drop_next m text (50 ∷ 53 ∷ 53 ∷ 10 ∷ body) 10 at_rest in
    let b = drop_next (m + 1) text (53 ∷ 53 ∷ 10 ∷ body) 50 a in
    let c = drop_next (m + 1 + 1) text (53 ∷ 10 ∷ body) 53 b in
    let d = drop_next (m + 1 + 1 + 1) text (10 ∷ body) 53 c in
    let e = drop_next (m + 1 + 1 + 1 + 1) text body 10 d in
    let len : length text ≡ start + rows * cols * 3 = omega (arith, length_from (m + 1 + 1 + 1 + 1) text body 10 d, length_written pixels, ap (λ t. t * 3) count) in
    ap (λ bytes. and_then (head bytes) (picture_behind bytes)) is
    ∙ ap (λ r. and_then (and_then r (λ cols. and_then (gap_side text cols.next) (λ rows. and_then (greatest text rows.next) (λ start. Ok (record { cols = cols.value; rows = rows.value; start = start }))))) (picture_behind text))
    (gap_side_decimal text 2 cols 10 32 (decimal rows ++ tail) some_col few_cols refl refl at_cols)
    ∙ ap (λ r. and_then (and_then r (λ rows. and_then (greatest text rows.next) (λ start. Ok (record { cols = cols; rows = rows.value; start = start })))) (picture_behind text))
    (gap_side_decimal text n rows 32 10 (50 ∷ 53 ∷ 53 ∷ 10 ∷ body) some_row few_rows refl refl at_rows)
    ∙ ap (λ r. and_then (and_then r (λ start. Ok (record { cols = cols; rows = rows; start = start }))) (picture_behind text)) (greatest_written text m body at_rest)
    ∙ ap (λ t. if t then Err (Bad (length text)) else (if nat_lt (start + rows * cols * 3) (length text) then Err (Bad (start + rows * cols * 3)) else Ok (record { cols = cols; rows = rows; pixels = colours (drop start text) }))) (le-ltb (length text) (start + rows * cols * 3) (omega arith))
    ∙ ap (λ t. if t then Err (Bad (start + rows * cols * 3)) else Ok (record { cols = cols; rows = rows; pixels = colours (drop start text) })) (le-ltb (start + rows * cols * 3) (length text) (omega arith))
    ∙ ap (λ ps. Ok (record { cols = cols; rows = rows; pixels = ps })) (ap colours e ∙ colours_written pixels)

-- what holds of a text holds of an answer that is that text
pub then_reads : {V E : Type 0} (items : V → List ℕ) (r : Result V E) (text : List ℕ) (image : Pixels)
    → IfOk r (λ v. items v ≡ text) → ppm_of text ≡ Ok image → IfOk r (λ v. ppm_of (items v) ≡ Ok image)
then_reads items (Ok v) text image e f = ap ppm_of e ∙ f
then_reads items (Err e) text image h f = tt
