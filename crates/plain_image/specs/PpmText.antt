-- What a PPM text says: each part reads the bytes from an offset of the text on, and answers the
-- offset behind it, or the fault at the first byte that may not stand where it stands.
use Rattle.std.specs.Prelude.{ℕ, ◌+◌, ◌-◌, ◌*◌, ◌≡◌, ◌==◌, Bool, ◌&&◌, ◌||◌, nat_le, nat_lt, if◌then◌else◌, List, [], ◌∷◌, length, drop, Result, Ok, Err, Option, Some, None}
use Rattle.std.specs.Option.{option_map_or}
use Rattle.farm_base.specs.Digits.{is_digit}
use Rattle.plain_shapes.specs.declared.colour.Colour.{Colour}
use Rattle.plain_shapes.specs.Images.{Pixels}
use Rattle.plain_image.specs.declared.reading.PpmFault.{PpmFault}
use Rattle.plain_image.specs.declared.reading.PpmFault.TheVariants.{Bad, TooLarge, NoMemory}
use Rattle.plain_image.specs.declared.reading.Gap.{Gap}
use Rattle.plain_image.specs.declared.reading.Gap.TheVariants.{Bare, Blank, Comment}
use Rattle.plain_image.specs.declared.reading.Side.{Side}
use Rattle.plain_image.specs.declared.reading.Head.{Head}
use Rattle.plain_world.specs.Limits.{most_side}

-- one part after another: the first fault is the answer
abbrev pub and_then : {A B : Type 0} → Result A PpmFault → (A → Result B PpmFault)
    → Result B PpmFault
and_then (Ok a) f = f a
and_then (Err e) f = Err e

-- space, tab, carriage return and newline
abbrev pub is_whitespace : ℕ → Bool
is_whitespace b = b == 32 || b == 9 || b == 13 || b == 10

-- this very byte
abbrev pub one_byte : ℕ → ℕ → List ℕ → Result ℕ PpmFault
one_byte c n [] = Err (Bad n)
one_byte c n (b ∷ bs) = if b == c then Ok (n + 1) else Err (Bad n)

-- one blank
abbrev pub one_blank : ℕ → List ℕ → Result ℕ PpmFault
one_blank n [] = Err (Bad n)
one_blank n (b ∷ bs) = if is_whitespace b then Ok (n + 1) else Err (Bad n)

-- the place in a gap after a byte of it, or none where the byte is neither a blank nor in a comment
abbrev pub after_in_gap : Gap → ℕ → Option Gap
after_in_gap Comment b = if b == 10 then Some Blank else Some Comment
after_in_gap Bare b = if is_whitespace b then Some Blank
    else (if b == 35 then Some Comment else None)
after_in_gap Blank b = if is_whitespace b then Some Blank
    else (if b == 35 then Some Comment else None)

-- the end of a gap: a number may stand there if a blank stands before it
abbrev pub gap_end : Gap → ℕ → Result ℕ PpmFault
gap_end Blank n = Ok n
gap_end Bare n = Err (Bad n)
gap_end Comment n = Err (Bad n)

-- blanks, and comments from # to before the line's end, at least one blank among them: up to the
-- next other byte
abbrev pub gap : Gap → ℕ → List ℕ → Result ℕ PpmFault
gap place n [] = Err (Bad n)
gap place n (b ∷ bs) =
    option_map_or (λ next. gap next (n + 1) bs) (after_in_gap place b) (gap_end place n)

-- further digits of a side that is v so far: too large as soon as they pass 4,096
abbrev pub digits : ℕ → ℕ → List ℕ → Result Side PpmFault
digits v n [] = Ok (record { value = v; next = n })
digits v n (b ∷ bs) =
    if is_digit b
    then (if nat_lt most_side (v * 10 + (b - 48)) then Err TooLarge
    else digits (v * 10 + (b - 48)) (n + 1) bs)
    else Ok (record { value = v; next = n })

-- a side: digits without a leading zero
abbrev pub side : ℕ → List ℕ → Result Side PpmFault
side n [] = Err (Bad n)
side n (b ∷ bs) = if nat_le 49 b && nat_le b 57 then digits (b - 48) (n + 1) bs else Err (Bad n)

-- a gap and then a side
abbrev pub gap_side : List ℕ → ℕ → Result Side PpmFault
gap_side bytes n = and_then (gap Bare n (drop n bytes)) (λ m. side m (drop m bytes))

-- the magic number P6
abbrev pub magic : List ℕ → Result ℕ PpmFault
magic bytes = and_then (one_byte 80 0 bytes) (λ n. one_byte 54 n (drop n bytes))

-- a gap, the greatest value 255, byte by byte, and one blank
abbrev pub greatest : List ℕ → ℕ → Result ℕ PpmFault
greatest bytes n =
    and_then (gap Bare n (drop n bytes)) (λ a.
    and_then (one_byte 50 a (drop a bytes)) (λ b.
    and_then (one_byte 53 b (drop b bytes)) (λ c.
    and_then (one_byte 53 c (drop c bytes)) (λ d.
    one_blank d (drop d bytes)))))

-- the head of a text: its two sides, and where the pixels begin
abbrev pub head : List ℕ → Result Head PpmFault
head bytes =
    and_then (magic bytes) (λ n.
    and_then (gap_side bytes n) (λ cols.
    and_then (gap_side bytes cols.next) (λ rows.
    and_then (greatest bytes rows.next) (λ start.
    Ok (record { cols = cols.value; rows = rows.value; start = start })))))

-- the colours that the bytes say, three bytes each
abbrev pub colours : List ℕ → List Colour
colours [] = []
colours (r ∷ []) = []
colours (r ∷ g ∷ []) = []
colours (r ∷ g ∷ b ∷ bs) = record { r = r; g = g; b = b } ∷ colours bs

-- the picture behind a head: as many bytes as its sides ask for, none missing and none more
abbrev pub picture_behind : List ℕ → Head → Result Pixels PpmFault
picture_behind bytes h =
    if nat_lt (length bytes) (h.start + h.rows * h.cols * 3) then Err (Bad (length bytes))
    else (if nat_lt (h.start + h.rows * h.cols * 3) (length bytes)
    then Err (Bad (h.start + h.rows * h.cols * 3))
    else Ok (record { cols = h.cols; rows = h.rows; pixels = colours (drop h.start bytes) }))

-- the image that a PPM text says, or its first fault
unfoldable pub ppm_of : List ℕ → Result Pixels PpmFault
ppm_of bytes = and_then (head bytes) (picture_behind bytes)

-- an answer to a text: exactly what the text says, but that memory may be wanting
abbrev pub ReadsPpm : Result Pixels PpmFault → Result Pixels PpmFault → Type 0
ReadsPpm says (Ok image) = says ≡ Ok image
ReadsPpm says (Err (Bad n)) = says ≡ Err (Bad n)
ReadsPpm says (Err TooLarge) = says ≡ Err TooLarge
ReadsPpm says (Err NoMemory) = Unit {0}
