-- What `ppm_of` says of a text is what the parts read, one behind another.
use Rattle.std.proofs.Common.{◌≡◌, ℕ, ◌+◌, ◌-◌, Bool, true, false, ◌&&◌, List, [], ◌∷◌, length, drop, Option, Some, None, refl, sym, ap, ◌∙◌, Result, Ok, Err, arith}
use Rattle.std.specs.Prelude.{if◌then◌else◌, ◌==◌, nat_lt, nat_le}
use Rattle.std.specs.Option.{option_map_or}
use Rattle.std.proofs.lemmas.List.{drop-drop}
use Rattle.farm_base.specs.Digits.{is_digit}
use Rattle.plain_shapes.specs.Images.{Pixels}
use Rattle.plain_image.specs.PpmText.{and_then, is_whitespace, after_in_gap, gap, gap_end, digits, side, gap_side, one_byte, one_blank, magic, greatest, picture_behind, ppm_of}
use Rattle.plain_image.specs.declared.reading.PpmFault.{PpmFault}
use Rattle.plain_image.specs.declared.reading.PpmFault.TheVariants.{Bad, TooLarge}
use Rattle.plain_image.specs.declared.reading.Gap.{Gap}
use Rattle.plain_image.specs.declared.reading.Gap.TheVariants.{Bare, Blank, Comment}
use Rattle.plain_image.specs.declared.reading.Side.{Side}
use Rattle.plain_image.specs.declared.reading.Head.{Head}
use Rattle.plain_image.proofs.PpmParts.{Reader}
use Rattle.plain_image.proofs.PpmBytes.{one}
use Rattle.plain_image.proofs.Gaps.{gap_then, end_then}
use Rattle.plain_image.proofs.Sides.{digits_then, more_by}
use Rattle.plain_image.proofs.Rasters.{raster}

-- ---- the parts of a text

-- a byte that may begin a side
abbrev pub leads : ℕ → Bool
leads b = nat_le 49 b && nat_le b 57

abbrev pub is : ℕ → ℕ → Bool
is c b = b == c

abbrev pub side_then : (ℕ → Reader) → Reader
side_then k = one leads (λ b. digits_then k (b - 48))

abbrev pub greatest_then : ℕ → ℕ → Reader
greatest_then v w = one (is 50) (λ _. one (is 53) (λ _. one (is 53) (λ _. one is_whitespace (λ _. raster v w))))

abbrev pub rows_then : ℕ → Reader
rows_then v = gap_then Bare (side_then (λ w. gap_then Bare (greatest_then v w)))

abbrev pub whole : Reader
whole = one (is 80) (λ _. one (is 54) (λ _. gap_then Bare (side_then rows_then)))

-- ---- places

-- these bytes stand at this offset, and nothing behind them
record At (bytes : List ℕ) (n : ℕ) (t : List ℕ) : Type 0 where
  there : drop n bytes ≡ t
  len : length bytes ≡ n + length t

at_next : (bytes : List ℕ) (n b : ℕ) (t : List ℕ) → At bytes n (b ∷ t) → At bytes (n + 1) t
at_next bytes n b t a = record { there = sym (drop-drop 1 n bytes) ∙ ap (drop 1) a.there; len = omega (arith, a.len) }

-- one part after another
assoc : {A B C : Type 0} (r : Result A PpmFault) (f : A → Result B PpmFault) (g : B → Result C PpmFault)
    → and_then (and_then r f) g ≡ and_then r (λ a. and_then (f a) g)
assoc (Ok a) f g = refl
assoc (Err e) f g = refl

-- a continuation that reads, at each place, what the reader reads there
Follows : List ℕ → (ℕ → Result Pixels PpmFault) → Reader → Type 0
Follows bytes k read = (n : ℕ) (t : List ℕ) → At bytes n t → k n ≡ read n t

-- ---- one part each

byte_flow : (bytes : List ℕ) (c : ℕ) (k : ℕ → Result Pixels PpmFault) (read : Reader) → Follows bytes k read
    → (n : ℕ) (t : List ℕ) → At bytes n t → and_then (one_byte c n (drop n bytes)) k ≡ one (is c) (λ _. read) n t
unfolding Follows
byte_flow bytes c k read f n t a = ap (λ u. and_then (one_byte c n u) k) a.there ∙ at_text t a
  where
    at_text : (t : List ℕ) → At bytes n t → and_then (one_byte c n t) k ≡ one (is c) (λ _. read) n t
    at_text [] a = refl
    at_text (b ∷ t) a = go (b == c)
      where
        go : (o : Bool) → and_then (if o then Ok (n + 1) else Err (Bad n)) k ≡ (if o then read (n + 1) t else Err (Bad n))
        go true = f (n + 1) t (at_next bytes n b t a)
        go false = refl

blank_flow : (bytes : List ℕ) (k : ℕ → Result Pixels PpmFault) (read : Reader) → Follows bytes k read
    → (n : ℕ) (t : List ℕ) → At bytes n t → and_then (one_blank n (drop n bytes)) k ≡ one is_whitespace (λ _. read) n t
unfolding Follows
blank_flow bytes k read f n t a = ap (λ u. and_then (one_blank n u) k) a.there ∙ at_text t a
  where
    at_text : (t : List ℕ) → At bytes n t → and_then (one_blank n t) k ≡ one is_whitespace (λ _. read) n t
    at_text [] a = refl
    at_text (b ∷ t) a = go (is_whitespace b)
      where
        go : (o : Bool) → and_then (if o then Ok (n + 1) else Err (Bad n)) k ≡ (if o then read (n + 1) t else Err (Bad n))
        go true = f (n + 1) t (at_next bytes n b t a)
        go false = refl

gap_goes : (bytes : List ℕ) (k : ℕ → Result Pixels PpmFault) (read : Reader) → Follows bytes k read
    → (p : Gap) (n : ℕ) (t : List ℕ) → At bytes n t → and_then (gap p n t) k ≡ gap_then p read n t
unfolding Follows
gap_goes bytes k read f p n [] a = refl
gap_goes bytes k read f p n (b ∷ t) a = go (after_in_gap p b) (λ next. gap_goes bytes k read f next (n + 1) t (at_next bytes n b t a))
  where
    stop : (p : Gap) → and_then (gap_end p n) k ≡ end_then p read n (b ∷ t)
    stop Blank = f n (b ∷ t) a
    stop Bare = refl
    stop Comment = refl

    go : (o : Option Gap) → ((next : Gap) → and_then (gap next (n + 1) t) k ≡ gap_then next read (n + 1) t)
        → and_then (option_map_or (λ next. gap next (n + 1) t) o (gap_end p n)) k ≡ option_map_or (λ next. gap_then next read (n + 1) t) o (end_then p read n (b ∷ t))
    go (Some next) ih = ih next
    go None ih = stop p

gap_flow : (bytes : List ℕ) (k : ℕ → Result Pixels PpmFault) (read : Reader) → Follows bytes k read
    → (n : ℕ) (t : List ℕ) → At bytes n t → and_then (gap Bare n (drop n bytes)) k ≡ gap_then Bare read n t
gap_flow bytes k read f n t a = ap (λ u. and_then (gap Bare n u) k) a.there ∙ gap_goes bytes k read f Bare n t a

-- the same of a part that reads a side
FollowsSide : List ℕ → (Side → Result Pixels PpmFault) → (ℕ → Reader) → Type 0
FollowsSide bytes k read = (v n : ℕ) (t : List ℕ) → At bytes n t → k (record { value = v; next = n }) ≡ read v n t

digits_flow : (bytes : List ℕ) (k : Side → Result Pixels PpmFault) (read : ℕ → Reader) → FollowsSide bytes k read
    → (v n : ℕ) (t : List ℕ) → At bytes n t → and_then (digits v n t) k ≡ digits_then read v n t
unfolding FollowsSide
digits_flow bytes k read f v n [] a = f v n [] a
digits_flow bytes k read f v n (b ∷ t) a = go (is_digit b) (nat_lt 4096 (more_by v b)) (digits_flow bytes k read f (more_by v b) (n + 1) t (at_next bytes n b t a))
  where
    go : (o l : Bool) → and_then (digits (more_by v b) (n + 1) t) k ≡ digits_then read (more_by v b) (n + 1) t
        → and_then (if o then (if l then Err TooLarge else digits (more_by v b) (n + 1) t) else Ok (record { value = v; next = n })) k
        ≡ (if o then (if l then Err TooLarge else digits_then read (more_by v b) (n + 1) t) else read v n (b ∷ t))
    go true true ih = refl
    go true false ih = ih
    go false l ih = f v n (b ∷ t) a

side_goes : (bytes : List ℕ) (k : Side → Result Pixels PpmFault) (read : ℕ → Reader) → FollowsSide bytes k read
    → (n : ℕ) (t : List ℕ) → At bytes n t → and_then (side n t) k ≡ side_then read n t
side_goes bytes k read f n [] a = refl
side_goes bytes k read f n (b ∷ t) a = go (leads b) (digits_flow bytes k read f (b - 48) (n + 1) t (at_next bytes n b t a))
  where
    go : (o : Bool) → and_then (digits (b - 48) (n + 1) t) k ≡ digits_then read (b - 48) (n + 1) t
        → and_then (if o then digits (b - 48) (n + 1) t else Err (Bad n)) k ≡ (if o then digits_then read (b - 48) (n + 1) t else Err (Bad n))
    go true ih = ih
    go false ih = refl

side_flow : (bytes : List ℕ) (k : Side → Result Pixels PpmFault) (read : ℕ → Reader) → FollowsSide bytes k read
    → (n : ℕ) (t : List ℕ) → At bytes n t → and_then (gap_side bytes n) k ≡ gap_then Bare (side_then read) n t
unfolding Follows
side_flow bytes k read f n t a =
    assoc (gap Bare n (drop n bytes)) (λ m. side m (drop m bytes)) k
    ∙ gap_flow bytes (λ m. and_then (side m (drop m bytes)) k) (side_then read)
    (λ m u b. ap (λ x. and_then (side m x) k) b.there ∙ side_goes bytes k read f m u b) n t a

-- ---- the pixels

raster_flow : (bytes : List ℕ) (v w n : ℕ) (t : List ℕ) → At bytes n t → picture_behind bytes (record { cols = v; rows = w; start = n }) ≡ raster v w n t
raster_flow bytes v w n t a = rw (a.len, a.there) refl

greatest_flow : (bytes : List ℕ) (v w n : ℕ) (t : List ℕ) → At bytes n t
    → and_then (and_then (greatest bytes n) (λ start. Ok (record { cols = v; rows = w; start = start }))) (picture_behind bytes) ≡ gap_then Bare (greatest_then v w) n t
unfolding Follows
greatest_flow bytes v w n t a =
    let done : ℕ → Result Pixels PpmFault = λ start. picture_behind bytes (record { cols = v; rows = w; start = start }) in
    let four : ℕ → Result Pixels PpmFault = λ d. and_then (one_blank d (drop d bytes)) done in
    let three : ℕ → Result Pixels PpmFault = λ c. and_then (one_byte 53 c (drop c bytes)) four in
    let two : ℕ → Result Pixels PpmFault = λ b. and_then (one_byte 53 b (drop b bytes)) three in
    let first : ℕ → Result Pixels PpmFault = λ a. and_then (one_byte 50 a (drop a bytes)) two in
    unnested (gap Bare n (drop n bytes))
    ∙ gap_flow bytes first (greatest_then v w)
    (byte_flow bytes 50 two (one (is 53) (λ _. one (is 53) (λ _. one is_whitespace (λ _. raster v w))))
    (byte_flow bytes 53 three (one (is 53) (λ _. one is_whitespace (λ _. raster v w)))
    (byte_flow bytes 53 four (one is_whitespace (λ _. raster v w))
    (blank_flow bytes done (raster v w) (raster_flow bytes v w))))) n t a
  where
    made : ℕ → Result Head PpmFault
    made start = Ok (record { cols = v; rows = w; start = start })

    unnested : (r : Result ℕ PpmFault)
        → and_then (and_then (and_then r (λ a. and_then (one_byte 50 a (drop a bytes)) (λ b. and_then (one_byte 53 b (drop b bytes)) (λ c. and_then (one_byte 53 c (drop c bytes)) (λ d. one_blank d (drop d bytes))))))
        (λ start. Ok (record { cols = v; rows = w; start = start }))) (picture_behind bytes)
        ≡ and_then r (λ a. and_then (one_byte 50 a (drop a bytes)) (λ b. and_then (one_byte 53 b (drop b bytes)) (λ c. and_then (one_byte 53 c (drop c bytes)) (λ d. and_then (one_blank d (drop d bytes))
        (λ start. picture_behind bytes (record { cols = v; rows = w; start = start }))))))
    unnested (Err e) = refl
    unnested (Ok a) = behind_two (one_byte 50 a (drop a bytes))
      where
        behind_blank : (r : Result ℕ PpmFault) → and_then (and_then r (λ start. Ok (record { cols = v; rows = w; start = start }))) (picture_behind bytes)
            ≡ and_then r (λ start. picture_behind bytes (record { cols = v; rows = w; start = start }))
        behind_blank (Err e) = refl
        behind_blank (Ok d) = refl

        behind_last : (r : Result ℕ PpmFault)
            → and_then (and_then (and_then r (λ d. one_blank d (drop d bytes))) (λ start. Ok (record { cols = v; rows = w; start = start }))) (picture_behind bytes)
            ≡ and_then r (λ d. and_then (one_blank d (drop d bytes)) (λ start. picture_behind bytes (record { cols = v; rows = w; start = start })))
        behind_last (Err e) = refl
        behind_last (Ok d) = behind_blank (one_blank d (drop d bytes))

        behind_five : (r : Result ℕ PpmFault)
            → and_then (and_then (and_then r (λ c. and_then (one_byte 53 c (drop c bytes)) (λ d. one_blank d (drop d bytes)))) (λ start. Ok (record { cols = v; rows = w; start = start }))) (picture_behind bytes)
            ≡ and_then r (λ c. and_then (one_byte 53 c (drop c bytes)) (λ d. and_then (one_blank d (drop d bytes)) (λ start. picture_behind bytes (record { cols = v; rows = w; start = start }))))
        behind_five (Err e) = refl
        behind_five (Ok c) = behind_last (one_byte 53 c (drop c bytes))

        behind_two : (r : Result ℕ PpmFault)
            → and_then (and_then (and_then r (λ b. and_then (one_byte 53 b (drop b bytes)) (λ c. and_then (one_byte 53 c (drop c bytes)) (λ d. one_blank d (drop d bytes)))))
            (λ start. Ok (record { cols = v; rows = w; start = start }))) (picture_behind bytes)
            ≡ and_then r (λ b. and_then (one_byte 53 b (drop b bytes)) (λ c. and_then (one_byte 53 c (drop c bytes)) (λ d. and_then (one_blank d (drop d bytes))
            (λ start. picture_behind bytes (record { cols = v; rows = w; start = start })))))
        behind_two (Err e) = refl
        behind_two (Ok b) = behind_five (one_byte 53 b (drop b bytes))

-- ---- whole texts

pub ppm_flow : (bytes : List ℕ) → ppm_of bytes ≡ whole 0 bytes
unfolding ppm_of Follows FollowsSide
ppm_flow bytes =
    let made : ℕ → ℕ → ℕ → Result Head PpmFault = λ v w start. Ok (record { cols = v; rows = w; start = start }) in
    let rows : ℕ → ℕ → Result Head PpmFault = λ v n. and_then (gap_side bytes n) (λ rows. and_then (greatest bytes rows.next) (made v rows.value)) in
    let cols : ℕ → Result Head PpmFault = λ n. and_then (gap_side bytes n) (λ cols. rows cols.value cols.next) in
    let six : ℕ → Result Pixels PpmFault = λ n. and_then (cols n) (picture_behind bytes) in
    let first : ℕ → Result Pixels PpmFault = λ n. and_then (one_byte 54 n (drop n bytes)) six in
    assoc (magic bytes) cols (picture_behind bytes)
    ∙ assoc (one_byte 80 0 bytes) (λ n. one_byte 54 n (drop n bytes)) six
    ∙ byte_flow bytes 80 first (one (is 54) (λ _. gap_then Bare (side_then rows_then)))
    (byte_flow bytes 54 six (gap_then Bare (side_then rows_then))
    (λ n t a. assoc (gap_side bytes n) (λ cols. rows cols.value cols.next) (picture_behind bytes)
    ∙ side_flow bytes (λ cols. and_then (rows cols.value cols.next) (picture_behind bytes)) rows_then
    (λ v m u b. assoc (gap_side bytes m) (λ rows. and_then (greatest bytes rows.next) (made v rows.value)) (picture_behind bytes)
    ∙ side_flow bytes (λ rows. and_then (and_then (greatest bytes rows.next) (made v rows.value)) (picture_behind bytes)) (λ w. gap_then Bare (greatest_then v w))
    (λ w l x y. greatest_flow bytes v w l x y) m u b) n t a))
    0 bytes (record { there = refl; len = omega arith })
