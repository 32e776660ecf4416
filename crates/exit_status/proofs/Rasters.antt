-- Each fault that a raster file may be refused for has a text.
use Rattle.std.specs.Prelude.{ℕ, ◌+◌, ◌*◌, ◌-◌, ◌==◌, ◌&&◌, nat_le, nat_lt, List, [], ◌∷◌, length, drop, Option, Some, None, is_some, Result, Ok, Err, IsTrue, refl}
use Rattle.std.specs.Option.{option_map_or}
use Rattle.plain_image.specs.declared.reading.PpmFault.{PpmFault}
use Rattle.plain_image.specs.declared.reading.PpmFault.TheVariants.{Bad}
use Rattle.plain_image.specs.declared.reading.Gap.{Gap}
use Rattle.plain_image.specs.declared.reading.Gap.TheVariants.{Bare, Blank, Comment}
use Rattle.plain_image.specs.declared.reading.Head.{Head}
use Rattle.farm_base.specs.Digits.{is_digit}
use Rattle.plain_image.specs.PpmText.{and_then, is_whitespace, one_byte, one_blank, after_in_gap, gap_end, gap, digits, side, gap_side, magic, greatest, head, picture_behind, ppm_of}
use Rattle.raster_layers.specs.declared.grids.GridFault.TheVariants.{Size}
use Rattle.exit_status.specs.RasterFaults.{ppm_text}
use Rattle.exit_status.specs.Told.{PpmTextsAreTold, GridsAreTold}
use Rattle.exit_status.proofs.Steps.{OnFault, of_fault, either}

abbrev HasText : PpmFault → Type 0
HasText e = IsTrue (is_some (ppm_text e))

abbrev Told : {A : Type 0} → Result A PpmFault → Type 0
Told r = OnFault HasText r

and_told : {A B : Type 0} (r : Result A PpmFault) (f : A → Result B PpmFault) → Told r → ((x : A) → Told (f x)) → Told (and_then r f)
and_told (Ok x) f h g = g x
and_told (Err e) f h g = h

byte_told : (c n : ℕ) (bytes : List ℕ) → Told (one_byte c n bytes)
byte_told c n [] = refl
byte_told c n (b ∷ bs) = either HasText (b == c) (Ok (n + 1)) (Err (Bad n)) tt refl

blank_told : (n : ℕ) (bytes : List ℕ) → Told (one_blank n bytes)
blank_told n [] = refl
blank_told n (b ∷ bs) = either HasText (is_whitespace b) (Ok (n + 1)) (Err (Bad n)) tt refl

gap_end_told : (place : Gap) (n : ℕ) → Told (gap_end place n)
gap_end_told Blank n = tt
gap_end_told Bare n = refl
gap_end_told Comment n = refl

next_told : (read : Gap → Result ℕ PpmFault) (o : Option Gap) (none : Result ℕ PpmFault) → Told none → ((next : Gap) → Told (read next)) → Told (option_map_or read o none)
next_told read None none h g = h
next_told read (Some next) none h g = g next

gap_told : (place : Gap) (n : ℕ) (bytes : List ℕ) → Told (gap place n bytes)
gap_told place n [] = refl
gap_told place n (b ∷ bs) = next_told (λ next. gap next (n + 1) bs) (after_in_gap place b) (gap_end place n) (gap_end_told place n) (λ next. gap_told next (n + 1) bs)

digits_told : (v n : ℕ) (bytes : List ℕ) → Told (digits v n bytes)
digits_told v n [] = tt
digits_told v n (b ∷ bs) =
    either HasText (is_digit b) _ _ (either HasText (nat_lt 4096 (v * 10 + (b - 48))) _ _ refl (digits_told (v * 10 + (b - 48)) (n + 1) bs)) tt

side_told : (n : ℕ) (bytes : List ℕ) → Told (side n bytes)
side_told n [] = refl
side_told n (b ∷ bs) = either HasText (nat_le 49 b && nat_le b 57) _ _ (digits_told (b - 48) (n + 1) bs) refl

gap_side_told : (bytes : List ℕ) (n : ℕ) → Told (gap_side bytes n)
gap_side_told bytes n = and_told _ _ (gap_told Bare n (drop n bytes)) (λ m. side_told m (drop m bytes))

magic_told : (bytes : List ℕ) → Told (magic bytes)
magic_told bytes = and_told _ _ (byte_told 80 0 bytes) (λ n. byte_told 54 n (drop n bytes))

greatest_told : (bytes : List ℕ) (n : ℕ) → Told (greatest bytes n)
greatest_told bytes n =
    and_told _ _ (gap_told Bare n (drop n bytes)) (λ a.
    and_told _ _ (byte_told 50 a (drop a bytes)) (λ b.
    and_told _ _ (byte_told 53 b (drop b bytes)) (λ c.
    and_told _ _ (byte_told 53 c (drop c bytes)) (λ d.
    blank_told d (drop d bytes)))))

head_told : (bytes : List ℕ) → Told (head bytes)
head_told bytes =
    and_told _ _ (magic_told bytes) (λ n.
    and_told _ _ (gap_side_told bytes n) (λ cols.
    and_told _ _ (gap_side_told bytes cols.next) (λ rows.
    and_told _ _ (greatest_told bytes rows.next) (λ start. tt))))

picture_told : (bytes : List ℕ) (h : Head) → Told (picture_behind bytes h)
picture_told bytes h =
    either HasText (nat_lt (length bytes) (h.start + h.rows * h.cols * 3)) _ _ refl
    (either HasText (nat_lt (h.start + h.rows * h.cols * 3) (length bytes)) _ _ refl tt)

of_told : (bytes : List ℕ) → Told (ppm_of bytes)
unfolding ppm_of
of_told bytes = and_told _ _ (head_told bytes) (picture_told bytes)

pub ppm_texts_are_told : PpmTextsAreTold
ppm_texts_are_told bytes e q = of_fault HasText (ppm_of bytes) e (of_told bytes) q

pub grids_are_told : GridsAreTold
grids_are_told Size = refl
