-- The pixels of an image of these sides, with nothing behind them.
use Rattle.std.proofs.Common.{◌≡◌, ◌<◌, ℕ, zero, suc, ◌+◌, ◌*◌, ◌-◌, List, [], ◌∷◌, ◌++◌, length, take, drop, replicate, flat_map, refl, sym, ap, ◌∙◌, subst, inl, inr, ◌⊎◌, Result, Ok, Err, arith, append-nil, length-append, take-append-drop, length-take-le}
use Rattle.std.specs.Prelude.{if◌then◌else◌, nat_lt}
use Rattle.std.proofs.lemmas.Bool.{cases_Bool, lt-ltb, le-ltb, ltb-true, ltb-false}
use Rattle.std.proofs.lemmas.List.{length-replicate}
use Rattle.plain_shapes.specs.Images.{Pixels}
use Rattle.plain_shapes.specs.Ppm.{pixel_bytes}
use Rattle.plain_image.specs.PpmText.{colours}
use Rattle.plain_image.specs.declared.reading.PpmFault.{PpmFault}
use Rattle.plain_image.specs.declared.reading.PpmFault.TheVariants.{Bad, TooLarge, NoMemory}
use Rattle.plain_image.proofs.PpmParts.{Reader, BadAt, Knows, bad_same, nil_cons}
use Rattle.plain_image.proofs.Bytes.{colours_written, length_written}

-- how many bytes the pixels of an image of these sides are
abbrev pub size : ℕ → ℕ → ℕ
size cols rows = rows * cols * 3

abbrev pub raster : ℕ → ℕ → Reader
raster cols rows n t =
    if nat_lt (n + length t) (n + size cols rows) then Err (Bad (n + length t))
    else (if nat_lt (n + size cols rows) (n + length t) then Err (Bad (n + size cols rows))
    else Ok (record { cols = cols; rows = rows; pixels = colours t }))

-- the bytes are the pixels of this image, which has these sides
pub record Painted (cols rows : ℕ) (text : List ℕ) (image : Pixels) : Type 0 where
  pub cols_is : image.cols ≡ cols
  pub rows_is : image.rows ≡ rows
  pub bytes : text ≡ flat_map pixel_bytes image.pixels
  pub count : length image.pixels ≡ rows * cols

-- three bytes each make pixels
painted_bytes : (k : ℕ) (t : List ℕ) → length t ≡ k * 3 → (t ≡ flat_map pixel_bytes (colours t)) × (length (colours t) ≡ k)
painted_bytes zero [] e = (refl, refl)
painted_bytes zero (r ∷ t) e = absurd (omega (arith, e))
painted_bytes (suc k) [] e = absurd (omega (arith, e))
painted_bytes (suc k) (r ∷ []) e = absurd (omega (arith, e))
painted_bytes (suc k) (r ∷ g ∷ []) e = absurd (omega (arith, e))
painted_bytes (suc k) (r ∷ g ∷ b ∷ t) e = let p = painted_bytes k t (omega (arith, e)) in (ap (λ x. r ∷ g ∷ b ∷ x) p.0, ap suc p.1)

image_of : ℕ → ℕ → List ℕ → Pixels
image_of cols rows t = record { cols = cols; rows = rows; pixels = colours t }

painted : (cols rows : ℕ) (t : List ℕ) → length t ≡ size cols rows → Painted cols rows t (image_of cols rows t)
unfolding image_of
painted cols rows t e = let p = painted_bytes (rows * cols) t e in record { cols_is = refl; rows_is = refl; bytes = p.0; count = p.1 }

-- ---- what the reader answers

too_short : (cols rows n : ℕ) (t : List ℕ) → length t < size cols rows → raster cols rows n t ≡ Err (Bad (n + length t))
too_short cols rows n t h = ap (λ o. if o then Err (Bad (n + length t)) else (if nat_lt (n + size cols rows) (n + length t) then Err (Bad (n + size cols rows)) else Ok (record { cols = cols; rows = rows; pixels = colours t })))
    (lt-ltb (n + length t) (n + size cols rows) (omega (arith, h)))

too_long : (cols rows n : ℕ) (t : List ℕ) → size cols rows < length t → raster cols rows n t ≡ Err (Bad (n + size cols rows))
too_long cols rows n t h =
    ap (λ o. if o then Err (Bad (n + length t)) else (if nat_lt (n + size cols rows) (n + length t) then Err (Bad (n + size cols rows)) else Ok (record { cols = cols; rows = rows; pixels = colours t })))
    (le-ltb (n + length t) (n + size cols rows) (omega (arith, h)))
    ∙ ap (λ o. if o then Err (Bad (n + size cols rows)) else Ok (record { cols = cols; rows = rows; pixels = colours t })) (lt-ltb (n + size cols rows) (n + length t) (omega (arith, h)))

just_long : (cols rows n : ℕ) (t : List ℕ) → length t ≡ size cols rows → raster cols rows n t ≡ Ok (image_of cols rows t)
unfolding image_of
just_long cols rows n t h =
    ap (λ o. if o then Err (Bad (n + length t)) else (if nat_lt (n + size cols rows) (n + length t) then Err (Bad (n + size cols rows)) else Ok (record { cols = cols; rows = rows; pixels = colours t })))
    (le-ltb (n + length t) (n + size cols rows) (omega (arith, h)))
    ∙ ap (λ o. if o then Err (Bad (n + size cols rows)) else Ok (record { cols = cols; rows = rows; pixels = colours t })) (le-ltb (n + size cols rows) (n + length t) (omega (arith, h)))

abbrev Long : ℕ → List ℕ → Type 0
Long len t = (length t < len) ⊎ ((len < length t) ⊎ (length t ≡ len))

how_long : (len : ℕ) (t : List ℕ) → Long len t
how_long len t = elim (cases_Bool (nat_lt (length t) len)) [
  | inl e ↦ inl (ltb-true (length t) len e)
  | inr e ↦ elim (cases_Bool (nat_lt len (length t))) [
    | inl f ↦ inr (inl (ltb-true len (length t) f))
    | inr f ↦ inr (inr (let a = ltb-false (length t) len e in let b = ltb-false len (length t) f in omega (arith, a, b)))
  ]
]

ok_same : (i j : Pixels) → ◌≡◌ {A = Result Pixels PpmFault} (Ok i) (Ok j) → i ≡ j
ok_same i j e = cc

bad_ok : (m : ℕ) (i : Pixels) → ◌≡◌ {A = Result Pixels PpmFault} (Err (Bad m)) (Ok i) → ⊥
bad_ok m i e = cc

bad_large : (m : ℕ) → ◌≡◌ {A = Result Pixels PpmFault} (Err (Bad m)) (Err TooLarge) → ⊥
bad_large m e = cc

ok_large : (i : Pixels) → ◌≡◌ {A = Result Pixels PpmFault} (Ok i) (Err TooLarge) → ⊥
ok_large i e = cc

bad_memory : (m : ℕ) → ◌≡◌ {A = Result Pixels PpmFault} (Err (Bad m)) (Err NoMemory) → ⊥
bad_memory m e = cc

ok_memory : (i : Pixels) → ◌≡◌ {A = Result Pixels PpmFault} (Ok i) (Err NoMemory) → ⊥
ok_memory i e = cc

raster_sound : (cols rows n : ℕ) (t : List ℕ) (i : Pixels) → raster cols rows n t ≡ Ok i → Painted cols rows t i
raster_sound cols rows n t i h = elim (how_long (size cols rows) t) [
  | inl l ↦ absurd (bad_ok (n + length t) i (sym (too_short cols rows n t l) ∙ h))
  | inr (inl l) ↦ absurd (bad_ok (n + size cols rows) i (sym (too_long cols rows n t l) ∙ h))
  | inr (inr l) ↦ subst (Painted cols rows t) (ok_same (image_of cols rows t) i (sym (just_long cols rows n t l) ∙ h)) (painted cols rows t l)
]

raster_reads : (cols rows n : ℕ) (t : List ℕ) (i : Pixels) → Painted cols rows t i → raster cols rows n t ≡ Ok i
unfolding image_of
raster_reads cols rows n t i p =
    let len : length t ≡ size cols rows = ap length p.bytes ∙ length_written i.pixels ∙ ap (λ x. x * 3) p.count in
    let same : colours t ≡ i.pixels = ap colours p.bytes ∙ colours_written i.pixels in
    just_long cols rows n t len ∙ rw (← p.cols_is, ← p.rows_is, same) refl

raster_over : (cols rows n : ℕ) (t : List ℕ) → raster cols rows n t ≡ Err TooLarge → ⊥
raster_over cols rows n t h = elim (how_long (size cols rows) t) [
  | inl l ↦ bad_large (n + length t) (sym (too_short cols rows n t l) ∙ h)
  | inr (inl l) ↦ bad_large (n + size cols rows) (sym (too_long cols rows n t l) ∙ h)
  | inr (inr l) ↦ ok_large (image_of cols rows t) (sym (just_long cols rows n t l) ∙ h)
]

raster_never : (cols rows n : ℕ) (t : List ℕ) → raster cols rows n t ≡ Err NoMemory → ⊥
raster_never cols rows n t h = elim (how_long (size cols rows) t) [
  | inl l ↦ bad_memory (n + length t) (sym (too_short cols rows n t l) ∙ h)
  | inr (inl l) ↦ bad_memory (n + size cols rows) (sym (too_long cols rows n t l) ∙ h)
  | inr (inr l) ↦ ok_memory (image_of cols rows t) (sym (just_long cols rows n t l) ∙ h)
]

ok_bad : (i : Pixels) (m : ℕ) → ◌≡◌ {A = Result Pixels PpmFault} (Ok i) (Err (Bad m)) → ⊥
ok_bad i m e = cc

raster_bad : (cols rows n : ℕ) (t : List ℕ) (m : ℕ) → raster cols rows n t ≡ Err (Bad m) → BadAt (raster cols rows) (Painted cols rows) n t m
raster_bad cols rows n t m h = elim (how_long (size cols rows) t) [
  | inl l ↦
      let zeros : List ℕ = replicate (size cols rows - length t) 0 in
      let len : length (t ++ zeros) ≡ size cols rows =
      let a = length-append t zeros in let b = length-replicate {A = ℕ} (size cols rows - length t) 0 in omega (arith, a, b, l) in
      record {
        front = t;
        rest = [];
        more = zeros;
        image = image_of cols rows (t ++ zeros);
        split = sym (append-nil t);
        place = sym (bad_same (n + length t) m (sym (too_short cols rows n t l) ∙ h));
        goes = painted cols rows (t ++ zeros) len;
        stays = λ d q r e. absurd (nil_cons d q e);
      }
  | inr (inl l) ↦
      let front : List ℕ = take (size cols rows) t in
      let len : length front ≡ size cols rows = length-take-le (size cols rows) t (omega (arith, l)) in
      record {
        front = front;
        rest = drop (size cols rows) t;
        more = [];
        image = image_of cols rows front;
        split = sym (take-append-drop (size cols rows) t);
        place = sym (bad_same (n + size cols rows) m (sym (too_long cols rows n t l) ∙ h)) ∙ ap (λ x. n + x) (sym len);
        goes = rw (append-nil front) (painted cols rows front len);
        stays = λ d q r e. too_long cols rows n (front ++ d ∷ r) (let a = length-append front (d ∷ r) in omega (arith, a, len))
            ∙ sym (too_long cols rows n t l) ∙ h;
      }
  | inr (inr l) ↦ absurd (ok_bad (image_of cols rows t) m (sym (just_long cols rows n t l) ∙ h))
]

pub knows_raster : (cols rows : ℕ) → Knows (raster cols rows) (Painted cols rows) (λ t. ⊥)
knows_raster cols rows = record {
  some = let zeros : List ℕ = replicate (size cols rows) 0 in (zeros, image_of cols rows zeros, painted cols rows zeros (length-replicate {A = ℕ} (size cols rows) 0));
  sound = raster_sound cols rows;
  reads = raster_reads cols rows;
  over = raster_over cols rows;
  passes = λ n t h. absurd h;
  bad = raster_bad cols rows;
  never = raster_never cols rows;
}
