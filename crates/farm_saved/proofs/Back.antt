-- What was written is read again.
use Rattle.std.proofs.Common.{◌≡◌, ℕ, ◌+◌, ◌-◌, ◌^◌, ◌%◌, ◌<◌, ◌≤◌, List, [], ◌∷◌, ◌++◌, length, true, ltb, leb, eqb, Option, Some, None, Result, Ok, refl, sym, ap, ◌∙◌, subst, add-one, arith, append_assoc, append-nil, length-append}
use Rattle.std.specs.Prelude.{All, slice_get}
use Rattle.std.specs.List.{flat_map, list_all}
use Rattle.std.proofs.lemmas.List.{drop_at}
use Rattle.std.proofs.lemmas.List.Elements.{All-head, All-tail}
use Rattle.std.proofs.lemmas.Bool.{and_parts}
use Rattle.std.proofs.lemmas.Bool.Decides.{nat_tests}
use Rattle.byteorder.specs.Endian.{little_bytes}
use Rattle.byteorder.specs.Numbers.{little_number-reads_back, length-bytes_low_first}
use Rattle.reading.specs.Steps.{◌>>=◌, check}
use Rattle.std.proofs.Math.Nat.{pow-le-pow_right}
use Rattle.plain_world.specs.declared.world.Meta.{Meta}
use Rattle.plain_world.specs.World.{IsMeta}
use Rattle.meta_container.specs.Reading.{is_meta}
use Rattle.farm_history.specs.declared.keys.Kept.{Kept}
use Rattle.farm_history.specs.declared.saved.Past.{Past}
use Rattle.farm_history.specs.Replays.{Saving, key_before, are_rising}
use Rattle.farm_saved.specs.declared.fault.SavedFault.{SavedFault}
use Rattle.farm_saved.specs.declared.fault.SavedFault.TheVariants.{Short, Kind}
use Rattle.farm_saved.specs.Savings.{StyleFits, IsKept, IsSaving}
use Rattle.farm_saved.specs.Writing.{style_bytes, past_bytes, kept_bytes, saved_bytes}
use Rattle.farm_saved.specs.Reading.{after_magic, bytes_number, many, style_if_any, style_number_in, past_in, is_behind, is_kept, fields_in, entry_in, nothing_left, saved_in, saving_in}
use Rattle.farm_saved.specs.inner.Fields.{saved_magic, past_of, last_of}
use Rattle.farm_saved.proofs.Loops.{many_step, many_none}
use Rattle.farm_saved.specs.Laws.{PastFits, MapFits, HasNumbers, ReadsBack}

-- a number that was written is read, and what stands behind it is left
field_back : (short : SavedFault) (n x : ℕ) (rest : List ℕ) → x < 256 ^ n → bytes_number short n (little_bytes n x ++ rest) ≡ Ok (x, rest)
unfolding bytes_number
field_back short n x rest h =
    let len : length (little_bytes n x ++ rest) ≡ n + length rest = length-append (little_bytes n x) rest ∙ ap (λ k. k + length rest) (length-bytes_low_first 0 n x) in
    let long : leb n (length (little_bytes n x ++ rest)) ≡ true = grind (arith, nat_tests) in
    rw (long, little_number-reads_back n x rest h, drop_at (little_bytes n x) rest n (length-bytes_low_first 0 n x)) refl

-- ---- styles

style_step : (short : SavedFault) (before : List (Option ℕ)) (bytes : List ℕ) → style_number_in short before bytes ≡ (bytes_number short 4 bytes >>= λ number. Ok (style_if_any number.0, number.1))
unfolding style_number_in
style_step short before bytes = refl

style_back : (short : SavedFault) (before : List (Option ℕ)) (s : Option ℕ) (rest : List ℕ) → StyleFits s → style_number_in short before (style_bytes s ++ rest) ≡ Ok (s, rest)
style_back short before None rest h =
    style_step short before (little_bytes 4 0 ++ rest)
    ∙ ap (λ (r : Result (ℕ × List ℕ) SavedFault). r >>= λ number. Ok (style_if_any number.0, number.1)) (field_back short 4 0 rest (omega arith))
style_back short before (Some n) rest h =
    style_step short before (little_bytes 4 (n + 1) ++ rest)
    ∙ ap (λ (r : Result (ℕ × List ℕ) SavedFault). r >>= λ number. Ok (style_if_any number.0, number.1)) (field_back short 4 (n + 1) rest (omega arith))
    ∙ ap (λ (k : ℕ). Ok (style_if_any k, rest)) (add-one n)

styles_back : (short : SavedFault) (styles before : List (Option ℕ)) (rest : List ℕ) → All StyleFits styles
    → many (style_number_in short) (length styles) before (flat_map style_bytes styles ++ rest) ≡ Ok (before ++ styles, rest)
styles_back short [] before rest h = many_none (style_number_in short) before rest ∙ ap (λ (b : List (Option ℕ)). Ok (b, rest)) (sym (append-nil before))
styles_back short (s ∷ styles) before rest h =
    let behind = flat_map style_bytes styles ++ rest in
    let one : style_number_in short before ((style_bytes s ++ flat_map style_bytes styles) ++ rest) ≡ Ok (s, behind) =
    ap (style_number_in short before) (append_assoc (style_bytes s) (flat_map style_bytes styles) rest) ∙ style_back short before s behind (All-head StyleFits s styles h) in
    many_step (style_number_in short) (length styles) before ((style_bytes s ++ flat_map style_bytes styles) ++ rest)
    ∙ ap (λ (r : Result (Option ℕ × List ℕ) SavedFault). r >>= λ p. many (style_number_in short) (length styles) (before ++ p.0 ∷ []) p.1) one
    ∙ styles_back short styles (before ++ s ∷ []) rest (All-tail StyleFits s styles h)
    ∙ ap (λ (b : List (Option ℕ)). Ok (b, rest)) (append_assoc before (s ∷ []) styles)

-- ---- updates

-- what follows the number, and what follows the kind
abbrev after_number : ℕ → Result (ℕ × List ℕ) SavedFault → Result (Past × List ℕ) SavedFault
after_number kind r = r >>= λ number. Ok (past_of kind number.0, number.1)

abbrev after_kind : SavedFault → ℕ → Result (ℕ × List ℕ) SavedFault → Result (Past × List ℕ) SavedFault
after_kind short place r = r >>= λ kind. check (leb kind.0 1) (Kind place) >>= λ u. bytes_number short 4 kind.1 >>= λ number. Ok (past_of kind.0 number.0, number.1)

past_step : (short : SavedFault) (before : List Past) (bytes : List ℕ) → past_in short before bytes ≡ after_kind short (length before) (bytes_number short 4 bytes)
unfolding past_in
past_step short before bytes = refl

past_back : (short : SavedFault) (before : List Past) (past : Past) (rest : List ℕ) → PastFits past → past_in short before (past_bytes past ++ rest) ≡ Ok (past, rest)
past_back short before (Past.Update n) rest h =
    let kind : bytes_number short 4 ((little_bytes 4 0 ++ little_bytes 4 n) ++ rest) ≡ Ok (0, little_bytes 4 n ++ rest) =
    ap (bytes_number short 4) (append_assoc (little_bytes 4 0) (little_bytes 4 n) rest) ∙ field_back short 4 0 (little_bytes 4 n ++ rest) (omega arith) in
    past_step short before ((little_bytes 4 0 ++ little_bytes 4 n) ++ rest) ∙ ap (after_kind short (length before)) kind ∙ ap (after_number 0) (field_back short 4 n rest h)
past_back short before (Past.Renew n) rest h =
    let kind : bytes_number short 4 ((little_bytes 4 1 ++ little_bytes 4 n) ++ rest) ≡ Ok (1, little_bytes 4 n ++ rest) =
    ap (bytes_number short 4) (append_assoc (little_bytes 4 1) (little_bytes 4 n) rest) ∙ field_back short 4 1 (little_bytes 4 n ++ rest) (omega arith) in
    past_step short before ((little_bytes 4 1 ++ little_bytes 4 n) ++ rest) ∙ ap (after_kind short (length before)) kind ∙ ap (after_number 1) (field_back short 4 n rest h)

updates_back : (short : SavedFault) (updates before : List Past) (rest : List ℕ) → All PastFits updates
    → many (past_in short) (length updates) before (flat_map past_bytes updates ++ rest) ≡ Ok (before ++ updates, rest)
updates_back short [] before rest h = many_none (past_in short) before rest ∙ ap (λ (b : List Past). Ok (b, rest)) (sym (append-nil before))
updates_back short (u ∷ updates) before rest h =
    let behind = flat_map past_bytes updates ++ rest in
    let one : past_in short before ((past_bytes u ++ flat_map past_bytes updates) ++ rest) ≡ Ok (u, behind) =
    ap (past_in short before) (append_assoc (past_bytes u) (flat_map past_bytes updates) rest) ∙ past_back short before u behind (All-head PastFits u updates h) in
    many_step (past_in short) (length updates) before ((past_bytes u ++ flat_map past_bytes updates) ++ rest)
    ∙ ap (λ (r : Result (Past × List ℕ) SavedFault). r >>= λ p. many (past_in short) (length updates) (before ++ p.0 ∷ []) p.1) one
    ∙ updates_back short updates (before ++ u ∷ []) rest (All-tail PastFits u updates h)
    ∙ ap (λ (b : List Past). Ok (b, rest)) (append_assoc before (u ∷ []) updates)

-- ---- clean entries

-- the five fields one after another
fields_steps : (short : SavedFault) (b0 b1 b2 b3 b4 b5 : List ℕ) (m z x y v : ℕ)
    → bytes_number short 4 b0 ≡ Ok (m, b1) → bytes_number short 4 b1 ≡ Ok (z, b2) → bytes_number short 4 b2 ≡ Ok (x, b3) → bytes_number short 4 b3 ≡ Ok (y, b4)
    → bytes_number short 8 b4 ≡ Ok (v, b5) → fields_in short b0 ≡ Ok (record { key = record { map = m; meta = record { z = z; x = x; y = y } }; version = v }, b5)
unfolding fields_in
fields_steps short b0 b1 b2 b3 b4 b5 m z x y v e0 e1 e2 e3 e4 = rw (e0, e1, e2, e3, e4) refl

fields_back : (short : SavedFault) (k : Kept) (rest : List ℕ) → k.key.map < 2 ^ 32 → k.key.meta.z < 2 ^ 32 → k.key.meta.x < 2 ^ 32 → k.key.meta.y < 2 ^ 32
    → k.version < 2 ^ 64 → fields_in short (kept_bytes k ++ rest) ≡ Ok (k, rest)
fields_back short k rest hm hz hx hy hv =
    let m = little_bytes 4 k.key.map in
    let z = little_bytes 4 k.key.meta.z in
    let x = little_bytes 4 k.key.meta.x in
    let y = little_bytes 4 k.key.meta.y in
    let v = little_bytes 8 k.version in
    let parted : (m ++ z ++ x ++ y ++ v) ++ rest ≡ m ++ (z ++ (x ++ (y ++ (v ++ rest)))) =
    append_assoc m (z ++ x ++ y ++ v) rest
    ∙ ap (λ (t : List ℕ). m ++ t) (append_assoc z (x ++ y ++ v) rest
    ∙ ap (λ (t : List ℕ). z ++ t) (append_assoc x (y ++ v) rest
    ∙ ap (λ (t : List ℕ). x ++ t) (append_assoc y v rest))) in
    ap (fields_in short) parted
    ∙ fields_steps short (m ++ (z ++ (x ++ (y ++ (v ++ rest))))) (z ++ (x ++ (y ++ (v ++ rest)))) (x ++ (y ++ (v ++ rest))) (y ++ (v ++ rest)) (v ++ rest) rest
    k.key.map k.key.meta.z k.key.meta.x k.key.meta.y k.version
    (field_back short 4 k.key.map (z ++ (x ++ (y ++ (v ++ rest)))) hm) (field_back short 4 k.key.meta.z (x ++ (y ++ (v ++ rest))) hz)
    (field_back short 4 k.key.meta.x (y ++ (v ++ rest)) hx) (field_back short 4 k.key.meta.y (v ++ rest) hy) (field_back short 8 k.version rest hv)

-- an entry comes behind the last of those before
abbrev Follows : Option Kept → List Kept → Type 0
Follows o [] = Unit {0}
Follows o (k ∷ ks) = is_behind o k.key ≡ true

slice_get_end : (xs : List Kept) (k : Kept) → slice_get (xs ++ k ∷ []) (length xs) ≡ Some k
slice_get_end [] k = refl
slice_get_end (x ∷ xs) k = slice_get_end xs k

last_push : (xs : List Kept) (k : Kept) → last_of (xs ++ k ∷ []) ≡ Some k
last_push xs k =
    let end : length (xs ++ k ∷ []) - 1 ≡ length xs = omega (arith, length-append xs (k ∷ [])) in
    ap (λ (i : ℕ). slice_get (xs ++ k ∷ []) i) end ∙ slice_get_end xs k

follows_next : (k : Kept) (ks : List Kept) → are_rising (k ∷ ks) ≡ true → Follows (Some k) ks
follows_next k [] h = tt
follows_next k (y ∷ ys) h =
    let both = and_parts (list_all (λ z. key_before k.key z.key) (y ∷ ys)) (are_rising (y ∷ ys)) h in
    (and_parts (key_before k.key y.key) (list_all (λ z. key_before k.key z.key) ys) both.0).0

meta_passes : (m : Meta) → IsMeta m → is_meta m ≡ true
meta_passes m is =
    let z : leb m.z 18 ≡ true = grind (arith, nat_tests, is.z_fits) in
    let x : ltb m.x (2 ^ m.z) ≡ true = grind (arith, nat_tests, is.x_fits) in
    let y : ltb m.y (2 ^ m.z) ≡ true = grind (arith, nat_tests, is.y_fits) in
    let xe : eqb (m.x % 8) 0 ≡ true = grind (arith, nat_tests, is.x_eights) in
    let ye : eqb (m.y % 8) 0 ≡ true = grind (arith, nat_tests, is.y_eights) in
    rw (z, x, y, xe, ye) refl

kept_passes : (updates : ℕ) (before : List Kept) (k : Kept) → IsKept updates k → is_behind (last_of before) k.key ≡ true → is_kept updates before k ≡ true
unfolding is_kept
kept_passes updates before k is behind =
    let version : leb k.version updates ≡ true = grind (arith, nat_tests, is.versioned) in
    rw (meta_passes k.key.meta is.placed, version, behind) refl

entry_back : (short : SavedFault) (updates : ℕ) (before : List Kept) (bytes behind : List ℕ) (k : Kept) → fields_in short bytes ≡ Ok (k, behind)
    → is_kept updates before k ≡ true → entry_in short updates before bytes ≡ Ok (k, behind)
unfolding entry_in
entry_back short updates before bytes behind k e good = rw (e, good) refl

side_fits : (m : Meta) → IsMeta m → 2 ^ m.z ≤ 2 ^ 18
side_fits m is = pow-le-pow_right {n = 2} (omega arith) is.z_fits

clean_back : (short : SavedFault) (updates : ℕ) (clean before : List Kept) (rest : List ℕ) → updates < 2 ^ 64 → All MapFits clean → All (IsKept updates) clean
    → are_rising clean ≡ true → Follows (last_of before) clean
    → many (entry_in short updates) (length clean) before (flat_map kept_bytes clean ++ rest) ≡ Ok (before ++ clean, rest)
clean_back short updates [] before rest few maps kept rise follows =
    many_none (entry_in short updates) before rest ∙ ap (λ (b : List Kept). Ok (b, rest)) (sym (append-nil before))
clean_back short updates (k ∷ clean) before rest few maps kept rise follows =
    let behind = flat_map kept_bytes clean ++ rest in
    let is = All-head (IsKept updates) k clean kept in
    let side = side_fits k.key.meta is.placed in
    let fields : fields_in short ((kept_bytes k ++ flat_map kept_bytes clean) ++ rest) ≡ Ok (k, behind) =
    ap (fields_in short) (append_assoc (kept_bytes k) (flat_map kept_bytes clean) rest)
    ∙ fields_back short k behind (All-head MapFits k clean maps) (omega (arith, is.placed.z_fits)) (omega (arith, is.placed.x_fits, side)) (omega (arith, is.placed.y_fits, side))
    (omega (arith, is.versioned)) in
    let one : entry_in short updates before ((kept_bytes k ++ flat_map kept_bytes clean) ++ rest) ≡ Ok (k, behind) =
    entry_back short updates before ((kept_bytes k ++ flat_map kept_bytes clean) ++ rest) behind k fields (kept_passes updates before k is follows) in
    let both = and_parts (list_all (λ z. key_before k.key z.key) clean) (are_rising clean) rise in
    many_step (entry_in short updates) (length clean) before ((kept_bytes k ++ flat_map kept_bytes clean) ++ rest)
    ∙ ap (λ (r : Result (Kept × List ℕ) SavedFault). r >>= λ p. many (entry_in short updates) (length clean) (before ++ p.0 ∷ []) p.1) one
    ∙ clean_back short updates clean (before ++ k ∷ []) rest few (All-tail MapFits k clean maps) (All-tail (IsKept updates) k clean kept) both.1
    (subst (λ (o : Option Kept). Follows o clean) (sym (last_push before k)) (follows_next k clean rise))
    ∙ ap (λ (b : List Kept). Ok (b, rest)) (append_assoc before (k ∷ []) clean)

-- ---- the whole text

text_steps : (short : SavedFault) (all : ℕ) (bytes start b0 b1 b2 b3 b4 : List ℕ) (n0 n1 n2 : ℕ) (styles : List (Option ℕ)) (updates : List Past) (clean : List Kept)
    → after_magic short bytes ≡ Ok start → bytes_number short 4 start ≡ Ok (n0, b0) → many (style_number_in short) n0 [] b0 ≡ Ok (styles, b1)
    → bytes_number short 8 b1 ≡ Ok (n1, b2) → many (past_in short) n1 [] b2 ≡ Ok (updates, b3)
    → bytes_number short 8 b3 ≡ Ok (n2, b4) → many (entry_in short (length updates)) n2 [] b4 ≡ Ok (clean, []) → nothing_left all [] ≡ Ok tt
    → saving_in short all bytes ≡ Ok (record { styles = styles; updates = updates; clean = clean })
unfolding saving_in
text_steps short all bytes start b0 b1 b2 b3 b4 n0 n1 n2 styles updates clean e0 e1 e2 e3 e4 e5 e6 e7 = rw (e0, e1, e2, e3, e4, e5, e6, e7) refl

opened_back : (short : SavedFault) (rest : List ℕ) → after_magic short (saved_magic ++ rest) ≡ Ok rest
unfolding after_magic
opened_back short rest =
    let long : leb 4 (length (saved_magic ++ rest)) ≡ true = grind (arith, nat_tests, length-append saved_magic rest) in
    rw long refl

ended_back : (all : ℕ) → nothing_left all [] ≡ Ok tt
unfolding nothing_left
ended_back all = refl

regrouped : (a b c d e f g : List ℕ) → a ++ b ++ c ++ d ++ e ++ f ++ g ≡ a ++ (b ++ (c ++ (d ++ (e ++ (f ++ g)))))
regrouped a b c d e f g = simp append_assoc

first_follows : (clean : List Kept) → Follows (last_of []) clean
first_follows [] = tt
first_follows (k ∷ ks) = refl

whole_back : (short : SavedFault) (all : ℕ) (s : Saving) → IsSaving s → HasNumbers s → saving_in short all (saved_bytes s) ≡ Ok s
unfolding saved_bytes
whole_back short all s sound numbers =
    let cs = flat_map kept_bytes s.clean in
    let b3 = little_bytes 8 (length s.clean) ++ cs in
    let us = flat_map past_bytes s.updates in
    let b1 = little_bytes 8 (length s.updates) ++ (us ++ b3) in
    let ss = flat_map style_bytes s.styles in
    let start = little_bytes 4 (length s.styles) ++ (ss ++ b1) in
    let clean : many (entry_in short (length s.updates)) (length s.clean) [] cs ≡ Ok (s.clean, []) =
    ap (many (entry_in short (length s.updates)) (length s.clean) []) (sym (append-nil cs))
    ∙ clean_back short (length s.updates) s.clean [] [] numbers.few_updates numbers.maps_fit sound.clean_fit.kept sound.clean_fit.rise (first_follows s.clean) in
    let text : saved_bytes s ≡ saved_magic ++ start = regrouped saved_magic (little_bytes 4 (length s.styles)) ss (little_bytes 8 (length s.updates)) us (little_bytes 8 (length s.clean)) cs in
    ap (saving_in short all) text ∙ text_steps short all (saved_magic ++ start) start (ss ++ b1) b1 (us ++ b3) b3 cs (length s.styles) (length s.updates) (length s.clean) s.styles s.updates s.clean
    (opened_back short start) (field_back short 4 (length s.styles) (ss ++ b1) sound.few_styles) (styles_back short s.styles [] b1 sound.styles_fit)
    (field_back short 8 (length s.updates) (us ++ b3) numbers.few_updates) (updates_back short s.updates [] b3 numbers.updates_fit)
    (field_back short 8 (length s.clean) cs numbers.few_clean) clean (ended_back all)

pub reads_back : ReadsBack
unfolding saved_in
reads_back s sound numbers = whole_back (Short (length (saved_bytes s))) (length (saved_bytes s)) s sound numbers
