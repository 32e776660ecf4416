-- What was written is read back.
use Rattle.std.proofs.Common.{◌≡◌, ◌⊎◌, ℕ, zero, suc, ◌+◌, ◌-◌, ◌<◌, ◌≤◌, ◌^◌, List, [], ◌∷◌, ◌++◌, length, take, drop, replicate, true, false, cond, nat_le, refl, sym, ap, ◌∙◌, inl, inr, arith, append_assoc, length-append}
use Rattle.std.proofs.Math.Seq.{drop-append_seam}
use Rattle.std.proofs.lemmas.List.{length-replicate, drop-drop}
use Rattle.std.proofs.lemmas.Bool.Decides.{nat_tests}
use Rattle.std.specs.List.{list_all}
use Rattle.std.proofs.lemmas.Bool.{and_parts}
use Rattle.byteorder.specs.Endian.{little_bytes}
use Rattle.byteorder.specs.Numbers.{little_number-reads_back}
use Rattle.renderd_protocol.specs.declared.messages.Request.{Request}
use Rattle.renderd_protocol.specs.declared.messages.Found.TheVariants.{Message}
use Rattle.renderd_protocol.specs.Messages.{is_version, message_len, number_at, is_text_byte, text_field, text_at, text_from, field_of, request_in, texts_of, wire_of, IsFieldText, IsCarried}
use Rattle.renderd_protocol.specs.Stream.{IsMessage, ReadsBack}
use Rattle.renderd_protocol.proofs.Heads.{found_message, version_cases}

-- the text before a NUL is read whole
text_before : (k : ℕ) (text more : List ℕ) → length text ≤ k → list_all is_text_byte text ≡ true
    → text_field (take k (text ++ 0 ∷ more)) ≡ text
text_before zero [] more l h = refl
text_before (suc k) [] more l h = refl
text_before zero (b ∷ bs) more l h = absurd (omega arith)
text_before (suc k) (b ∷ bs) more l h =
    ap (λ t. cond t (b ∷ text_field (take k (bs ++ 0 ∷ more))) []) (and_parts (is_text_byte b) (list_all is_text_byte bs) h).0
    ∙ ap (λ xs. b ∷ xs) (text_before k bs more (omega arith) (and_parts (is_text_byte b) (list_all is_text_byte bs) h).1)

zeros : (n : ℕ) → 0 < n → replicate {A = ℕ} n 0 ≡ 0 ∷ replicate (n - 1) 0
zeros zero h = absurd (omega arith)
zeros (suc n) h = let e : suc n - 1 ≡ n = omega arith in rw e refl

-- a field as its text, a NUL and the rest
field_parts : (text rest : List ℕ) → length text ≤ 40 → field_of text ++ rest ≡ text ++ 0 ∷ (replicate {A = ℕ} (41 - length text - 1) 0 ++ rest)
field_parts text rest l =
    append_assoc text (replicate {A = ℕ} (41 - length text) 0) rest
    ∙ ap (λ xs. text ++ (xs ++ rest)) (zeros (41 - length text) (omega arith))

pub text_of_field : (text rest : List ℕ) → IsFieldText text → text_field (take 40 (field_of text ++ rest)) ≡ text
text_of_field text rest is =
    ap (λ xs. text_field (take 40 xs)) (field_parts text rest is.short)
    ∙ text_before 40 text (replicate {A = ℕ} (41 - length text - 1) 0 ++ rest) is.short is.no_nul

pub length-field_of : (text : List ℕ) → length text ≤ 40 → length (field_of text) ≡ 41
length-field_of text l = omega (arith, length-append text (replicate {A = ℕ} (41 - length text) 0), length-replicate {A = ℕ} (41 - length text) 0)

pub after_field : (text rest : List ℕ) → length text ≤ 40 → drop 41 (field_of text ++ rest) ≡ rest
after_field text rest l = ap (λ n. drop n (field_of text ++ rest)) (sym (length-field_of text l)) ∙ drop-append_seam (field_of text) rest

-- the texts of the three versions
texts_first : (r : Request) → r.ver ≡ 1 → texts_of r ≡ []
texts_first r h = rw h refl

texts_second : (r : Request) → r.ver ≡ 2 → texts_of r ≡ field_of r.name.items ++ replicate {A = ℕ} 3 0
texts_second r h = rw h refl

texts_third : (r : Request) → r.ver ≡ 3
    → texts_of r ≡ field_of r.name.items ++ (field_of r.mime.items ++ (field_of r.options.items ++ replicate {A = ℕ} 1 0))
texts_third r h =
    texts ∙ append_assoc (field_of r.name.items ++ field_of r.mime.items) (field_of r.options.items) (0 ∷ [])
    ∙ append_assoc (field_of r.name.items) (field_of r.mime.items) (field_of r.options.items ++ 0 ∷ [])
  where
    texts : texts_of r ≡ field_of r.name.items ++ field_of r.mime.items ++ field_of r.options.items ++ 0 ∷ []
    texts = rw h refl

texts_len : (r : Request) → IsCarried r → 20 + length (texts_of r) ≡ message_len r.ver
texts_len r is = elim (version_cases r.ver is.version) [
  | inl h ↦ (let e = ap length (texts_first r h) in let l : message_len r.ver ≡ 20 = ap message_len h in omega (arith, e, l))
  | inr more ↦ elim more [
    | inl h ↦ (let e = ap length (texts_second r h) in let l : message_len r.ver ≡ 64 = ap message_len h in
        let n = length-field_of r.name.items is.name.short in
        let a = length-append (field_of r.name.items) (0 ∷ 0 ∷ 0 ∷ []) in
        omega arith)
    | inr h ↦ (let e = ap length (texts_third r h) in let l : message_len r.ver ≡ 144 = ap message_len h in
        let n = length-field_of r.name.items is.name.short in
        let m = length-field_of r.mime.items is.mime.short in
        let o = length-field_of r.options.items is.options.short in
        let a = length-append (field_of r.name.items) (field_of r.mime.items ++ (field_of r.options.items ++ 0 ∷ [])) in
        let b = length-append (field_of r.mime.items) (field_of r.options.items ++ 0 ∷ []) in
        let c = length-append (field_of r.options.items) (0 ∷ []) in
        omega arith)
  ]
]

small_version : (v : ℕ) → is_version v ≡ true → v < 2 ^ 32
small_version v h = elim (version_cases v h) [ inl e ↦ omega arith | inr more ↦ elim more [ inl e ↦ omega arith | inr e ↦ omega arith ] ]

-- the numbers of what was written
ver_written : (r : Request) (cmd : ℕ) → IsCarried r → number_at 0 (wire_of r cmd) ≡ r.ver
unfolding wire_of
ver_written r cmd is =
    little_number-reads_back 4 r.ver
    (little_bytes 4 cmd ++ little_bytes 4 r.x ++ little_bytes 4 r.y ++ little_bytes 4 r.z ++ texts_of r) (small_version r.ver is.version)

cmd_written : (r : Request) (cmd : ℕ) → cmd < 2 ^ 32 → number_at 4 (wire_of r cmd) ≡ cmd
unfolding wire_of
cmd_written r cmd h =
    little_number-reads_back 4 cmd (little_bytes 4 r.x ++ little_bytes 4 r.y ++ little_bytes 4 r.z ++ texts_of r) h

x_written : (r : Request) (cmd : ℕ) → r.x < 2 ^ 32 → number_at 8 (wire_of r cmd) ≡ r.x
unfolding wire_of
x_written r cmd h = little_number-reads_back 4 r.x (little_bytes 4 r.y ++ little_bytes 4 r.z ++ texts_of r) h

y_written : (r : Request) (cmd : ℕ) → r.y < 2 ^ 32 → number_at 12 (wire_of r cmd) ≡ r.y
unfolding wire_of
y_written r cmd h = little_number-reads_back 4 r.y (little_bytes 4 r.z ++ texts_of r) h

z_written : (r : Request) (cmd : ℕ) → r.z < 2 ^ 32 → number_at 16 (wire_of r cmd) ≡ r.z
unfolding wire_of
z_written r cmd h = little_number-reads_back 4 r.z (texts_of r) h

texts_written : (r : Request) (cmd : ℕ) → drop 20 (wire_of r cmd) ≡ texts_of r
unfolding wire_of
texts_written r cmd = refl

len_written : (r : Request) (cmd : ℕ) → length (wire_of r cmd) ≡ 20 + length (texts_of r)
unfolding wire_of
len_written r cmd = omega arith

-- a text that the version has no place for, and one that stands in its field
left_out : (least place : ℕ) (bytes : List ℕ) (text : List ℕ) → number_at 0 bytes < least → text ≡ [] → text_from least place bytes ≡ text
left_out least place bytes text h e =
    ap (λ t. cond t (text_at place bytes) []) (above least (number_at 0 bytes) h) ∙ sym e
  where
    above : (a b : ℕ) → b < a → nat_le a b ≡ false
    above a b h = grind (arith, nat_tests)

stands : (least place : ℕ) (bytes : List ℕ) (text : List ℕ) → least ≤ number_at 0 bytes → text_at place bytes ≡ text → text_from least place bytes ≡ text
stands least place bytes text h e =
    ap (λ t. cond t (text_at place bytes) []) (within least (number_at 0 bytes) h) ∙ e
  where
    within : (a b : ℕ) → a ≤ b → nat_le a b ≡ true
    within a b h = grind (arith, nat_tests)

-- the field at a place of the bytes, where what stands there is known
text_is : (place : ℕ) (bytes text rest : List ℕ) → IsFieldText text → drop place bytes ≡ field_of text ++ rest → text_at place bytes ≡ text
text_is place bytes text rest is e = ap (λ xs. text_field (take 40 xs)) e ∙ text_of_field text rest is

name_written : (r : Request) (cmd : ℕ) → IsCarried r → text_from 2 20 (wire_of r cmd) ≡ r.name.items
name_written r cmd is =
    let ver = ver_written r cmd is in
    elim (version_cases r.ver is.version) [
      | inl h ↦ left_out 2 20 (wire_of r cmd) r.name.items (omega arith) (is.no_name (omega arith))
      | inr more ↦ elim more [
        | inl h ↦ stands 2 20 (wire_of r cmd) r.name.items (omega arith)
            (text_is 20 (wire_of r cmd) r.name.items (0 ∷ 0 ∷ 0 ∷ []) is.name (texts_written r cmd ∙ texts_second r h))
        | inr h ↦ stands 2 20 (wire_of r cmd) r.name.items (omega arith)
            (text_is 20 (wire_of r cmd) r.name.items (field_of r.mime.items ++ (field_of r.options.items ++ 0 ∷ [])) is.name (texts_written r cmd ∙ texts_third r h))
      ]
    ]

-- what stands behind the name, and behind the kind, in version 3
second_field : (r : Request) (cmd : ℕ) → IsCarried r → r.ver ≡ 3 → drop 61 (wire_of r cmd) ≡ field_of r.mime.items ++ (field_of r.options.items ++ 0 ∷ [])
second_field r cmd is h =
    sym (drop-drop 41 20 (wire_of r cmd)) ∙ ap (drop 41) (texts_written r cmd ∙ texts_third r h)
    ∙ after_field r.name.items (field_of r.mime.items ++ (field_of r.options.items ++ 0 ∷ [])) is.name.short

third_field : (r : Request) (cmd : ℕ) → IsCarried r → r.ver ≡ 3 → drop 102 (wire_of r cmd) ≡ field_of r.options.items ++ 0 ∷ []
third_field r cmd is h =
    sym (drop-drop 41 61 (wire_of r cmd)) ∙ ap (drop 41) (second_field r cmd is h)
    ∙ after_field r.mime.items (field_of r.options.items ++ 0 ∷ []) is.mime.short

-- version 3 or an earlier one
last_or_earlier : (v : ℕ) → is_version v ≡ true → (v ≡ 3) ⊎ (v < 3)
last_or_earlier v h = elim (version_cases v h) [ inl e ↦ inr (omega arith) | inr more ↦ elim more [ inl e ↦ inr (omega arith) | inr e ↦ inl e ] ]

mime_written : (r : Request) (cmd : ℕ) → IsCarried r → text_from 3 61 (wire_of r cmd) ≡ r.mime.items
mime_written r cmd is =
    let ver = ver_written r cmd is in
    elim (last_or_earlier r.ver is.version) [
      | inl h ↦ stands 3 61 (wire_of r cmd) r.mime.items (omega arith)
          (text_is 61 (wire_of r cmd) r.mime.items (field_of r.options.items ++ 0 ∷ []) is.mime (second_field r cmd is h))
      | inr h ↦ left_out 3 61 (wire_of r cmd) r.mime.items (omega arith) (is.no_mime h)
    ]

options_written : (r : Request) (cmd : ℕ) → IsCarried r → text_from 3 102 (wire_of r cmd) ≡ r.options.items
options_written r cmd is =
    let ver = ver_written r cmd is in
    elim (last_or_earlier r.ver is.version) [
      | inl h ↦ stands 3 102 (wire_of r cmd) r.options.items (omega arith)
          (text_is 102 (wire_of r cmd) r.options.items (0 ∷ []) is.options (third_field r cmd is h))
      | inr h ↦ left_out 3 102 (wire_of r cmd) r.options.items (omega arith) (is.no_options h)
    ]

-- a request is its fields
abbrev made : ℕ → ℕ → ℕ → ℕ → ℕ → List ℕ → List ℕ → List ℕ → Request
made v c x y z n m o = record { ver = v; cmd = c; x = x; y = y; z = z; name = record { items = n }; mime = record { items = m }; options = record { items = o } }

by_fields : (r : Request) (v cmd c x y z : ℕ) (n m o : List ℕ) → v ≡ r.ver → c ≡ cmd → x ≡ r.x → y ≡ r.y → z ≡ r.z
    → n ≡ r.name.items → m ≡ r.mime.items → o ≡ r.options.items → made v c x y z n m o ≡ record r { cmd = cmd }
by_fields r v cmd c x y z n m o ev ec ex ey ez en em eo =
    ap (λ t. made t c x y z n m o) ev ∙ ap (λ t. made r.ver t x y z n m o) ec ∙ ap (λ t. made r.ver cmd t y z n m o) ex
    ∙ ap (λ t. made r.ver cmd r.x t z n m o) ey ∙ ap (λ t. made r.ver cmd r.x r.y t n m o) ez
    ∙ ap (λ t. made r.ver cmd r.x r.y r.z t m o) en ∙ ap (λ t. made r.ver cmd r.x r.y r.z r.name.items t o) em
    ∙ ap (λ t. made r.ver cmd r.x r.y r.z r.name.items r.mime.items t) eo

pub request_written : (r : Request) (cmd : ℕ) → IsCarried r → cmd < 2 ^ 32 → request_in (wire_of r cmd) ≡ record r { cmd = cmd }
request_written r cmd is h =
    by_fields r (number_at 0 (wire_of r cmd)) cmd (number_at 4 (wire_of r cmd)) (number_at 8 (wire_of r cmd)) (number_at 12 (wire_of r cmd))
    (number_at 16 (wire_of r cmd)) (text_from 2 20 (wire_of r cmd)) (text_from 3 61 (wire_of r cmd)) (text_from 3 102 (wire_of r cmd))
    (ver_written r cmd is) (cmd_written r cmd h) (x_written r cmd is.x) (y_written r cmd is.y)
    (z_written r cmd is.z) (name_written r cmd is) (mime_written r cmd is) (options_written r cmd is)

-- what was written is a whole message
pub message_written : (r : Request) (cmd : ℕ) → IsCarried r → IsMessage (wire_of r cmd)
message_written r cmd is =
    let ver : number_at 0 (wire_of r cmd) ≡ r.ver = ver_written r cmd is in
    record {
      version = ap is_version ver ∙ is.version;
      whole = len_written r cmd ∙ texts_len r is ∙ sym (ap message_len ver);
    }

pub reads_back : ReadsBack
reads_back r cmd more is h =
    found_message (wire_of r cmd) more (message_written r cmd is)
    ∙ ap (λ q. Message q (length (wire_of r cmd))) (request_written r cmd is h)
    ∙ ap (Message (record r { cmd = cmd })) (len_written r cmd ∙ texts_len r is)
