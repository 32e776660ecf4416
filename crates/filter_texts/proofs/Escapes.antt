-- A text's escapes, character by character.
use Rattle.std.proofs.Common.{◌≡◌, ℕ, suc, ◌<◌, ◌≤◌, Bool, true, false, ◌==◌, ◌||◌, nat_lt, if◌then◌else◌, List, [], ◌∷◌, ◌++◌, length, get_or, ◌⊎◌, inl, inr, refl, sym, ap, ◌∙◌, arith, append_assoc, encode_utf8}
use Rattle.std.proofs.lemmas.Bool.{eqb-true, ltb-true, ltb-false, cases_Bool}
use Rattle.std.proofs.lemmas.List.{append-nil}
use Rattle.std.proofs.lemmas.Str.{inside_one}
use Rattle.filter_texts.specs.Written.{escaped_text}
use Rattle.filter_texts.specs.inner.Pieces.{is_escaped, escaped_char}

-- bytes of which none is escaped
unescaped_run : (us rest : List ℕ) → ((k : ℕ) → k < length us → is_escaped (get_or us k 0) ≡ false) → escaped_text (us ++ rest) ≡ us ++ escaped_text rest
unescaped_run [] rest h = refl
unescaped_run (b ∷ us) rest h =
    ap (λ t. if t then 92 ∷ b ∷ escaped_text (us ++ rest) else b ∷ escaped_text (us ++ rest)) (h 0 (omega arith))
    ∙ ap (λ l. b ∷ l) (unescaped_run us rest (λ k l. h (suc k) (omega (arith, l))))

high_not : (x n : ℕ) → n < 128 → 128 ≤ x → (x == n) ≡ false
high_not x n m h = by (cases_Bool (x == n))
  where
    by : ((x == n) ≡ true) ⊎ ((x == n) ≡ false) → (x == n) ≡ false
    by (inl q) = absurd (omega (arith, eqb-true x n q, m, h))
    by (inr q) = q

high_plain : (x : ℕ) → 128 ≤ x → is_escaped x ≡ false
high_plain x h = ap (λ t. t || x == 92) (high_not x 39 (omega arith) h) ∙ high_not x 92 (omega arith) h

char_plain : (c : ℕ) (rest : List ℕ) → is_escaped c ≡ false → escaped_text (encode_utf8 c ++ rest) ≡ encode_utf8 c ++ escaped_text rest
char_plain c rest e = unescaped_run (encode_utf8 c) rest at
  where
    at : (k : ℕ) → k < length (encode_utf8 c) → is_escaped (get_or (encode_utf8 c) k 0) ≡ false
    at k l = by (cases_Bool (nat_lt (get_or (encode_utf8 c) k 0) 128))
      where
        by : (nat_lt (get_or (encode_utf8 c) k 0) 128 ≡ true) ⊎ (nat_lt (get_or (encode_utf8 c) k 0) 128 ≡ false) → is_escaped (get_or (encode_utf8 c) k 0) ≡ false
        by (inl q) = ap is_escaped (sym (inside_one c [] (encode_utf8 c) k (sym (append-nil (encode_utf8 c))) l (ltb-true (get_or (encode_utf8 c) k 0) 128 q))) ∙ e
        by (inr q) = high_plain (get_or (encode_utf8 c) k 0) (ltb-false (get_or (encode_utf8 c) k 0) 128 q)

char_escaped : (c : ℕ) (rest : List ℕ) → is_escaped c ≡ true → escaped_text (encode_utf8 c ++ rest) ≡ 92 ∷ (encode_utf8 c ++ escaped_text rest)
unfolding lib.Utf8.encode
char_escaped c rest e = by (cases_Bool (c == 39))
  where
    one : (n : ℕ) → c ≡ n → escaped_text (encode_utf8 n ++ rest) ≡ 92 ∷ (encode_utf8 n ++ escaped_text rest) → escaped_text (encode_utf8 c ++ rest) ≡ 92 ∷ (encode_utf8 c ++ escaped_text rest)
    one n q h = ap (λ x. escaped_text (encode_utf8 x ++ rest)) q ∙ h ∙ ap (λ x. 92 ∷ (encode_utf8 x ++ escaped_text rest)) (sym q)

    by : ((c == 39) ≡ true) ⊎ ((c == 39) ≡ false) → escaped_text (encode_utf8 c ++ rest) ≡ 92 ∷ (encode_utf8 c ++ escaped_text rest)
    by (inl q) = one 39 (eqb-true c 39 q) refl
    by (inr q) = one 92 (eqb-true c 92 (sym (ap (λ t. t || c == 92) q) ∙ e)) refl

-- one character's part of the text
pub escapes_step : (c : ℕ) (rest : List ℕ) → escaped_text (encode_utf8 c ++ rest) ≡ escaped_char c ++ escaped_text rest
escapes_step c rest = by (is_escaped c) refl
  where
    by : (t : Bool) → is_escaped c ≡ t → escaped_text (encode_utf8 c ++ rest) ≡ (if t then 92 ∷ encode_utf8 c else encode_utf8 c) ++ escaped_text rest
    by true e = char_escaped c rest e
    by false e = char_plain c rest e

-- and of what was written before it
pub escapes_go : (out rest left text start : List ℕ) (c : ℕ) → out ++ escaped_text rest ≡ start ++ escaped_text text → rest ≡ encode_utf8 c ++ left
    → (out ++ escaped_char c) ++ escaped_text left ≡ start ++ escaped_text text
escapes_go out rest left text start c so_far e =
    append_assoc out (escaped_char c) (escaped_text left) ∙ ap (λ l. out ++ l) (sym (escapes_step c left)) ∙ ap (λ l. out ++ escaped_text l) (sym e) ∙ so_far
