-- The token at a place of a text, by the first byte there.
use Rattle.std.proofs.Common.{◌≡◌, ◌≢◌, ℕ, zero, suc, ◌+◌, ◌<◌, ◌==◌, Bool, true, false, if◌then◌else◌, List, [], ◌∷◌, length, get_or, take, drop, ◌-◌, refl, sym, ◌∙◌, ap, arith}
use Rattle.std.proofs.lemmas.List.{drop_more, take_all, length-drop}
use Rattle.std.proofs.lemmas.Bool.{ne_eqb}
use Rattle.farm_base.specs.Digits.{is_digit}
use Rattle.filter_expr.specs.Spelling.{is_letter, is_quote}
use Rattle.filter_expr.specs.Lexing.{Taken, number_token_at, word_at, name_token_at, quoted_at, sign_at, first_byte, token_at}

-- the token by four tests of the first byte, each of which is asked where those before failed
abbrev by_tests : Bool → Bool → Bool → Bool → ℕ → List ℕ → Taken
by_tests digit letter bracket quote b bs =
    if digit then number_token_at (b ∷ bs)
    else (if letter then word_at (b ∷ bs) else (if bracket then name_token_at bs else (if quote then quoted_at b bs else sign_at b (first_byte bs))))

first_of : (bs : List ℕ) (n : ℕ) → first_byte (drop n bs) ≡ get_or bs n 0
first_of [] zero = refl
first_of [] (suc n) = refl
first_of (b ∷ bs) zero = refl
first_of (b ∷ bs) (suc n) = first_of bs n

module _ (bs : List ℕ) (at : ℕ) (h : at < length bs) where
  here : drop at bs ≡ get_or bs at 0 ∷ drop (at + 1) bs
  here = drop_more bs at 0 h

  tested : token_at (drop at bs) ≡ by_tests (is_digit (get_or bs at 0)) (is_letter (get_or bs at 0)) (get_or bs at 0 == 91) (is_quote (get_or bs at 0)) (get_or bs at 0) (drop (at + 1) bs)
  unfolding token_at
  tested = ap token_at here

  -- the bytes up to the last one are all that are left
  all_left : take (length bs - at) (drop at bs) ≡ get_or bs at 0 ∷ drop (at + 1) bs
  all_left = take_all (length bs - at) (drop at bs) (omega (arith, length-drop at bs)) ∙ here

  pub digit_first : is_digit (get_or bs at 0) ≡ true → number_token_at (take (length bs - at) (drop at bs)) ≡ token_at (drop at bs)
  digit_first d = ap number_token_at all_left ∙ sym (tested ∙ rw d refl)

  pub letter_first : is_digit (get_or bs at 0) ≡ false → is_letter (get_or bs at 0) ≡ true
      → word_at (take (length bs - at) (drop at bs)) ≡ token_at (drop at bs)
  letter_first d l = ap word_at all_left ∙ sym (tested ∙ rw (d, l) refl)

  pub bracket_first : is_digit (get_or bs at 0) ≡ false → is_letter (get_or bs at 0) ≡ false → get_or bs at 0 ≡ 91
      → name_token_at (drop (at + 1) bs) ≡ token_at (drop at bs)
  bracket_first d l b = sym (tested ∙ rw (d, l, ap (λ k. k == 91) b) refl)

  pub quote_first : is_digit (get_or bs at 0) ≡ false → is_letter (get_or bs at 0) ≡ false → get_or bs at 0 ≢ 91 → is_quote (get_or bs at 0) ≡ true
      → quoted_at (get_or bs at 0) (drop (at + 1) bs) ≡ token_at (drop at bs)
  quote_first d l b q = sym (tested ∙ rw (d, l, ne_eqb (get_or bs at 0) 91 b, q) refl)

  pub sign_first : is_digit (get_or bs at 0) ≡ false → is_letter (get_or bs at 0) ≡ false → get_or bs at 0 ≢ 91 → is_quote (get_or bs at 0) ≡ false
      → sign_at (get_or bs at 0) (get_or bs (at + 1) 0) ≡ token_at (drop at bs)
  sign_first d l b q = ap (sign_at (get_or bs at 0)) (sym (first_of bs (at + 1))) ∙ sym (tested ∙ rw (d, l, ne_eqb (get_or bs at 0) 91 b, q) refl)
