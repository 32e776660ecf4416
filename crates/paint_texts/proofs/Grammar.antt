-- The function that reads a decimal number meets the grammar, both ways.
use Rattle.std.specs.Prelude.{◌≡◌, ◌≤◌, ◌↔◌, ◌==◌, ℕ, true, ◌&&◌, List, [], ◌∷◌, ◌++◌, length, drop, take, nat_le, Option, Some, None, refl}
use Rattle.std.specs.List.{list_all, prefix_len}
use Rattle.std.proofs.Common.{◌∙◌, ap, sym, inl, inr, arith}
use Rattle.std.proofs.lemmas.List.{take-append-drop, append-nil}
use Rattle.std.proofs.lemmas.Bool.{le-leb}
use Rattle.std.proofs.lemmas.Bool.Decides.{nat_tests}
use Rattle.std.proofs.lemmas.Option.{cond_some, none-some}
use Rattle.std.proofs.Math.Seq.{take-append_seam, drop-append_seam}
use Rattle.farm_base.specs.Digits.{is_digit}
use Rattle.paint_texts.specs.Decimals.{fixed_point, IsDecimal, fixed_point_in, decimal_of, hundredths_of, at_most_one, thousandths_of}
use Rattle.paint_texts.proofs.Runs.{front_passes, front_spelled}

-- what is read is in the grammar, told from the whole part and what stands behind it
ends_is : (places : ℕ) (whole rest text : List ℕ) (n : ℕ) → text ≡ whole ++ rest → list_all is_digit whole ≡ true
    → fixed_point_in places whole rest ≡ Some n → IsDecimal places text n
ends_is places whole [] text n t d e =
    let k = cond_some (nat_le 1 (length whole) && nat_le (length whole) 12) (fixed_point places whole []) n e in
    record {
      whole = whole;
      fraction = [];
      whole_digits = d;
      fraction_digits = refl;
      whole_fits = grind (arith, nat_tests);
      fraction_fits = omega arith;
      spelled = inl (t ∙ append-nil whole, grind (arith, nat_tests), refl);
      value = sym k.1;
    }
ends_is places whole (c ∷ fraction) text n t d e =
    let k = cond_some ((c == 46) && nat_le (length whole) 12 && list_all is_digit fraction && nat_le 1 (length fraction) && nat_le (length fraction) places) (fixed_point places whole fraction) n e in
    let point : c ≡ 46 = grind (arith, nat_tests) in
    record {
      whole = whole;
      fraction = fraction;
      whole_digits = d;
      fraction_digits = grind (arith, nat_tests);
      whole_fits = grind (arith, nat_tests);
      fraction_fits = grind (arith, nat_tests);
      spelled = inr (t ∙ ap (λ x. whole ++ x ∷ fraction) point, grind (arith, nat_tests));
      value = sym k.1;
    }

decimal_is : (places : ℕ) (text : List ℕ) (n : ℕ) → decimal_of places text ≡ Some n → IsDecimal places text n
unfolding decimal_of
decimal_is places text n e =
    ends_is places (take (prefix_len is_digit text) text) (drop (prefix_len is_digit text) text) text n (sym (take-append-drop (prefix_len is_digit text) text)) (front_passes is_digit text) e

-- what is in the grammar is read, told from how it is spelled
spelled_is : (places : ℕ) (whole rest text : List ℕ) → text ≡ whole ++ rest → list_all is_digit whole ≡ true → prefix_len is_digit rest ≡ 0
    → decimal_of places text ≡ fixed_point_in places whole rest
unfolding decimal_of
spelled_is places whole rest text t d z =
    let k : prefix_len is_digit (whole ++ rest) ≡ length whole = front_spelled is_digit whole rest d z in
    rw (t, k, take-append_seam whole rest, drop-append_seam whole rest) refl

is_decimal : (places : ℕ) (text : List ℕ) (n : ℕ) → IsDecimal places text n → decimal_of places text ≡ Some n
is_decimal places text n d =
    elim d.spelled [
      | inl s ↦ spelled_is places d.whole [] text (s.0 ∙ sym (append-nil d.whole)) d.whole_digits refl
          ∙ rw (le-leb 1 (length d.whole) s.1, le-leb (length d.whole) 12 d.whole_fits) (ap Some (sym (d.value ∙ ap (fixed_point places d.whole) s.2)))
      | inr s ↦ spelled_is places d.whole (46 ∷ d.fraction) text s.0 d.whole_digits refl
          ∙ rw (le-leb (length d.whole) 12 d.whole_fits, d.fraction_digits, le-leb 1 (length d.fraction) s.1, le-leb (length d.fraction) places d.fraction_fits) (ap Some (sym d.value))
    ]

pub hundredths_exact : (text : List ℕ) (n : ℕ) → (hundredths_of text ≡ Some n) ↔ IsDecimal 2 text n
hundredths_exact text n = (decimal_is 2 text n, is_decimal 2 text n)

at_most_is : (o : Option ℕ) (n : ℕ) → at_most_one o ≡ Some n → (o ≡ Some n) × (n ≤ 1000)
at_most_is None n e = absurd (none-some n e)
at_most_is (Some m) n e = let k = cond_some (nat_le m 1000) m n e in (ap Some k.1, grind (arith, nat_tests))

pub thousandths_exact : (text : List ℕ) (n : ℕ) → (thousandths_of text ≡ Some n) ↔ (IsDecimal 3 text n × (n ≤ 1000))
thousandths_exact text n =
    (λ e. let k = at_most_is (decimal_of 3 text) n e in (decimal_is 3 text n k.0, k.1), λ d. ap at_most_one (is_decimal 3 text n d.0) ∙ rw (le-leb n 1000 d.1) refl)
