-- Numbers and the texts that are them in decimal.
use Rattle.std.proofs.Common.{◌≡◌, ℕ, ◌+◌, ◌*◌, ◌-◌, ◌<◌, ◌≤◌, ◌^◌, List, [], ◌∷◌, Bool, true, false, ◌&&◌, ltb, cond, Option, Some, None, refl, sym, ap, ◌∙◌, arith}
use Rattle.std.specs.Fmt.{decimal}
use Rattle.std.specs.Str.{bytes_eq}
use Rattle.std.specs.Str.Parse.{digits_value}
use Rattle.std.proofs.lemmas.Fmt.{decimal_is_IsNumeral}
use Rattle.std.proofs.lemmas.Slice.Eq.{bytes_eq-Decides}
use Rattle.std.proofs.lemmas.Bool.Decides.{nat_tests}
use Rattle.farm_base.specs.Digits.{number_after}
use Rattle.farm_base.specs.Numbers.{decimal_below}
use Rattle.farm_base.specs.Laws.{IsReadAsNumber}

both : (a b : Bool) (v : ℕ) → a ≡ true → b ≡ true → cond (a && b) (Some v) None ≡ Some v
both true true v p q = refl
both true false v p q = cc
both false b v p q = cc

-- the text of a number below the bound is read as that number
pub number_known : (bound n : ℕ) (text : List ℕ) → n < bound → n < 2 ^ 64 → text ≡ decimal n → decimal_below bound text ≡ Some n
unfolding decimal_below
number_known bound n text low small e =
    let v : digits_value 10 text ≡ n = ap (digits_value 10) e ∙ (decimal_is_IsNumeral n small).1 in
    let same : bytes_eq text (decimal n) ≡ true = (bytes_eq-Decides text (decimal n)).1 e in
    let below : ltb n bound ≡ true = grind (arith, nat_tests) in
    rw v (both (bytes_eq text (decimal n)) (ltb n bound) n same below)

parts : (a b : Bool) (v n : ℕ) → cond (a && b) (Some v) None ≡ Some n → (a ≡ true) × (b ≡ true) × (v ≡ n)
parts true true v n e = (refl, refl, (cc))
parts true false v n e = cc
parts false b v n e = cc

-- what is read is a number below the bound, and the text is it in decimal
pub number_means : (bound n : ℕ) (text : List ℕ) → decimal_below bound text ≡ Some n → (text ≡ decimal n) × (n < bound)
unfolding decimal_below
number_means bound n text e =
    let p = parts (bytes_eq text (decimal (digits_value 10 text))) (ltb (digits_value 10 text) bound) (digits_value 10 text) n e in
    let same : text ≡ decimal (digits_value 10 text) = (bytes_eq-Decides text (decimal (digits_value 10 text))).0 p.0 in
    let below : ltb (digits_value 10 text) bound ≡ true = p.1 in
    let v : digits_value 10 text ≡ n = p.2 in
    (same ∙ ap decimal v, grind (arith, nat_tests))

none_of : (o : Option ℕ) → ((n : ℕ) → o ≡ Some n → ⊥) → o ≡ None
none_of None h = refl
none_of (Some n) h = absurd (h n refl)

-- a text that is no number below the bound is read as none
pub number_none : (bound : ℕ) (text : List ℕ) → ((n : ℕ) → n < bound → text ≡ decimal n → ⊥) → decimal_below bound text ≡ None
number_none bound text h = none_of (decimal_below bound text) (λ n e. let m = number_means bound n text e in h n m.1 m.0)

-- from numbers below one bound to those below a lesser one
pub lesser_known : (more less : ℕ) (text : List ℕ) (n : ℕ) → more ≤ 2 ^ 64 → less ≤ more → n < less → Some n ≡ decimal_below more text
    → Some n ≡ decimal_below less text
lesser_known more less text n fits le low e =
    let m = number_means more n text (sym e) in sym (number_known less n text low (omega (arith, m.1)) m.0)

pub lesser_none : (more less : ℕ) (text : List ℕ) → more ≤ 2 ^ 64 → less ≤ more
    → ((n : ℕ) → n < less → decimal_below more text ≡ Some n → ⊥) → None ≡ decimal_below less text
lesser_none more less text fits le h =
    sym (number_none less text (λ n low e. h n low (number_known more n text (omega arith) (omega arith) e)))

pub read_as_number : IsReadAsNumber
read_as_number bound n text fits =
    (λ e. number_means bound n text e, λ p. let below = p.1 in number_known bound n text below (omega arith) p.0)

-- digits make a number no smaller
pub number_grows : (n : ℕ) (ds : List ℕ) → n ≤ number_after n ds
number_grows n [] = omega arith
number_grows n (d ∷ ds) = omega (arith, number_grows (10 * n + (d - 48)) ds)
