-- Numbers and names between slashes.
use Rattle.std.proofs.Common.{◌≡◌, ◌≢◌, ℕ, ◌<◌, ◌≤◌, List, ◌∷◌, ◌++◌, length, get_or, true, Option, Some, None, sym, ap, ◌∙◌, arith}
use Rattle.std.specs.Prelude.{MatchOption, IsSomeAnd, ◌&&◌, nat_le}
use Rattle.std.specs.List.{list_all}
use Rattle.std.proofs.lemmas.Bool.{and_parts}
use Rattle.std.specs.Borrow.{Bor}
use Rattle.std.specs.Fmt.{decimal}
use Rattle.std.proofs.lemmas.Fmt.{length-decimal-le, decimal_is_IsNumeral}
use Rattle.std.proofs.lemmas.Str.Parse.{digit_at}
use Rattle.std.proofs.lemmas.Str.Pattern.{IsSplitOnceResult, split_after}
use Rattle.std.proofs.lemmas.List.Sums.{AllPass-from_list_all}
use Rattle.tile_paths.specs.Paths.{is_name_byte, IsName}

pub decimal_short : (n : ℕ) → n < 256 → length (decimal n) ≤ 3
decimal_short n h = length-decimal-le 3 n (omega arith) (omega arith) (omega arith)

-- no digit is a byte below `0`
pub digits_only : (n e i : ℕ) → n < 256 → e < 48 → i < length (decimal n) → get_or (decimal n) i 0 ≢ e
digits_only n e i h low l eq =
    let d = digit_at (decimal n) i (decimal_is_IsNumeral n (omega arith)).0.1 l in omega arith

-- no byte of a name is a slash
pub no_slash : (name : List ℕ) (i : ℕ) → IsName name → i < length name → get_or name i 0 ≢ 47
no_slash name i is l eq =
    let p = AllPass-from_list_all is_name_byte name (and_parts (nat_le 1 (length name) && nat_le (length name) 40) (list_all is_name_byte name) is).1 i 0 l in
    let q : is_name_byte 47 ≡ true = ap is_name_byte (sym eq) ∙ p in
    cc

-- the text before the first byte e, and the text behind it
pub number_apart : (e n : ℕ) (bs rest : List ℕ) (r : Option (Bor (List ℕ) × Bor (List ℕ))) → IsSplitOnceResult e bs r
    → e < 48 → n < 256 → bs ≡ decimal n ++ e ∷ rest → MatchOption r ⊥ (λ x. (x.0.now ≡ decimal n) × (x.1.now ≡ rest))
number_apart e n bs rest r split low h is =
    split_after e bs (decimal n) rest r split (omega arith) is (λ i l. digits_only n e i h low l)

pub name_apart : (name bs rest : List ℕ) (r : Option (Bor (List ℕ) × Bor (List ℕ))) → IsSplitOnceResult 47 bs r
    → IsName name → bs ≡ name ++ 47 ∷ rest → MatchOption r ⊥ (λ x. (x.0.now ≡ name) × (x.1.now ≡ rest))
name_apart name bs rest r split is e =
    split_after 47 bs name rest r split (omega arith) e (λ i l. no_slash name i is l)

pub some_and : {X : Type 0} (r : Option X) (P : X → Type 0) → MatchOption r ⊥ P → IsSomeAnd r P
some_and None P h = h
some_and (Some x) P h = h
