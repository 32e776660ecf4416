-- The text of a field, byte by byte.
use Rattle.std.proofs.Common.{◌≡◌, ◌≢◌, ℕ, suc, ◌+◌, ◌<◌, List, [], ◌∷◌, length, get_or, drop, true, cond, refl, ap, ◌∙◌, add-one, arith}
use Rattle.std.proofs.Math.Seq.{drop-cons}
use Rattle.std.proofs.lemmas.Bool.Decides.{nat_tests}
use Rattle.renderd_protocol.specs.Messages.{is_text_byte, text_field}

pub passes : (b : ℕ) → b ≢ 0 → is_text_byte b ≡ true
passes b h = grind (arith, nat_tests)

-- a byte that is not the NUL belongs to the text
pub text_more : (xs : List ℕ) (i : ℕ) → i < length xs → get_or xs i 0 ≢ 0
    → text_field (drop i xs) ≡ get_or xs i 0 ∷ text_field (drop (i + 1) xs)
text_more xs i h b =
    ap text_field (drop-cons xs i 0 h)
    ∙ ap (λ t. cond t (get_or xs i 0 ∷ text_field (drop (suc i) xs)) []) (passes (get_or xs i 0) b)
    ∙ rw add-one refl

-- the NUL ends the text
pub text_ends : (xs : List ℕ) (i : ℕ) → i < length xs → get_or xs i 0 ≡ 0 → text_field (drop i xs) ≡ []
text_ends xs i h b =
    ap text_field (drop-cons xs i 0 h)
    ∙ ap (λ t. cond (is_text_byte t) (t ∷ text_field (drop (suc i) xs)) []) b
