-- The lexer's list is the one list of tokens that a text is.
use Rattle.std.proofs.Common.{◌≡◌, ◌≢◌, ℕ, zero, suc, ◌+◌, ◌-◌, ◌≤◌, ◌==◌, Bool, true, false, ◌||◌, ◌&&◌, nat_le, if◌then◌else◌, List, [], ◌∷◌, ◌++◌, drop, take, length, ◌⊎◌, inl, inr, refl, sym, ap, ◌∙◌, subst, arith, add-zero}
use Rattle.std.specs.List.{list_all}
use Rattle.std.proofs.lemmas.Bool.{leb-true, cases_Bool, and_parts}
use Rattle.plain_filters.specs.declared.CompareSign.TheVariants as «compare»
use Rattle.std.proofs.lemmas.List.{take-append-drop, length-take, length-drop}
use Rattle.filter_expr.specs.declared.tokens.Token.{Token}
use Rattle.filter_expr.specs.declared.tokens.Token.TheVariants as token
use Rattle.filter_expr.specs.declared.tokens.PlacedToken.{PlacedToken}
use Rattle.filter_expr.specs.Signs.{is_unknown}
use Rattle.farm_base.specs.Digits.{is_digit}
use Rattle.filter_expr.specs.Spelling.{is_blank, IsDigits, begins_with, SpellsToken, StandsFirst, AreTokens, TokensOf}
use Rattle.filter_expr.specs.Lexing.{Taken, token_at, tokens_from}
use Rattle.filter_expr.proofs.Chains.{wrong}
use Rattle.filter_expr.proofs.Spelled.{quotes, token_complete, not_equal}
use Rattle.filter_expr.proofs.Lexemes.{token_good}
use Rattle.filter_expr.proofs.Lexes.{lexed_skips, from_token, placed_then, unknown_is}
use Rattle.filter_expr.specs.Filters.{tokens}
use Rattle.filter_expr.proofs.Forms.{is_stop}

-- ---- one step of the lexer, at any place

lexed_gap : (at : ℕ) (b : ℕ) (bs : List ℕ) → is_blank b ≡ true → tokens_from at 0 (b ∷ bs) ≡ tokens_from (suc at) 0 bs
unfolding tokens_from
lexed_gap at b bs e = ap (λ t. if t then tokens_from (suc at) 0 bs else from_token at b bs) e

lexed_solid : (at : ℕ) (b : ℕ) (bs : List ℕ) → is_blank b ≡ false → tokens_from at 0 (b ∷ bs) ≡ from_token at b bs
unfolding tokens_from
lexed_solid at b bs e = ap (λ t. if t then tokens_from (suc at) 0 bs else from_token at b bs) e

from_unknown : (at : ℕ) (b : ℕ) (bs : List ℕ) → is_unknown (token_at (b ∷ bs)).0 ≡ true → from_token at b bs ≡ placed_then token.Unknown at []
from_unknown at b bs e = ap (λ t. if t then placed_then token.Unknown at [] else placed_then (token_at (b ∷ bs)).0 at (tokens_from (suc at) ((token_at (b ∷ bs)).1 - 1) bs)) e

from_known : (at : ℕ) (b : ℕ) (bs : List ℕ) → is_unknown (token_at (b ∷ bs)).0 ≡ false →
    from_token at b bs ≡ placed_then (token_at (b ∷ bs)).0 at (tokens_from (at + (token_at (b ∷ bs)).1) 0 (drop (token_at (b ∷ bs)).1 (b ∷ bs)))
from_known at b bs e =
    ap (λ t. if t then placed_then token.Unknown at [] else placed_then (token_at (b ∷ bs)).0 at (tokens_from (suc at) ((token_at (b ∷ bs)).1 - 1) bs)) e
    ∙ ap (placed_then (token_at (b ∷ bs)).0 at) (skipped (token_at (b ∷ bs)).1 (token_good b bs).least (token_good b bs).most)
  where
    skipped : (n : ℕ) → 1 ≤ n → n ≤ length (b ∷ bs) → tokens_from (suc at) (n - 1) bs ≡ tokens_from (at + n) 0 (drop n (b ∷ bs))
    skipped zero l m = absurd (omega (arith, l))
    skipped (suc n) l m =
        let less : n ≤ length bs = omega (arith, m) in
        let same : suc n - 1 ≡ n = omega arith in
        ap (λ k. tokens_from (suc at) k bs) same ∙ lexed_skips n (suc at) bs less ∙ ap (λ k. tokens_from k 0 (drop n bs)) (omega arith)

-- ---- the lexer's list is one of tokens

-- what is said of the first token, at its place
abbrev pub Rest : ℕ → List ℕ → List ℕ → PlacedToken → List PlacedToken → Type 0
Rest at us more s others =
    (StandsFirst s.token us more × AreTokens (at + length us) more others)
    ⊎ ((others ≡ []) × (us ≡ [])
    × (((s.token ≡ token.End) × (more ≡ []))
    ⊎ ((s.token ≡ token.Unknown) × (more ≢ []) × (begins_with is_blank more ≡ false)
    × ((t : Token) → (vs : List ℕ) → (ws : List ℕ) → more ≡ vs ++ ws → StandsFirst t vs ws → ⊥))))

add_blank : (at : ℕ) (b : ℕ) (bs : List ℕ) (ts : List PlacedToken) → is_blank b ≡ true → AreTokens (suc at) bs ts → AreTokens at (b ∷ bs) ts
add_blank at b bs [] e h = h
add_blank at b bs (s ∷ ts) e h =
    let place : suc at + length h.0 ≡ at + length (b ∷ h.0) = omega arith in
    (b ∷ h.0, h.1, h.2, ap (λ l. b ∷ l) h.3, ap (λ t. t && list_all is_blank h.0) e ∙ h.4, h.5 ∙ place, subst (λ k. Rest k h.1 h.2 s ts) place h.6)

-- a first token without blanks before it
at_once : (at : ℕ) (bs us more : List ℕ) (t : Token) (others : List PlacedToken) → bs ≡ us ++ more → Rest at us more (record { token = t; offset = at }) others →
    AreTokens at bs (placed_then t at others)
at_once at bs us more t others e r = ([], us, more, e, refl, sym (add-zero at), subst (λ k. Rest k us more (record { token = t; offset = at }) others) (sym (add-zero at)) r)

some_bytes : (b : ℕ) (bs : List ℕ) → (b ∷ bs) ≢ []
some_bytes b bs e = wrong (sym (ap (begins_with (λ _. true)) e))

-- where the lexer finds no token there is none
none_there : (b : ℕ) (bs : List ℕ) → is_unknown (token_at (b ∷ bs)).0 ≡ true → (t : Token) (vs ws : List ℕ) → (b ∷ bs) ≡ vs ++ ws → StandsFirst t vs ws → ⊥
none_there b bs u t vs ws e s =
    let found : ◌≡◌ {A = Taken} (token_at (vs ++ ws)) (t, length vs) = (token_complete t vs ws s.0 s.1).at in
    let unknown : is_unknown t ≡ true = sym (ap (λ (r : Taken). is_unknown r.0) (ap token_at e ∙ found)) ∙ u in
    subst (λ x. SpellsToken x vs) (unknown_is t unknown) s.0

end_lexed : (at : ℕ) → tokens_from at 0 [] ≡ placed_then token.End at []
unfolding tokens_from
end_lexed at = refl

tokens_of : (m at : ℕ) (bs : List ℕ) → length bs ≤ m → AreTokens at bs (tokens_from at 0 bs)
tokens_of m at [] h = subst (AreTokens at []) (sym (end_lexed at)) (at_once at [] [] [] token.End [] refl (inr (refl, refl, inl (refl, refl))))
tokens_of zero at (b ∷ bs) h = absurd (omega (arith, h))
tokens_of (suc m) at (b ∷ bs) h = by (cases_Bool (is_blank b)) (λ k l g. tokens_of m k l g)
  where
    known : ((k : ℕ) (l : List ℕ) → length l ≤ m → AreTokens k l (tokens_from k 0 l)) → is_unknown (token_at (b ∷ bs)).0 ≡ false →
        AreTokens at (b ∷ bs) (placed_then (token_at (b ∷ bs)).0 at (tokens_from (at + (token_at (b ∷ bs)).1) 0 (drop (token_at (b ∷ bs)).1 (b ∷ bs))))
    known ih u =
        let n : ℕ = (token_at (b ∷ bs)).1 in
        let len : length (take n (b ∷ bs)) ≡ n = length-take n (b ∷ bs) ∙ omega (arith, (token_good b bs).most) in
        at_once at (b ∷ bs) (take n (b ∷ bs)) (drop n (b ∷ bs)) (token_at (b ∷ bs)).0 (tokens_from (at + n) 0 (drop n (b ∷ bs))) (sym (take-append-drop n (b ∷ bs)))
        (inl (
          (token_good b bs).good u,
          subst (λ k. AreTokens (at + k) (drop n (b ∷ bs)) (tokens_from (at + n) 0 (drop n (b ∷ bs)))) (sym len)
              (ih (at + n) (drop n (b ∷ bs)) (omega (arith, h, length-drop n (b ∷ bs), (token_good b bs).least))),
        ))

    solid : ((k : ℕ) (l : List ℕ) → length l ≤ m → AreTokens k l (tokens_from k 0 l)) → is_blank b ≡ false → (is_unknown (token_at (b ∷ bs)).0 ≡ true) ⊎ (is_unknown (token_at (b ∷ bs)).0 ≡ false) →
        AreTokens at (b ∷ bs) (tokens_from at 0 (b ∷ bs))
    solid ih e (inl u) =
        subst (AreTokens at (b ∷ bs)) (sym (lexed_solid at b bs e ∙ from_unknown at b bs u))
        (at_once at (b ∷ bs) [] (b ∷ bs) token.Unknown [] refl (inr (refl, refl, inr (refl, some_bytes b bs, e, none_there b bs u))))
    solid ih e (inr u) = subst (AreTokens at (b ∷ bs)) (sym (lexed_solid at b bs e ∙ from_known at b bs u)) (known ih u)

    by : (is_blank b ≡ true) ⊎ (is_blank b ≡ false) → ((k : ℕ) (l : List ℕ) → length l ≤ m → AreTokens k l (tokens_from k 0 l)) → AreTokens at (b ∷ bs) (tokens_from at 0 (b ∷ bs))
    by (inl e) ih = subst (AreTokens at (b ∷ bs)) (sym (lexed_gap at b bs e)) (add_blank at b bs (tokens_from (suc at) 0 bs) e (ih (suc at) bs (omega (arith, h))))
    by (inr e) ih = solid ih e (cases_Bool (is_unknown (token_at (b ∷ bs)).0))

pub lexed_tokens : (text : List ℕ) → TokensOf text (tokens_from 0 0 text)
lexed_tokens text = tokens_of (length text) 0 text (omega arith)

-- ---- and there is no other

none_of_four : (a b c d : Bool) → a ≡ false → b ≡ false → c ≡ false → d ≡ false → (a || b || c || d) ≡ false
none_of_four a b c d ea eb ec ed = ap (λ x. x || b || c || d) ea ∙ ap (λ x. x || c || d) eb ∙ ap (λ x. x || d) ec ∙ ed

digit_solid : (b : ℕ) → is_digit b ≡ true → is_blank b ≡ false
digit_solid b h =
    let low : 48 ≤ b = leb-true 48 b (and_parts (nat_le 48 b) (nat_le b 57) h).0 in
    none_of_four (b == 32) (b == 9) (b == 10) (b == 13)
    (not_equal b 32 (λ e. absurd (omega (arith, e, low)))) (not_equal b 9 (λ e. absurd (omega (arith, e, low))))
    (not_equal b 10 (λ e. absurd (omega (arith, e, low)))) (not_equal b 13 (λ e. absurd (omega (arith, e, low))))

-- the bytes begin, and not with a blank
abbrev pub Solid : List ℕ → Type 0
Solid us = (us ≢ []) × (begins_with is_blank us ≡ false)

digits_solid : (us : List ℕ) → IsDigits us → Solid us
digits_solid [] d = absurd (d.0 refl)
digits_solid (b ∷ us) d = (d.0, digit_solid b (and_parts (is_digit b) (list_all is_digit us) d.1).0)

solid_is : (b : ℕ) (w us : List ℕ) → us ≡ b ∷ w → is_blank b ≡ false → Solid us
solid_is b w us e h = subst Solid (sym e) (some_bytes b w, h)

either_solid : (b c : ℕ) (v w us : List ℕ) → (us ≡ b ∷ v) ⊎ (us ≡ c ∷ w) → is_blank b ≡ false → is_blank c ≡ false → Solid us
either_solid b c v w us (inl e) h g = solid_is b v us e h
either_solid b c v w us (inr e) h g = solid_is c w us e g

-- a spelling has a first byte, and it is no blank
pub first_solid : (t : Token) (us : List ℕ) → SpellsToken t us → Solid us
first_solid (token.Name n) us s = solid_is 91 (n ++ 93 ∷ []) us s.0 refl
first_solid (token.Quoted t) us s = solid_is s.0 (s.1 ++ s.0 ∷ []) us s.2 (quotes (λ q. is_blank q ≡ false) refl refl s.0 s.3)
first_solid (token.Number z) us s = digits_solid us s.0
first_solid token.OutOfRange us s = digits_solid us s.0
first_solid token.True us s = solid_is 116 _ us s refl
first_solid token.False us s = solid_is 102 _ us s refl
first_solid token.Null us s = solid_is 110 _ us s refl
first_solid token.And us s = either_solid 97 38 _ _ us s refl refl
first_solid token.Or us s = either_solid 111 124 _ _ us s refl refl
first_solid token.Not us s = either_solid 110 33 _ _ us s refl refl
first_solid (token.Compare compare.Equal) us s = solid_is 61 _ us s refl
first_solid (token.Compare compare.Unequal) us s = either_solid 33 60 _ _ us s refl refl
first_solid (token.Compare compare.Less) us s = solid_is 60 _ us s refl
first_solid (token.Compare compare.LessEqual) us s = solid_is 60 _ us s refl
first_solid (token.Compare compare.Greater) us s = solid_is 62 _ us s refl
first_solid (token.Compare compare.GreaterEqual) us s = solid_is 62 _ us s refl
first_solid token.Plus us s = solid_is 43 _ us s refl
first_solid token.Minus us s = solid_is 45 _ us s refl
first_solid token.Times us s = solid_is 42 _ us s refl
first_solid token.Divide us s = solid_is 47 _ us s refl
first_solid token.Rest us s = solid_is 37 _ us s refl
first_solid token.Open us s = solid_is 40 _ us s refl
first_solid token.Close us s = solid_is 41 _ us s refl
first_solid token.End us s = absurd s
first_solid token.Unknown us s = absurd s

gap_passed : (at : ℕ) (gap bs : List ℕ) → list_all is_blank gap ≡ true → tokens_from at 0 (gap ++ bs) ≡ tokens_from (at + length gap) 0 bs
gap_passed at [] bs h = ap (λ k. tokens_from k 0 bs) (sym (add-zero at))
gap_passed at (b ∷ gap) bs h =
    lexed_gap at b (gap ++ bs) (and_parts (is_blank b) (list_all is_blank gap) h).0 ∙ gap_passed (suc at) gap bs (and_parts (is_blank b) (list_all is_blank gap) h).1
    ∙ ap (λ k. tokens_from k 0 bs) (omega arith)

drop_front : (us more : List ℕ) → drop (length us) (us ++ more) ≡ more
drop_front [] more = refl
drop_front (b ∷ us) more = drop_front us more

known_token : (t : Token) (us : List ℕ) → SpellsToken t us → is_unknown t ≡ false
known_token token.Unknown us s = absurd s
known_token _ us s = refl

-- a token that stands first is the lexer's
first_lexed : (at : ℕ) (t : Token) (us more : List ℕ) → StandsFirst t us more → tokens_from at 0 (us ++ more) ≡ placed_then t at (tokens_from (at + length us) 0 more)
first_lexed at t [] more s = absurd ((first_solid t [] s.0).0 refl)
first_lexed at t (b ∷ us) more s =
    let found : ◌≡◌ {A = Taken} (token_at ((b ∷ us) ++ more)) (t, length (b ∷ us)) = (token_complete t (b ∷ us) more s.0 s.1).at in
    lexed_solid at b (us ++ more) (first_solid t (b ∷ us) s.0).1
    ∙ from_known at b (us ++ more) (ap (λ (r : Taken). is_unknown r.0) found ∙ known_token t (b ∷ us) s.0)
    ∙ ap (λ (r : Taken). placed_then r.0 at (tokens_from (at + r.1) 0 (drop r.1 ((b ∷ us) ++ more)))) found
    ∙ ap (λ l. placed_then t at (tokens_from (at + length (b ∷ us)) 0 l)) (drop_front (b ∷ us) more)

unknown_lexed : (at : ℕ) (more : List ℕ) → more ≢ [] → begins_with is_blank more ≡ false → ((t : Token) → (vs : List ℕ) → (ws : List ℕ) → more ≡ vs ++ ws → StandsFirst t vs ws → ⊥) →
    tokens_from at 0 more ≡ placed_then token.Unknown at []
unknown_lexed at [] n e h = absurd (n refl)
unknown_lexed at (b ∷ bs) n e h = lexed_solid at b bs e ∙ from_unknown at b bs (by (cases_Bool (is_unknown (token_at (b ∷ bs)).0)))
  where
    by : (is_unknown (token_at (b ∷ bs)).0 ≡ true) ⊎ (is_unknown (token_at (b ∷ bs)).0 ≡ false) → is_unknown (token_at (b ∷ bs)).0 ≡ true
    by (inl u) = u
    by (inr u) =
        absurd (h (token_at (b ∷ bs)).0 (take (token_at (b ∷ bs)).1 (b ∷ bs)) (drop (token_at (b ∷ bs)).1 (b ∷ bs)) (sym (take-append-drop (token_at (b ∷ bs)).1 (b ∷ bs))) ((token_good b bs).good u))

tokens_are : (ts : List PlacedToken) (at : ℕ) (bs : List ℕ) → AreTokens at bs ts → ts ≡ tokens_from at 0 bs
tokens_are [] at bs h = absurd h
tokens_are (s ∷ others) at bs h =
    ap (λ k. placed_then s.token k others) h.5 ∙ by h.6 (tokens_are others) ∙ sym (ap (tokens_from at 0) h.3 ∙ gap_passed at h.0 (h.1 ++ h.2) h.4)
  where
    stops : (us more : List ℕ) → (others ≡ []) → us ≡ [] →
        ((s.token ≡ token.End) × (more ≡ []))
        ⊎ ((s.token ≡ token.Unknown) × (more ≢ []) × (begins_with is_blank more ≡ false) × ((t : Token) → (vs : List ℕ) → (ws : List ℕ) → more ≡ vs ++ ws → StandsFirst t vs ws → ⊥)) →
        placed_then s.token (at + length h.0) others ≡ tokens_from (at + length h.0) 0 (us ++ more)
    stops us more o e (inl r) =
        ap (placed_then s.token (at + length h.0)) o ∙ ap (λ t. placed_then t (at + length h.0) []) r.0 ∙ sym (end_lexed (at + length h.0))
        ∙ sym (ap (λ l. tokens_from (at + length h.0) 0 (l ++ more)) e ∙ ap (λ l. tokens_from (at + length h.0) 0 l) r.1)
    stops us more o e (inr r) =
        ap (placed_then s.token (at + length h.0)) o ∙ ap (λ t. placed_then t (at + length h.0) []) r.0 ∙ sym (unknown_lexed (at + length h.0) more r.1 r.2 r.3)
        ∙ sym (ap (λ l. tokens_from (at + length h.0) 0 (l ++ more)) e)

    by : Rest (at + length h.0) h.1 h.2 s others → ((k : ℕ) (l : List ℕ) → AreTokens k l others → others ≡ tokens_from k 0 l) → placed_then s.token (at + length h.0) others ≡ tokens_from (at + length h.0) 0 (h.1 ++ h.2)
    by (inl r) ih = ap (placed_then s.token (at + length h.0)) (ih (at + length h.0 + length h.1) h.2 r.1) ∙ sym (first_lexed (at + length h.0) s.token h.1 h.2 r.0)
    by (inr r) ih = stops h.1 h.2 r.0 r.1 r.2

pub tokens_unique : (text : List ℕ) (ts : List PlacedToken) → TokensOf text ts → ts ≡ tokens_from 0 0 text
tokens_unique text ts h = tokens_are ts 0 text h

-- ---- the last token ends the list, and no other does

some_tokens : (t : PlacedToken) (ts : List PlacedToken) → t ∷ ts ≡ [] → ⊥
some_tokens t ts e = cc

abbrev pub Stopped : List Token → Type 0
Stopped [] = ⊥
Stopped (u ∷ []) = is_stop u ≡ true
Stopped (u ∷ v ∷ us) = (is_stop u ≡ false) × Stopped (v ∷ us)

pub tokens_stopped : (ts : List PlacedToken) (at : ℕ) (bs : List ℕ) → AreTokens at bs ts → Stopped (tokens ts)
tokens_stopped [] at bs h = h
tokens_stopped (s ∷ others) at bs h = by others h.6 (tokens_stopped others)
  where
    known_goes : (t : Token) (us : List ℕ) → SpellsToken t us → is_stop t ≡ false
    known_goes token.End us s = absurd s
    known_goes token.Unknown us s = absurd s
    known_goes _ us s = refl

    last : ((s.token ≡ token.End) × (h.2 ≡ []))
        ⊎ ((s.token ≡ token.Unknown) × (h.2 ≢ []) × (begins_with is_blank h.2 ≡ false) × ((t : Token) → (vs : List ℕ) → (ws : List ℕ) → h.2 ≡ vs ++ ws → StandsFirst t vs ws → ⊥)) → is_stop s.token ≡ true
    last (inl r) = ap is_stop r.0
    last (inr r) = ap is_stop r.0

    by : (ts : List PlacedToken) → Rest (at + length h.0) h.1 h.2 s ts → ((k : ℕ) (l : List ℕ) → AreTokens k l ts → Stopped (tokens ts)) → Stopped (tokens (s ∷ ts))
    by [] (inl r) ih = absurd (ih (at + length h.0 + length h.1) h.2 r.1)
    by [] (inr r) ih = last r.2
    by (t ∷ ts) (inl r) ih = (known_goes s.token h.1 r.0.0, ih (at + length h.0 + length h.1) h.2 r.1)
    by (t ∷ ts) (inr r) ih = absurd (some_tokens t ts r.0)
