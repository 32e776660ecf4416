-- Steps of the loops of the lexer, each against its definition.
use Rattle.std.proofs.Common.{◌≡◌, ℕ, zero, suc, ◌+◌, ◌-◌, ◌*◌, ◌^◌, ◌<◌, ◌≤◌, ◌==◌, List, [], ◌∷◌, ◌++◌, length, get_or, drop, take, Bool, true, false, not, Option, Some, None, if◌then◌else◌, refl, sym, ◌∙◌, ap, arith, add-one, one-add, zero-add, add-zero, append_assoc, subst, pos}
use Rattle.std.proofs.lemmas.List.{drop_more, drop_all, take_all, append-nil, length-drop, drop-drop}
use Rattle.std.proofs.lemmas.Bool.{eqb-true, lt-ltb, le-ltb}
use Rattle.std.proofs.lemmas.Str.{IsCharBoundary-before_ascii, IsCharBoundary-after_ascii, IsCharBoundary-start, lead_after_ascii}
use Rattle.std.proofs.lemmas.List.Sums.{prefix_len-drop_yes, prefix_len-drop_no, prefix_len-drop_all, prefix_len-le-length, prefix_len_stops}
use Rattle.std.specs.List.{prefix_len}
use Rattle.std.specs.Str.{IsCharBoundary, IsUtf8}
use Rattle.filter_expr.specs.declared.tokens.PlacedToken.{PlacedToken}
use Rattle.filter_expr.specs.declared.tokens.Token.{Token}
use Rattle.filter_expr.specs.declared.tokens.Token.TheVariants as token
use Rattle.filter_expr.specs.Signs.{is_unknown}
use Rattle.farm_base.specs.Digits.{number_after}
use Rattle.filter_expr.specs.Spelling.{is_blank, is_escaped, is_attribute_byte, digits_number}
use Rattle.filter_expr.specs.inner.Runs.{is_plain_byte}
use Rattle.filter_expr.specs.Lexing.{Taken, longer, quoting_len, quoted_text, number_token, token_at, tokens_from}
use Rattle.filter_expr.proofs.Chains.{wrong}
use Rattle.filter_expr.proofs.Lexemes.{token_good}

-- ---- runs

pub run_goes : (p : ℕ → Bool) (bs : List ℕ) (i : ℕ) → i < length bs → p (get_or bs i 0) ≡ true → i + prefix_len p (drop i bs) ≡ (i + 1) + prefix_len p (drop (i + 1) bs)
run_goes p bs i h e = omega (arith, prefix_len-drop_yes p bs i 0 h e)

pub run_stops : (p : ℕ → Bool) (bs : List ℕ) (i : ℕ) → i < length bs → p (get_or bs i 0) ≡ false → i + prefix_len p (drop i bs) ≡ i
run_stops p bs i h e = omega (arith, prefix_len-drop_no p bs i 0 h e)

pub run_all : (p : ℕ → Bool) (bs : List ℕ) (i : ℕ) → length bs ≤ i → i + prefix_len p (drop i bs) ≡ i
run_all p bs i h = omega (arith, prefix_len-drop_all p bs i h)

-- ---- numbers

pub number_step : (n : ℕ) (ds : List ℕ) (i : ℕ) → i < length ds → number_after n (drop i ds) ≡ number_after (10 * n + (get_or ds i 0 - 48)) (drop (i + 1) ds)
number_step n ds i h = ap (number_after n) (drop_more ds i 0 h)

-- ---- strings

-- so many bytes stood before
abbrev pub further : ℕ → Option ℕ → Option ℕ
further i None = None
further i (Some n) = Some (i + n)

further_longer : (i : ℕ) (o : Option ℕ) → further i (longer o) ≡ further (i + 1) o
further_longer i None = refl
further_longer i (Some n) = ap Some (omega arith)

module _ (q : ℕ) (bs : List ℕ) (i : ℕ) (h : i < length bs) where
  pub quoting_escaped : is_escaped (get_or bs i 0) ≡ true → further i (quoting_len q true (drop i bs)) ≡ further (i + 1) (quoting_len q false (drop (i + 1) bs))
  unfolding quoting_len
  quoting_escaped e =
      ap (λ l. further i (quoting_len q true l)) (drop_more bs i 0 h)
      ∙ ap (λ b. further i (if b then longer (quoting_len q false (drop (i + 1) bs)) else None)) e
      ∙ further_longer i (quoting_len q false (drop (i + 1) bs))

  pub quoting_unknown : is_escaped (get_or bs i 0) ≡ false → further i (quoting_len q true (drop i bs)) ≡ None
  unfolding quoting_len
  quoting_unknown e =
      ap (λ l. further i (quoting_len q true l)) (drop_more bs i 0 h)
      ∙ ap (λ b. further i (if b then longer (quoting_len q false (drop (i + 1) bs)) else None)) e

  pub quoting_closed : (get_or bs i 0 == q) ≡ true → further i (quoting_len q false (drop i bs)) ≡ Some i
  unfolding quoting_len
  quoting_closed e =
      ap (λ l. further i (quoting_len q false l)) (drop_more bs i 0 h)
      ∙ ap (λ b. further i (if b then Some 0 else (if get_or bs i 0 == 92 then longer (quoting_len q true (drop (i + 1) bs)) else longer (quoting_len q false (drop (i + 1) bs))))) e
      ∙ ap Some (omega arith)

  pub quoting_next : (get_or bs i 0 == q) ≡ false →
      further i (quoting_len q false (drop i bs)) ≡ further (i + 1) (quoting_len q (get_or bs i 0 == 92) (drop (i + 1) bs))
  unfolding quoting_len
  quoting_next e =
      ap (λ l. further i (quoting_len q false l)) (drop_more bs i 0 h)
      ∙ ap (λ b. further i (if b then Some 0 else (if get_or bs i 0 == 92 then longer (quoting_len q true (drop (i + 1) bs)) else longer (quoting_len q false (drop (i + 1) bs))))) e
      ∙ by (get_or bs i 0 == 92)
    where
      by : (b : Bool) → further i (if b then longer (quoting_len q true (drop (i + 1) bs)) else longer (quoting_len q false (drop (i + 1) bs))) ≡ further (i + 1) (quoting_len q b (drop (i + 1) bs))
      by true = further_longer i (quoting_len q true (drop (i + 1) bs))
      by false = further_longer i (quoting_len q false (drop (i + 1) bs))

pub quoting_end : (q : ℕ) (b : Bool) (bs : List ℕ) (i : ℕ) → length bs ≤ i → further i (quoting_len q b (drop i bs)) ≡ None
unfolding quoting_len
quoting_end q b bs i h = ap (λ l. further i (quoting_len q b l)) (drop_all i bs h)

pub further_none : (o : Option ℕ) → further 0 o ≡ o
further_none None = refl
further_none (Some n) = ap Some (zero-add n)

-- what follows a run without backslashes
abbrev behind_run : List ℕ → List ℕ
behind_run [] = []
behind_run (b ∷ bs) = quoted_text true bs

escape_run : (bs : List ℕ) → quoted_text false bs ≡ take (prefix_len is_plain_byte bs) bs ++ behind_run (drop (prefix_len is_plain_byte bs) bs)
unfolding quoted_text
escape_run [] = refl
escape_run (b ∷ bs) = by (b == 92) (escape_run bs)
  where
    by : (t : Bool) → quoted_text false bs ≡ take (prefix_len is_plain_byte bs) bs ++ behind_run (drop (prefix_len is_plain_byte bs) bs) →
        (if t then quoted_text true bs else b ∷ quoted_text false bs)
        ≡ take (if not t then 1 + prefix_len is_plain_byte bs else 0) (b ∷ bs) ++ behind_run (drop (if not t then 1 + prefix_len is_plain_byte bs else 0) (b ∷ bs))
    by true ih = refl
    by false ih = rw (one-add (prefix_len is_plain_byte bs)) (ap (λ l. b ∷ l) ih)

pub escape_here : (bs : List ℕ) → prefix_len is_plain_byte bs < length bs →
    quoted_text false bs ≡ take (prefix_len is_plain_byte bs) bs ++ quoted_text true (drop (prefix_len is_plain_byte bs + 1) bs)
escape_here bs h = escape_run bs ∙ ap (λ l. take (prefix_len is_plain_byte bs) bs ++ behind_run l) (drop_more bs (prefix_len is_plain_byte bs) 0 h)

pub escape_none : (bs : List ℕ) → length bs ≤ prefix_len is_plain_byte bs → quoted_text false bs ≡ bs
escape_none bs h =
    escape_run bs ∙ ap (λ l. take (prefix_len is_plain_byte bs) bs ++ behind_run l) (drop_all (prefix_len is_plain_byte bs) bs h)
    ∙ append-nil (take (prefix_len is_plain_byte bs) bs) ∙ take_all (prefix_len is_plain_byte bs) bs h

pub escape_next : (bs : List ℕ) → get_or bs 0 0 ≡ 92 → take 1 bs ++ quoted_text false (drop 1 bs) ≡ quoted_text true bs
unfolding quoted_text
escape_next [] h = refl
escape_next (b ∷ bs) h = refl

pub escape_other : (bs : List ℕ) → (get_or bs 0 0 ≡ 92 → ⊥) → quoted_text false bs ≡ quoted_text true bs
unfolding quoted_text
escape_other [] h = refl
escape_other (b ∷ bs) h = by (b == 92) refl
  where
    by : (t : Bool) → (b == 92) ≡ t → (if t then quoted_text true bs else b ∷ quoted_text false bs) ≡ b ∷ quoted_text false bs
    by true e = absurd (h (eqb-true b 92 e))
    by false e = refl

pub number_some : (ds : List ℕ) → digits_number ds < 2 ^ 63 → number_token ds ≡ token.Number (pos (digits_number ds))
unfolding number_token
number_some ds h = ap (λ b. if b then token.Number (pos (digits_number ds)) else token.OutOfRange) (lt-ltb (digits_number ds) (2 ^ 63) h)

pub number_none : (ds : List ℕ) → 2 ^ 63 ≤ digits_number ds → number_token ds ≡ token.OutOfRange
unfolding number_token
number_none ds h = ap (λ b. if b then token.Number (pos (digits_number ds)) else token.OutOfRange) (le-ltb (digits_number ds) (2 ^ 63) h)

-- a text may be cut beside an ASCII byte
pub ruleset cuts = (IsCharBoundary-before_ascii, IsCharBoundary-after_ascii, lead_after_ascii)

-- a run that only ASCII bytes end may be cut off
pub run_cut : (p : ℕ → Bool) → ((b : ℕ) → p b ≡ false → b < 128) → (bs : List ℕ) → IsCharBoundary bs (prefix_len p bs)
run_cut p ascii bs = (prefix_len-le-length p bs, λ h over. absurd (omega (arith, over, ascii (get_or bs (prefix_len p bs) 0) (prefix_len_stops p bs 0 h))))

pub name_ends : (b : ℕ) → is_attribute_byte b ≡ false → b < 128
name_ends b h = by (b == 93) refl h
  where
    by : (t : Bool) → (b == 93) ≡ t → not t ≡ false → b < 128
    by true e _ = omega (arith, eqb-true b 93 e)
    by false e g = absurd (wrong (sym g))

pub plain_ends : (b : ℕ) → is_plain_byte b ≡ false → b < 128
plain_ends b h = by (b == 92) refl h
  where
    by : (t : Bool) → (b == 92) ≡ t → not t ≡ false → b < 128
    by true e _ = omega (arith, eqb-true b 92 e)
    by false e g = absurd (wrong (sym g))

pub escape_cut : (bs : List ℕ) → IsUtf8 bs → get_or bs 0 0 ≡ 92 → IsCharBoundary bs 1
escape_cut [] u h = absurd (omega (arith, h))
escape_cut (b ∷ bs) u h = IsCharBoundary-after_ascii (b ∷ bs) 0 u (omega arith) (omega (arith, h))

-- one more escape is taken in
pub escapes_go : (out rest kept more mid new content : List ℕ) (n : ℕ) → out ++ quoted_text false rest ≡ content → n ≡ prefix_len is_plain_byte rest → n < length rest →
    mid ≡ out ++ take n rest → new ≡ mid ++ kept → kept ++ quoted_text false more ≡ quoted_text true (drop (n + 1) rest) → new ++ quoted_text false more ≡ content
escapes_go out rest kept more mid new content n read run less one two here =
    ap (λ l. l ++ quoted_text false more) (two ∙ ap (λ l. l ++ kept) one)
    ∙ append_assoc (out ++ take n rest) kept (quoted_text false more)
    ∙ append_assoc out (take n rest) (kept ++ quoted_text false more)
    ∙ ap (λ l. out ++ (take n rest ++ l)) here
    ∙ ap (λ l. out ++ l) (sym (at_run n run less)) ∙ read
  where
    at_run : (m : ℕ) → m ≡ prefix_len is_plain_byte rest → m < length rest → quoted_text false rest ≡ take m rest ++ quoted_text true (drop (m + 1) rest)
    at_run m e l = subst (λ k. quoted_text false rest ≡ take k rest ++ quoted_text true (drop (k + 1) rest)) (sym e) (escape_here rest (omega (arith, e)))

-- ---- the tokens of a text

-- of a token that was taken before, no byte begins another
pub lexed_skips : (k at : ℕ) (bs : List ℕ) → k ≤ length bs → tokens_from at k bs ≡ tokens_from (at + k) 0 (drop k bs)
unfolding tokens_from
lexed_skips zero at bs h = ap (λ m. tokens_from m 0 bs) (sym (add-zero at))
lexed_skips (suc k) at [] h = absurd (omega (arith, h))
lexed_skips (suc k) at (b ∷ bs) h = lexed_skips k (suc at) bs (omega (arith, h)) ∙ ap (λ m. tokens_from m 0 (drop k bs)) (omega arith)

abbrev pub placed_then : Token → ℕ → List PlacedToken → List PlacedToken
placed_then t at ts = record { token = t; offset = at } ∷ ts

-- the tokens from a byte on that is no blank
abbrev pub from_token : ℕ → ℕ → List ℕ → List PlacedToken
from_token at b bs =
    if is_unknown (token_at (b ∷ bs)).0 then record { token = token.Unknown; offset = at } ∷ []
    else record { token = (token_at (b ∷ bs)).0; offset = at } ∷ tokens_from (suc at) ((token_at (b ∷ bs)).1 - 1) bs

module _ (bs : List ℕ) (at : ℕ) (h : at < length bs) where
  pub lexed_blank : is_blank (get_or bs at 0) ≡ true → tokens_from at 0 (drop at bs) ≡ tokens_from (at + 1) 0 (drop (at + 1) bs)
  unfolding tokens_from
  lexed_blank e =
      ap (λ l. tokens_from at 0 l) (drop_more bs at 0 h)
      ∙ ap (λ t. if t then tokens_from (suc at) 0 (drop (at + 1) bs) else from_token at (get_or bs at 0) (drop (at + 1) bs)) e
      ∙ ap (λ m. tokens_from m 0 (drop (at + 1) bs)) (sym (add-one at))

  solid : is_blank (get_or bs at 0) ≡ false → tokens_from at 0 (drop at bs) ≡ from_token at (get_or bs at 0) (drop (at + 1) bs)
  unfolding tokens_from
  solid e =
      ap (λ l. tokens_from at 0 l) (drop_more bs at 0 h)
      ∙ ap (λ t. if t then tokens_from (suc at) 0 (drop (at + 1) bs) else from_token at (get_or bs at 0) (drop (at + 1) bs)) e

  module _ (e : is_blank (get_or bs at 0) ≡ false) (t : Token) (n : ℕ) (r : ◌≡◌ {A = Taken} (t, n) (token_at (drop at bs))) where
    here : ◌≡◌ {A = Taken} (token_at (get_or bs at 0 ∷ drop (at + 1) bs)) (t, n)
    here = ap token_at (sym (drop_more bs at 0 h)) ∙ sym r

    pub lexed_unknown : is_unknown t ≡ true → tokens_from at 0 (drop at bs) ≡ record { token = token.Unknown; offset = at } ∷ []
    lexed_unknown u =
        solid e
        ∙ ap (λ b. if b then record { token = token.Unknown; offset = at } ∷ [] else record { token = (token_at (get_or bs at 0 ∷ drop (at + 1) bs)).0; offset = at } ∷ tokens_from (suc at) ((token_at (get_or bs at 0 ∷ drop (at + 1) bs)).1 - 1) (drop (at + 1) bs))
        (ap (λ (x : Taken). is_unknown x.0) here ∙ u)

    pub token_least : 1 ≤ n
    token_least = subst (λ (x : Taken). 1 ≤ x.1) here (token_good (get_or bs at 0) (drop (at + 1) bs)).least

    pub token_most : at + n ≤ length bs
    token_most =
        let most : n ≤ length (get_or bs at 0 ∷ drop (at + 1) bs) = subst (λ (x : Taken). x.1 ≤ length (get_or bs at 0 ∷ drop (at + 1) bs)) here (token_good (get_or bs at 0) (drop (at + 1) bs)).most in
        omega (arith, most, length-drop (at + 1) bs)

    pub lexed_token : is_unknown t ≡ false → tokens_from at 0 (drop at bs) ≡ record { token = t; offset = at } ∷ tokens_from (at + n) 0 (drop (at + n) bs)
    lexed_token u =
        solid e
        ∙ ap (λ (b : Bool). if b then record { token = token.Unknown; offset = at } ∷ [] else record { token = (token_at (get_or bs at 0 ∷ drop (at + 1) bs)).0; offset = at } ∷ tokens_from (suc at) ((token_at (get_or bs at 0 ∷ drop (at + 1) bs)).1 - 1) (drop (at + 1) bs))
        (ap (λ (x : Taken). is_unknown x.0) here ∙ u)
        ∙ ap (λ (x : Taken). placed_then x.0 at (tokens_from (suc at) (x.1 - 1) (drop (at + 1) bs))) here
        ∙ ap (λ l. placed_then t at l)
        (lexed_skips (n - 1) (suc at) (drop (at + 1) bs) (omega (arith, token_most, token_least, length-drop (at + 1) bs))
        ∙ ap (λ l. tokens_from (suc at + (n - 1)) 0 l) (drop-drop (n - 1) (at + 1) bs)
        ∙ ap (λ m. tokens_from m 0 (drop (at + 1 + (n - 1)) bs)) (omega (arith, token_least))
        ∙ ap (λ m. tokens_from (at + n) 0 (drop m bs)) (omega (arith, token_least)))

pub lexed_end : (bs : List ℕ) (at : ℕ) → at ≡ length bs → tokens_from at 0 (drop at bs) ≡ record { token = token.End; offset = at } ∷ []
unfolding tokens_from
lexed_end bs at h = ap (λ l. tokens_from at 0 l) (drop_all at bs (omega arith))

pub unknown_is : (t : Token) → is_unknown t ≡ true → t ≡ token.Unknown
unknown_is token.Unknown h = refl
unknown_is _ h = absurd (wrong h)

pub escape_no_cut : (bs : List ℕ) → IsUtf8 bs → IsCharBoundary bs 0
escape_no_cut bs u = IsCharBoundary-start bs u

pub escape_past : (bs : List ℕ) (n : ℕ) → IsUtf8 bs → n ≡ prefix_len is_plain_byte bs → n < length bs → IsCharBoundary bs (n + 1)
escape_past bs n u e h =
    IsCharBoundary-after_ascii bs n u h
    (subst (λ m. get_or bs m 0 < 128) (sym e) (plain_ends (get_or bs (prefix_len is_plain_byte bs) 0) (prefix_len_stops is_plain_byte bs 0 (omega (arith, e, h)))))
