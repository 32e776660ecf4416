-- A token that the lexer finds is spelled by the bytes that it takes, and ends where they do.
use Rattle.std.proofs.Common.{◌≡◌, ◌≢◌, ℕ, zero, suc, ◌+◌, ◌^◌, ◌<◌, ◌≤◌, ◌==◌, Bool, true, false, not, ◌||◌, ◌&&◌, nat_lt, if◌then◌else◌, List, [], ◌∷◌, ◌++◌, drop, take, length, get_or, Option, Some, None, ◌⊎◌, inl, inr, refl, sym, ap, ◌∙◌, subst, arith, pos}
use Rattle.std.specs.Prelude.{codes}
use Rattle.std.specs.List.{prefix_len}
use Rattle.std.specs.Str.{bytes_eq}
use Rattle.std.proofs.lemmas.Bool.{eqb-true, eq-eqb, ltb-true, ltb-false, cases_Bool}
use Rattle.std.proofs.lemmas.List.{take_more}
use Rattle.std.proofs.lemmas.List.Sums.{prefix_len_stops, prefix_len-le-length}
use Rattle.std.proofs.lemmas.Slice.Eq.{bytes_eq-Decides}
use Rattle.plain_filters.specs.declared.CompareSign.TheVariants as «compare»
use Rattle.filter_expr.specs.declared.tokens.Token.{Token}
use Rattle.filter_expr.specs.declared.tokens.Token.TheVariants as token
use Rattle.filter_expr.specs.Signs.{is_unknown}
use Rattle.farm_base.specs.Digits.{is_digit}
use Rattle.filter_expr.specs.Spelling.{is_letter, is_word_byte, is_quote, is_escaped, is_attribute_byte, IsDigits, digits_number, IsQuoting, SpellsToken, begins_with, lengthens, EndsBefore, StandsFirst}
use Rattle.filter_expr.specs.Lexing.{Taken, nothing, number_token, number_token_at, word_token, word_at, name_token_at, longer, quoting_len, quoted_text, quoted_of, quoted_at, single, less_at, sign_at, first_byte, token_at}
use Rattle.filter_expr.proofs.Chains.{wrong}
use Rattle.filter_expr.proofs.Spelled.{if_either, quotes, end_digits, end_words, run_all, run_stops, run_first}

-- where the token is one, it stands first; it takes a byte at least and no more than there are
pub record Good (l : List ℕ) (r : Taken) : Type 0 where
  pub good : is_unknown r.0 ≡ false → StandsFirst r.0 (take r.1 l) (drop r.1 l)
  pub least : 1 ≤ r.1
  pub most : r.1 ≤ length l

good_nothing : (b : ℕ) (bs : List ℕ) → Good (b ∷ bs) nothing
good_nothing b bs = record { good = λ u. absurd (wrong (sym u)); least = omega arith; most = omega arith }

-- a token by the bytes that it takes
good_at : (l : List ℕ) (t : Token) (n : ℕ) (us more : List ℕ) → take n l ≡ us → drop n l ≡ more → 1 ≤ n → n ≤ length l → StandsFirst t us more → Good l (t, n)
good_at l t n us more a b f g h = record { good = λ _. subst (λ x. StandsFirst t x (drop n l)) (sym a) (subst (λ x. StandsFirst t us x) (sym b) h); least = f; most = g }

run_least : (p : ℕ → Bool) (b : ℕ) (bs : List ℕ) → p b ≡ true → 1 ≤ prefix_len p (b ∷ bs)
run_least p b bs h = rw h (omega arith)

-- ---- numbers and words

begins_run : (test p : ℕ → Bool) (b : ℕ) (bs : List ℕ) (v : Bool) → p b ≡ true → test b ≡ v → begins_with test (take (prefix_len p (b ∷ bs)) (b ∷ bs)) ≡ v
begins_run test p b bs v h g = ap (begins_with test) (run_first p b bs h) ∙ g

some_first : (xs : List ℕ) (b : ℕ) (ys : List ℕ) → xs ≡ b ∷ ys → xs ≢ []
some_first xs b ys e n = wrong (ap (begins_with (λ _. true)) (sym n ∙ e))

number_spells : (us : List ℕ) → IsDigits us → SpellsToken (number_token us) us
unfolding number_token
number_spells us d = by (nat_lt (digits_number us) (2 ^ 63)) refl
  where
    by : (b : Bool) → nat_lt (digits_number us) (2 ^ 63) ≡ b → SpellsToken (if b then token.Number (pos (digits_number us)) else token.OutOfRange) us
    by true e = (d, refl, ltb-true (digits_number us) (2 ^ 63) e)
    by false e = (d, ltb-false (digits_number us) (2 ^ 63) e)

number_good : (b : ℕ) (bs : List ℕ) → is_digit b ≡ true → Good (b ∷ bs) (number_token_at (b ∷ bs))
unfolding number_token_at
number_good b bs h = record {
  good = λ _. (
    number_spells (take (prefix_len is_digit (b ∷ bs)) (b ∷ bs)) (some_first (take (prefix_len is_digit (b ∷ bs)) (b ∷ bs)) b (take (prefix_len is_digit bs) bs) (run_first is_digit b bs h), run_all is_digit (b ∷ bs)),
    end_digits (take (prefix_len is_digit (b ∷ bs)) (b ∷ bs)) (drop (prefix_len is_digit (b ∷ bs)) (b ∷ bs)) (begins_run is_digit is_digit b bs true h h) (run_stops is_digit (b ∷ bs)),
  );
  least = run_least is_digit b bs h;
  most = prefix_len-le-length is_digit (b ∷ bs);
}

ladder : (w x : List ℕ) (t r : Token) → (w ≡ x → SpellsToken t w) → (is_unknown r ≡ false → SpellsToken r w) → is_unknown (if bytes_eq w x then t else r) ≡ false →
    SpellsToken (if bytes_eq w x then t else r) w
ladder w x t r h g = by (bytes_eq w x) refl
  where
    by : (b : Bool) → bytes_eq w x ≡ b → is_unknown (if b then t else r) ≡ false → SpellsToken (if b then t else r) w
    by true e _ = h ((bytes_eq-Decides w x).0 e)
    by false e u = g u

word_spells : (w : List ℕ) → is_unknown (word_token w) ≡ false → SpellsToken (word_token w) w
unfolding word_token
word_spells w =
    ladder w (codes "true") token.True _ (λ q. q)
    (ladder w (codes "false") token.False _ (λ q. q)
    (ladder w (codes "null") token.Null _ (λ q. q)
    (ladder w (codes "and") token.And _ (λ q. inl q)
    (ladder w (codes "or") token.Or _ (λ q. inl q)
    (ladder w (codes "not") token.Not token.Unknown (λ q. inl q) (λ u. absurd (wrong (sym u))))))))

word_good : (b : ℕ) (bs : List ℕ) → is_digit b ≡ false → is_letter b ≡ true → Good (b ∷ bs) (word_at (b ∷ bs))
unfolding word_at
word_good b bs d h =
    let word : is_word_byte b ≡ true = ap (λ t. t || is_digit b || b == 95) h in record {
      good = λ u. (
        word_spells (take (prefix_len is_word_byte (b ∷ bs)) (b ∷ bs)) u,
        end_words (take (prefix_len is_word_byte (b ∷ bs)) (b ∷ bs)) (drop (prefix_len is_word_byte (b ∷ bs)) (b ∷ bs)) (begins_run is_digit is_word_byte b bs false word d) (begins_run is_letter is_word_byte b bs true word h) (run_stops is_word_byte (b ∷ bs)),
      );
      least = run_least is_word_byte b bs word;
      most = prefix_len-le-length is_word_byte (b ∷ bs);
    }

-- ---- names and strings

take_two : (b : ℕ) (bs : List ℕ) (n : ℕ) → n < length bs → take (n + 2) (b ∷ bs) ≡ b ∷ (take n bs ++ get_or bs n 0 ∷ [])
take_two b bs n h = let e : n + 2 ≡ suc (n + 1) = omega arith in ap (λ m. take m (b ∷ bs)) e ∙ ap (λ l. b ∷ l) (take_more bs n 0 h)

name_end : (n : ℕ) → is_attribute_byte n ≡ false → n ≡ 93
name_end n h = by (cases_Bool (n == 93))
  where
    by : ((n == 93) ≡ true) ⊎ ((n == 93) ≡ false) → n ≡ 93
    by (inl e) = eqb-true n 93 e
    by (inr e) = absurd (wrong (sym (sym (ap not e) ∙ h)))

pub bracket_ends : (us more : List ℕ) → EndsBefore (91 ∷ us) more
bracket_ends us [] = tt
bracket_ends us (c ∷ cs) = refl

pub quote_ends : (q : ℕ) (us more : List ℕ) → is_quote q ≡ true → EndsBefore (q ∷ us) more
quote_ends q us [] h = tt
quote_ends q us (c ∷ cs) h = quotes (λ n. lengthens (n ∷ us) c ≡ false) refl refl q h

some_taken : (n : ℕ) (bs : List ℕ) → (n == 0) ≡ false → n < length bs → take n bs ≢ []
some_taken zero bs e h = absurd (wrong (sym e))
some_taken (suc n) [] e h = absurd (omega (arith, h))
some_taken (suc n) (b ∷ bs) e h = some_first (b ∷ take n bs) b (take n bs) refl

name_good : (bs : List ℕ) → Good (91 ∷ bs) (name_token_at bs)
unfolding name_token_at
name_good bs =
    if_either (Good (91 ∷ bs)) (prefix_len is_attribute_byte bs == 0) _ _ (λ _. good_nothing 91 bs)
    (λ z. if_either (Good (91 ∷ bs)) (nat_lt (prefix_len is_attribute_byte bs) (length bs)) _ _
    (λ e.
    let less : prefix_len is_attribute_byte bs < length bs = ltb-true (prefix_len is_attribute_byte bs) (length bs) e in
    good_at (91 ∷ bs) (token.Name (take (prefix_len is_attribute_byte bs) bs)) (prefix_len is_attribute_byte bs + 2) (91 ∷ (take (prefix_len is_attribute_byte bs) bs ++ 93 ∷ [])) (drop (prefix_len is_attribute_byte bs + 2) (91 ∷ bs))
    (take_two 91 bs (prefix_len is_attribute_byte bs) less
    ∙ ap (λ x. 91 ∷ (take (prefix_len is_attribute_byte bs) bs ++ x ∷ [])) (name_end (get_or bs (prefix_len is_attribute_byte bs) 0) (prefix_len_stops is_attribute_byte bs 0 less)))
    refl (omega arith) (omega (arith, less))
    ((refl, some_taken (prefix_len is_attribute_byte bs) bs z less, run_all is_attribute_byte bs), bracket_ends (take (prefix_len is_attribute_byte bs) bs ++ 93 ∷ []) (drop (prefix_len is_attribute_byte bs + 2) (91 ∷ bs))))
    (λ _. good_nothing 91 bs))

-- a text in quotes, where a backslash stood just before or not
abbrev Quoting : ℕ → Bool → List ℕ → List ℕ → Type 0
Quoting q false t us = IsQuoting q t us
Quoting q true t us = IsQuoting q t (92 ∷ us)

record Closed (q : ℕ) (e : Bool) (bs : List ℕ) (n : ℕ) : Type 0 where
  less : n < length bs
  quote : get_or bs n 0 ≡ q
  text : Quoting q e (quoted_text e (take n bs)) (take n bs)

abbrev ClosedAt : ℕ → Bool → List ℕ → Option ℕ → Type 0
ClosedAt q e bs None = Unit {0}
ClosedAt q e bs (Some n) = Closed q e bs n

closed_escaped : (q b : ℕ) (bs : List ℕ) → is_escaped b ≡ true → (o : Option ℕ) → ClosedAt q false bs o → ClosedAt q true (b ∷ bs) (longer o)
unfolding quoted_text
closed_escaped q b bs h None c = tt
closed_escaped q b bs h (Some n) c = record { less = omega (arith, c.less); quote = c.quote; text = (take n bs, c.text, inr (refl, h)) }

closed_backslash : (q : ℕ) (bs : List ℕ) → (o : Option ℕ) → ClosedAt q true bs o → ClosedAt q false (92 ∷ bs) (longer o)
unfolding quoted_text
closed_backslash q bs None c = tt
closed_backslash q bs (Some n) c = record { less = omega (arith, c.less); quote = c.quote; text = c.text }

closed_plain : (q b : ℕ) (bs : List ℕ) → (b == q) ≡ false → (b == 92) ≡ false → (o : Option ℕ) → ClosedAt q false bs o → ClosedAt q false (b ∷ bs) (longer o)
unfolding quoted_text
closed_plain q b bs h g None c = tt
closed_plain q b bs h g (Some n) c = record {
  less = omega (arith, c.less);
  quote = c.quote;
  text = subst (λ l. IsQuoting q l (b ∷ take n bs)) (sym (ap (λ t. if t then quoted_text true (take n bs) else b ∷ quoted_text false (take n bs)) g))
      (take n bs, c.text, inl (refl, apart b q h, apart b 92 g));
}
  where
    apart : (x y : ℕ) → (x == y) ≡ false → x ≢ y
    apart x y e s = wrong (sym e ∙ eq-eqb x y s)

closed_at : (q : ℕ) (e : Bool) (bs : List ℕ) → ClosedAt q e bs (quoting_len q e bs)
unfolding quoting_len quoted_text
closed_at q e [] = tt
closed_at q true (b ∷ bs) =
    if_either (ClosedAt q true (b ∷ bs)) (is_escaped b) (longer (quoting_len q false bs)) None (λ h. closed_escaped q b bs h (quoting_len q false bs) (closed_at q false bs)) (λ _. tt)
closed_at q false (b ∷ bs) =
    if_either (ClosedAt q false (b ∷ bs)) (b == q) (Some 0) (if b == 92 then longer (quoting_len q true bs) else longer (quoting_len q false bs))
    (λ h. record { less = omega arith; quote = eqb-true b q h; text = refl })
    (λ h. if_either (ClosedAt q false (b ∷ bs)) (b == 92) (longer (quoting_len q true bs)) (longer (quoting_len q false bs))
    (λ g. subst (λ x. ClosedAt q false (x ∷ bs) (longer (quoting_len q true bs))) (sym (eqb-true b 92 g)) (closed_backslash q bs (quoting_len q true bs) (closed_at q true bs)))
    (λ g. closed_plain q b bs h g (quoting_len q false bs) (closed_at q false bs)))

quoted_good : (q : ℕ) (bs : List ℕ) → is_quote q ≡ true → Good (q ∷ bs) (quoted_at q bs)
unfolding quoted_at
quoted_good q bs h = by (quoting_len q false bs) (closed_at q false bs)
  where
    by : (o : Option ℕ) → ClosedAt q false bs o → Good (q ∷ bs) (quoted_of bs o)
    by None c = good_nothing q bs
    by (Some n) c =
        good_at (q ∷ bs) (token.Quoted (quoted_text false (take n bs))) (n + 2) (q ∷ (take n bs ++ q ∷ [])) (drop (n + 2) (q ∷ bs))
        (take_two q bs n c.less ∙ ap (λ x. q ∷ (take n bs ++ x ∷ [])) c.quote) refl (omega arith) (omega (arith, c.less))
        ((q, take n bs, refl, h, c.text), quote_ends q (take n bs ++ q ∷ []) (drop (n + 2) (q ∷ bs)) h)

-- ---- signs

one_good : (k b : ℕ) (bs : List ℕ) (t : Token) → (b == k) ≡ true → SpellsToken t (k ∷ []) → EndsBefore (k ∷ []) bs → Good (b ∷ bs) (t, 1)
one_good k b bs t e s h = good_at (b ∷ bs) t 1 (k ∷ []) bs (ap (λ x. x ∷ []) (eqb-true b k e)) refl (omega arith) (omega arith) (s, h)

two_good : (k j b : ℕ) (bs : List ℕ) (t : Token) → (b == k) ≡ true → (first_byte bs == suc j) ≡ true → SpellsToken t (k ∷ suc j ∷ []) → ((more : List ℕ) → EndsBefore (k ∷ suc j ∷ []) more) → Good (b ∷ bs) (t, 2)
two_good k j b [] t e g s h = absurd (omega (arith, eqb-true 0 (suc j) g))
two_good k j b (c ∷ cs) t e g s h =
    good_at (b ∷ c ∷ cs) t 2 (k ∷ suc j ∷ []) cs (ap (λ x. x ∷ c ∷ []) (eqb-true b k e) ∙ ap (λ x. k ∷ x ∷ []) (eqb-true c (suc j) g)) refl (omega arith) (omega arith) (s, h cs)

-- a sign that no byte makes a longer one
alone : (us : List ℕ) → ((c : ℕ) → lengthens us c ≡ false) → (more : List ℕ) → EndsBefore us more
alone us h [] = tt
alone us h (c ∷ cs) = h c

-- a sign before a byte that is not the one that would make it longer
before_other : (us : List ℕ) (k : ℕ) (more : List ℕ) → ((c : ℕ) → (c == k) ≡ false → lengthens us c ≡ false) → (first_byte more == k) ≡ false → EndsBefore us more
before_other us k [] h e = tt
before_other us k (c ∷ cs) h e = h c e

single_good : (b : ℕ) (bs : List ℕ) → Good (b ∷ bs) (single b, 1)
unfolding single
single_good b bs =
    step 43 token.Plus _ refl (alone (codes "+") (λ _. refl) bs)
    (step 45 token.Minus _ refl (alone (codes "-") (λ _. refl) bs)
    (step 42 token.Times _ refl (alone (codes "*") (λ _. refl) bs)
    (step 47 token.Divide _ refl (alone (codes "/") (λ _. refl) bs)
    (step 37 token.Rest _ refl (alone (codes "%") (λ _. refl) bs)
    (step 40 token.Open _ refl (alone (codes "(") (λ _. refl) bs)
    (step 41 token.Close token.Unknown refl (alone (codes ")") (λ _. refl) bs) (good_nothing b bs)))))))
  where
    step : (k : ℕ) (t r : Token) → SpellsToken t (k ∷ []) → EndsBefore (k ∷ []) bs → Good (b ∷ bs) (r, 1) → Good (b ∷ bs) (if b == k then t else r, 1)
    step k t r s h g = by (b == k) refl
      where
        by : (v : Bool) → (b == k) ≡ v → Good (b ∷ bs) (if v then t else r, 1)
        by true e = one_good k b bs t e s h
        by false e = g

less_good : (b : ℕ) (bs : List ℕ) → (b == 60) ≡ true → Good (b ∷ bs) (less_at (first_byte bs))
unfolding less_at
less_good b bs h =
    if_either (Good (b ∷ bs)) (first_byte bs == 61) _ _ (λ e. two_good 60 60 b bs (token.Compare compare.LessEqual) h e refl (alone (codes "<=") (λ _. refl)))
    (λ n. if_either (Good (b ∷ bs)) (first_byte bs == 62) _ _ (λ e. two_good 60 61 b bs (token.Compare compare.Unequal) h e (inr refl) (alone (codes "<>") (λ _. refl)))
    (λ m. one_good 60 b bs (token.Compare compare.Less) h refl (ends bs n m)))
  where
    ends : (bs : List ℕ) → (first_byte bs == 61) ≡ false → (first_byte bs == 62) ≡ false → EndsBefore (codes "<") bs
    ends [] n m = tt
    ends (c ∷ cs) n m = ap (λ x. (x && true) || (((c == 61) && true) || false)) m ∙ ap (λ x. (x && true) || false) n

sign_good : (b : ℕ) (bs : List ℕ) → Good (b ∷ bs) (sign_at b (first_byte bs))
unfolding sign_at
sign_good b bs =
    if_either (Good (b ∷ bs)) (b == 61) _ _ (λ e. one_good 61 b bs (token.Compare compare.Equal) e refl (alone (codes "=") (λ _. refl) bs))
    (λ _. if_either (Good (b ∷ bs)) (b == 33) _ _
    (λ h. if_either (Good (b ∷ bs)) (first_byte bs == 61) _ _ (λ e. two_good 33 60 b bs (token.Compare compare.Unequal) h e (inl refl) (alone (codes "!=") (λ _. refl)))
    (λ n. one_good 33 b bs token.Not h (inr refl) (before_other (codes "!") 61 bs (λ c e. ap (λ x. (x && true) || false) e) n)))
    (λ _. if_either (Good (b ∷ bs)) (b == 60) _ _ (less_good b bs)
    (λ _. if_either (Good (b ∷ bs)) (b == 62) _ _
    (λ h. if_either (Good (b ∷ bs)) (first_byte bs == 61) _ _ (λ e. two_good 62 60 b bs (token.Compare compare.GreaterEqual) h e refl (alone (codes ">=") (λ _. refl)))
    (λ n. one_good 62 b bs (token.Compare compare.Greater) h refl (before_other (codes ">") 61 bs (λ c e. ap (λ x. (x && true) || false) e) n)))
    (λ _. if_either (Good (b ∷ bs)) (b == 38) _ _
    (λ h. if_either (Good (b ∷ bs)) (first_byte bs == 38) _ _ (λ e. two_good 38 37 b bs token.And h e (inr refl) (alone (codes "&&") (λ _. refl))) (λ _. good_nothing b bs))
    (λ _. if_either (Good (b ∷ bs)) (b == 124) _ _
    (λ h. if_either (Good (b ∷ bs)) (first_byte bs == 124) _ _ (λ e. two_good 124 123 b bs token.Or h e (inr refl) (alone (codes "||") (λ _. refl))) (λ _. good_nothing b bs))
    (λ _. single_good b bs))))))

-- ---- all tokens

pub token_good : (b : ℕ) (bs : List ℕ) → Good (b ∷ bs) (token_at (b ∷ bs))
unfolding token_at
token_good b bs =
    if_either (Good (b ∷ bs)) (is_digit b) _ _ (number_good b bs)
    (λ d. if_either (Good (b ∷ bs)) (is_letter b) _ _ (word_good b bs d)
    (λ _. if_either (Good (b ∷ bs)) (b == 91) _ _ (λ e. subst (λ x. Good (x ∷ bs) (name_token_at bs)) (sym (eqb-true b 91 e)) (name_good bs))
    (λ _. if_either (Good (b ∷ bs)) (is_quote b) _ _ (quoted_good b bs)
    (λ _. sign_good b bs))))
