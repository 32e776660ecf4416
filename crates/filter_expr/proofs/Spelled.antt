-- The token that the lexer finds at the front is the one that is spelled there, and no other is.
use Rattle.std.proofs.Common.{◌≡◌, ◌≢◌, ℕ, ◌+◌, ◌^◌, ◌==◌, Bool, true, false, ◌||◌, ◌&&◌, nat_lt, if◌then◌else◌, IsTrue, List, [], ◌∷◌, ◌++◌, drop, take, length, Some, None, ◌⊎◌, inl, inr, refl, sym, ap, ◌∙◌, subst, arith, append_assoc, one-add, pos}
use Rattle.std.specs.Prelude.{codes}
use Rattle.std.specs.List.{prefix_len, list_all, list_any}
use Rattle.std.specs.Str.{bytes_eq}
use Rattle.std.proofs.lemmas.Bool.{eqb-true, lt-ltb, le-ltb, eq-eqb, cases_Bool, and_parts, and_from}
use Rattle.std.proofs.lemmas.List.{length-append}
use Rattle.plain_filters.specs.declared.CompareSign.TheVariants as «compare»
use Rattle.filter_expr.specs.declared.tokens.Token.{Token}
use Rattle.filter_expr.specs.declared.tokens.Token.TheVariants as token
use Rattle.farm_base.specs.Digits.{is_digit}
use Rattle.filter_expr.specs.Spelling.{is_letter, is_word_byte, is_quote, is_escaped, is_attribute_byte, IsDigits, digits_number, IsQuoting, SpellsToken, signs, begins_with, EndsBefore}
use Rattle.filter_expr.specs.Lexing.{Taken, nothing, number_token, number_token_at, word_token, word_at, name_token_at, longer, quoting_len, quoted_text, quoted_of, quoted_at, single, less_at, sign_at, first_byte, token_at}
use Rattle.filter_expr.proofs.Chains.{wrong}

pub if_either : {A : Type 0} (P : A → Type 0) (b : Bool) (x y : A) → (b ≡ true → P x) → (b ≡ false → P y) → P (if b then x else y)
if_either P true x y h g = h refl
if_either P false x y h g = g refl

-- ---- runs

-- the run stops here
abbrev pub StopsRun : (ℕ → Bool) → List ℕ → Type 0
StopsRun p [] = Unit {0}
StopsRun p (b ∷ bs) = p b ≡ false

run_exact : (p : ℕ → Bool) (w more : List ℕ) → list_all p w ≡ true → StopsRun p more → prefix_len p (w ++ more) ≡ length w
run_exact p [] [] h s = refl
run_exact p [] (b ∷ bs) h s = ap (λ t. if t then 1 + prefix_len p bs else 0) s
run_exact p (b ∷ w) more h s =
    ap (λ t. if t then 1 + prefix_len p (w ++ more) else 0) (and_parts (p b) (list_all p w) h).0
    ∙ ap (λ n. 1 + n) (run_exact p w more (and_parts (p b) (list_all p w) h).1 s) ∙ one-add (length w)

take_front : (w more : List ℕ) → take (length w) (w ++ more) ≡ w
take_front [] more = refl
take_front (b ∷ w) more = ap (λ l. b ∷ l) (take_front w more)

pub run_all : (p : ℕ → Bool) (l : List ℕ) → list_all p (take (prefix_len p l) l) ≡ true
run_all p [] = refl
run_all p (b ∷ bs) = by (p b) refl (run_all p bs)
  where
    by : (t : Bool) → p b ≡ t → list_all p (take (prefix_len p bs) bs) ≡ true → list_all p (take (if t then 1 + prefix_len p bs else 0) (b ∷ bs)) ≡ true
    by true e ih = rw (one-add (prefix_len p bs)) (and_from (p b) (list_all p (take (prefix_len p bs) bs)) e ih)
    by false e ih = refl

pub run_stops : (p : ℕ → Bool) (l : List ℕ) → StopsRun p (drop (prefix_len p l) l)
run_stops p [] = tt
run_stops p (b ∷ bs) = by (p b) refl (run_stops p bs)
  where
    by : (t : Bool) → p b ≡ t → StopsRun p (drop (prefix_len p bs) bs) → StopsRun p (drop (if t then 1 + prefix_len p bs else 0) (b ∷ bs))
    by true e ih = rw (one-add (prefix_len p bs)) ih
    by false e ih = e

pub run_first : (p : ℕ → Bool) (b : ℕ) (bs : List ℕ) → p b ≡ true → take (prefix_len p (b ∷ bs)) (b ∷ bs) ≡ b ∷ take (prefix_len p bs) bs
run_first p b bs e = ap (λ t. take (if t then 1 + prefix_len p bs else 0) (b ∷ bs)) e ∙ ap (λ n. take n (b ∷ bs)) (one-add (prefix_len p bs))

-- ---- where numbers and words end

digits_end : (us more : List ℕ) → begins_with is_digit us ≡ true → EndsBefore us more → StopsRun is_digit more
digits_end us [] d h = tt
digits_end us (c ∷ cs) d h = sym (ap (λ t. if t then is_digit c else (if begins_with is_letter us then is_word_byte c else list_any (bytes_eq (us ++ c ∷ [])) signs)) d) ∙ h

pub end_digits : (us more : List ℕ) → begins_with is_digit us ≡ true → StopsRun is_digit more → EndsBefore us more
end_digits us [] d h = tt
end_digits us (c ∷ cs) d h = ap (λ t. if t then is_digit c else (if begins_with is_letter us then is_word_byte c else list_any (bytes_eq (us ++ c ∷ [])) signs)) d ∙ h

words_end : (us more : List ℕ) → begins_with is_digit us ≡ false → begins_with is_letter us ≡ true → EndsBefore us more → StopsRun is_word_byte more
words_end us [] d l h = tt
words_end us (c ∷ cs) d l h =
    sym (ap (λ t. if t then is_digit c else (if begins_with is_letter us then is_word_byte c else list_any (bytes_eq (us ++ c ∷ [])) signs)) d
    ∙ ap (λ t. if t then is_word_byte c else list_any (bytes_eq (us ++ c ∷ [])) signs) l) ∙ h

pub end_words : (us more : List ℕ) → begins_with is_digit us ≡ false → begins_with is_letter us ≡ true → StopsRun is_word_byte more → EndsBefore us more
end_words us [] d l h = tt
end_words us (c ∷ cs) d l h =
    ap (λ t. if t then is_digit c else (if begins_with is_letter us then is_word_byte c else list_any (bytes_eq (us ++ c ∷ [])) signs)) d
    ∙ ap (λ t. if t then is_word_byte c else list_any (bytes_eq (us ++ c ∷ [])) signs) l ∙ h

-- ---- what is spelled is found

abbrev pub taken : Token → ℕ → Taken
taken t n = (t, n)

abbrev taken_digits : List ℕ → ℕ → Taken
taken_digits l n = (number_token l, n)

abbrev name_within : ℕ → List ℕ → Taken
name_within m bs = if nat_lt m (length bs) then (token.Name (take m bs), m + 2) else nothing

abbrev name_from : ℕ → List ℕ → Taken
name_from m bs = if m == 0 then nothing else name_within m bs

abbrev number_of_run : ℕ → List ℕ → Taken
number_of_run n l = (number_token (take n l), n)

pub record Found (t : Token) (us more : List ℕ) : Type 0 where
  pub at : ◌≡◌ {A = Taken} (token_at (us ++ more)) (t, length us)

digit_at : (b : ℕ) (bs : List ℕ) → is_digit b ≡ true → token_at (b ∷ bs) ≡ number_token_at (b ∷ bs)
unfolding token_at
digit_at b bs e = ap (λ (t : Bool). if t then number_token_at (b ∷ bs) else (if is_letter b then word_at (b ∷ bs) else (if b == 91 then name_token_at bs else (if is_quote b then quoted_at b bs else sign_at b (first_byte bs))))) e

digits_first : (us : List ℕ) → us ≢ [] → list_all is_digit us ≡ true → begins_with is_digit us ≡ true
digits_first [] n h = absurd (n refl)
digits_first (b ∷ us) n h = (and_parts (is_digit b) (list_all is_digit us) h).0

digits_found : (us more : List ℕ) (t : Token) → IsDigits us → EndsBefore us more → number_token us ≡ t → Found t us more
unfolding number_token_at
digits_found [] more t d e q = absurd (d.0 refl)
digits_found (b ∷ us) more t d e q = record {
  at =
      let first : is_digit b ≡ true = digits_first (b ∷ us) d.0 d.1 in
      let len : prefix_len is_digit ((b ∷ us) ++ more) ≡ length (b ∷ us) = run_exact is_digit (b ∷ us) more d.1 (digits_end (b ∷ us) more first e) in
      digit_at b (us ++ more) first
      ∙ ap (λ n. number_of_run n ((b ∷ us) ++ more)) len
      ∙ ap (λ l. taken_digits l (length (b ∷ us))) (take_front (b ∷ us) more) ∙ ap (λ x. taken x (length (b ∷ us))) q;
}

word_found : (w more : List ℕ) (t : Token) → begins_with is_digit w ≡ false → begins_with is_letter w ≡ true → list_all is_word_byte w ≡ true → word_token w ≡ t → EndsBefore w more →
    ◌≡◌ {A = Taken} (word_at (w ++ more)) (t, length w)
unfolding word_at
word_found w more t d l a q e =
    let len : prefix_len is_word_byte (w ++ more) ≡ length w = run_exact is_word_byte w more a (words_end w more d l e) in
    ap (λ n. taken (word_token (take n (w ++ more))) n) len ∙ ap (λ x. taken (word_token x) (length w)) (take_front w more) ∙ ap (λ x. taken x (length w)) q

pub not_equal : (a b : ℕ) → a ≢ b → (a == b) ≡ false
not_equal a b n = by (a == b) refl
  where
    by : (t : Bool) → (a == b) ≡ t → t ≡ false
    by true e = absurd (n (eqb-true a b e))
    by false e = refl

name_found : (n more : List ℕ) → n ≢ [] → list_all is_attribute_byte n ≡ true → ◌≡◌ {A = Taken} (name_token_at ((n ++ 93 ∷ []) ++ more)) (token.Name n, length n + 2)
unfolding name_token_at
name_found n more some all =
    ap (λ l. name_token_at l) (append_assoc n (93 ∷ []) more)
    ∙ ap (λ m. name_from m (n ++ 93 ∷ more)) (run_exact is_attribute_byte n (93 ∷ more) all refl)
    ∙ ap (λ b. if b then nothing else name_within (length n) (n ++ 93 ∷ more)) (not_zero n some)
    ∙ ap (λ b. if b then taken (token.Name (take (length n) (n ++ 93 ∷ more))) (length n + 2) else nothing)
    (lt-ltb (length n) (length (n ++ 93 ∷ more)) (omega (arith, length-append n (93 ∷ more))))
    ∙ ap (λ l. taken (token.Name l) (length n + 2)) (take_front n (93 ∷ more))
  where
    not_zero : (n : List ℕ) → n ≢ [] → (length n == 0) ≡ false
    not_zero [] h = absurd (h refl)
    not_zero (b ∷ bs) h = not_equal (length (b ∷ bs)) 0 (λ e. absurd (omega (arith, e)))

-- a quote is one of the two
pub quotes : (P : ℕ → Type 0) → P 39 → P 34 → (q : ℕ) → is_quote q ≡ true → P q
quotes P a b q h = by (cases_Bool (q == 39))
  where
    by : ((q == 39) ≡ true) ⊎ ((q == 39) ≡ false) → P q
    by (inl e) = subst P (sym (eqb-true q 39 e)) a
    by (inr e) = subst P (sym (eqb-true q 34 (sym (ap (λ t. t || q == 34) e) ∙ h))) b

-- a quoted text is read up to its closing quote, and its escapes are taken away
record Quoted (q : ℕ) (t vs more : List ℕ) : Type 0 where
  len : quoting_len q false (vs ++ q ∷ more) ≡ Some (length vs)
  text : quoted_text false vs ≡ t

quoted_empty : (q : ℕ) (more : List ℕ) → quoting_len q false (q ∷ more) ≡ Some 0
unfolding quoting_len
quoted_empty q more = ap (λ b. if b then Some 0 else (if q == 92 then longer (quoting_len q true more) else longer (quoting_len q false more))) (eq-eqb q q refl)

quoted_plain : (q c : ℕ) (cs vs more : List ℕ) → c ≢ q → c ≢ 92 → Quoted q cs vs more → Quoted q (c ∷ cs) (c ∷ vs) more
unfolding quoting_len quoted_text
quoted_plain q c cs vs more a b h = record {
  len =
      ap (λ t. if t then Some 0 else (if c == 92 then longer (quoting_len q true (vs ++ q ∷ more)) else longer (quoting_len q false (vs ++ q ∷ more)))) (not_equal c q a)
      ∙ ap (λ t. if t then longer (quoting_len q true (vs ++ q ∷ more)) else longer (quoting_len q false (vs ++ q ∷ more))) (not_equal c 92 b)
      ∙ ap longer h.len;
  text = ap (λ t. if t then quoted_text true vs else c ∷ quoted_text false vs) (not_equal c 92 b) ∙ ap (λ l. c ∷ l) h.text;
}

quoted_escape : (q c : ℕ) (cs vs more : List ℕ) → (q == 92) ≡ false → is_escaped c ≡ true → Quoted q cs vs more → Quoted q (c ∷ cs) (92 ∷ c ∷ vs) more
unfolding quoting_len quoted_text
quoted_escape q c cs vs more a b h = record {
  len =
      ap (λ t. if t then Some 0 else longer (if is_escaped c then longer (quoting_len q false (vs ++ q ∷ more)) else None)) (flip q a)
      ∙ ap (λ t. longer (if t then longer (quoting_len q false (vs ++ q ∷ more)) else None)) b
      ∙ ap (λ o. longer (longer o)) h.len;
  text = ap (λ l. c ∷ l) h.text;
}
  where
    flip : (n : ℕ) → (n == 92) ≡ false → (92 == n) ≡ false
    flip n e = not_equal 92 n (λ s. wrong (sym e ∙ eq-eqb n 92 (sym s)))

quoting_found : (q : ℕ) (t vs more : List ℕ) → is_quote q ≡ true → IsQuoting q t vs → Quoted q t vs more
unfolding quoted_text
quoting_found q [] vs more h p = subst (λ l. Quoted q [] l more) (sym p) record { len = quoted_empty q more; text = unescaped_none }
  where
    unescaped_none : quoted_text false [] ≡ []
    unescaped_none = refl
quoting_found q (c ∷ cs) vs more h p = by p.2 (quoting_found q cs p.0 more h p.1)
  where
    by : ((vs ≡ c ∷ p.0) × (c ≢ q) × (c ≢ 92)) ⊎ ((vs ≡ 92 ∷ c ∷ p.0) × IsTrue (is_escaped c)) → Quoted q cs p.0 more → Quoted q (c ∷ cs) vs more
    by (inl e) r = subst (λ l. Quoted q (c ∷ cs) l more) (sym e.0) (quoted_plain q c cs p.0 more e.1 e.2 r)
    by (inr e) r = subst (λ l. Quoted q (c ∷ cs) l more) (sym e.0) (quoted_escape q c cs p.0 more (quotes (λ c. (c == 92) ≡ false) refl refl q h) e.1 r)

quoted_found : (q : ℕ) (t vs more : List ℕ) → is_quote q ≡ true → IsQuoting q t vs → ◌≡◌ {A = Taken} (quoted_at q ((vs ++ q ∷ []) ++ more)) (token.Quoted t, length vs + 2)
unfolding quoted_at
quoted_found q t vs more h p =
    let r : Quoted q t vs more = quoting_found q t vs more h p in
    ap (λ l. quoted_of l (quoting_len q false l)) (append_assoc vs (q ∷ []) more)
    ∙ ap (λ o. quoted_of (vs ++ q ∷ more) o) r.len
    ∙ ap (λ l. taken (token.Quoted (quoted_text false l)) (length vs + 2)) (take_front vs (q ∷ more))
    ∙ ap (λ l. taken (token.Quoted l) (length vs + 2)) r.text

quote_first : (bs : List ℕ) (q : ℕ) → is_quote q ≡ true → token_at (q ∷ bs) ≡ quoted_at q bs
unfolding token_at
quote_first bs = quotes (λ q. token_at (q ∷ bs) ≡ quoted_at q bs) refl refl

-- ---- signs

none_of_two : (a b : Bool) → ((a && true) || ((b && true) || false)) ≡ false → (a ≡ false) × (b ≡ false)
none_of_two true b h = absurd (wrong (sym h))
none_of_two false true h = absurd (wrong (sym h))
none_of_two false false h = (refl, refl)

none_of_one : (a : Bool) → ((a && true) || false) ≡ false → a ≡ false
none_of_one true h = absurd (wrong (sym h))
none_of_one false h = refl

less_found : (more : List ℕ) → EndsBefore (codes "<") more → ◌≡◌ {A = Taken} (token_at (codes "<" ++ more)) (token.Compare compare.Less, 1)
unfolding token_at sign_at less_at
less_found [] h = refl
less_found (c ∷ cs) h =
    let no : ((c == 62) ≡ false) × ((c == 61) ≡ false) = none_of_two (c == 62) (c == 61) h in
    ap (λ (b : Bool). if b then taken (token.Compare compare.LessEqual) 2 else (if c == 62 then taken (token.Compare compare.Unequal) 2 else taken (token.Compare compare.Less) 1)) no.1
    ∙ ap (λ (b : Bool). if b then taken (token.Compare compare.Unequal) 2 else taken (token.Compare compare.Less) 1) no.0

greater_found : (more : List ℕ) → EndsBefore (codes ">") more → ◌≡◌ {A = Taken} (token_at (codes ">" ++ more)) (token.Compare compare.Greater, 1)
unfolding token_at sign_at
greater_found [] h = refl
greater_found (c ∷ cs) h = ap (λ (b : Bool). if b then taken (token.Compare compare.GreaterEqual) 2 else taken (token.Compare compare.Greater) 1) (none_of_one (c == 61) h)

not_found : (more : List ℕ) → EndsBefore (codes "!") more → ◌≡◌ {A = Taken} (token_at (codes "!" ++ more)) (token.Not, 1)
unfolding token_at sign_at
not_found [] h = refl
not_found (c ∷ cs) h = ap (λ (b : Bool). if b then taken (token.Compare compare.Unequal) 2 else taken token.Not 1) (none_of_one (c == 61) h)

-- ---- all tokens

found_at : (t : Token) (w us more : List ℕ) → us ≡ w → (EndsBefore w more → ◌≡◌ {A = Taken} (token_at (w ++ more)) (t, length w)) → EndsBefore us more → Found t us more
found_at t w us more q h e = subst (λ l. Found t l more) (sym q) record { at = h (subst (λ l. EndsBefore l more) q e) }

either_found : (t : Token) (v w us more : List ℕ) → (us ≡ v) ⊎ (us ≡ w) → (EndsBefore v more → ◌≡◌ {A = Taken} (token_at (v ++ more)) (t, length v)) →
    (EndsBefore w more → ◌≡◌ {A = Taken} (token_at (w ++ more)) (t, length w)) → EndsBefore us more → Found t us more
either_found t v w us more (inl q) f g e = found_at t v us more q f e
either_found t v w us more (inr q) f g e = found_at t w us more q g e

pub token_complete : (t : Token) (us more : List ℕ) → SpellsToken t us → EndsBefore us more → Found t us more
unfolding token_at word_token sign_at less_at single number_token
token_complete (token.Name n) us more s e =
    subst (λ l. Found (token.Name n) l more) (sym s.0) record { at = name_found n more s.1 s.2 ∙ ap (λ m. taken (token.Name n) m) (name_length n) }
  where
    name_length : (n : List ℕ) → length n + 2 ≡ length (91 ∷ (n ++ 93 ∷ []))
    name_length n = omega (arith, length-append n (93 ∷ []))
token_complete (token.Quoted t) us more s e =
    subst (λ l. Found (token.Quoted t) l more) (sym s.2) record {
      at = quote_first ((s.1 ++ s.0 ∷ []) ++ more) s.0 s.3 ∙ quoted_found s.0 t s.1 more s.3 s.4 ∙ ap (λ m. taken (token.Quoted t) m) (omega (arith, length-append s.1 (s.0 ∷ [])));
    }
token_complete (token.Number z) us more s e = digits_found us more (token.Number z) s.0 e
    (ap (λ (b : Bool). if b then token.Number (pos (digits_number us)) else token.OutOfRange) (lt-ltb (digits_number us) (2 ^ 63) s.2) ∙ ap token.Number (sym s.1))
token_complete token.OutOfRange us more s e = digits_found us more token.OutOfRange s.0 e
    (ap (λ (b : Bool). if b then token.Number (pos (digits_number us)) else token.OutOfRange) (le-ltb (digits_number us) (2 ^ 63) s.1))
token_complete token.True us more s e = found_at token.True (codes "true") us more s (word_found (codes "true") more token.True refl refl refl refl) e
token_complete token.False us more s e = found_at token.False (codes "false") us more s (word_found (codes "false") more token.False refl refl refl refl) e
token_complete token.Null us more s e = found_at token.Null (codes "null") us more s (word_found (codes "null") more token.Null refl refl refl refl) e
token_complete token.And us more s e =
    either_found token.And (codes "and") (codes "&&") us more s (word_found (codes "and") more token.And refl refl refl refl) (λ _. refl) e
token_complete token.Or us more s e =
    either_found token.Or (codes "or") (codes "||") us more s (word_found (codes "or") more token.Or refl refl refl refl) (λ _. refl) e
token_complete token.Not us more s e =
    either_found token.Not (codes "not") (codes "!") us more s (word_found (codes "not") more token.Not refl refl refl refl) (not_found more) e
token_complete (token.Compare compare.Equal) us more s e = found_at (token.Compare compare.Equal) (codes "=") us more s (λ _. refl) e
token_complete (token.Compare compare.Unequal) us more s e = either_found (token.Compare compare.Unequal) (codes "!=") (codes "<>") us more s (λ _. refl) (λ _. refl) e
token_complete (token.Compare compare.Less) us more s e = found_at (token.Compare compare.Less) (codes "<") us more s (less_found more) e
token_complete (token.Compare compare.LessEqual) us more s e = found_at (token.Compare compare.LessEqual) (codes "<=") us more s (λ _. refl) e
token_complete (token.Compare compare.Greater) us more s e = found_at (token.Compare compare.Greater) (codes ">") us more s (greater_found more) e
token_complete (token.Compare compare.GreaterEqual) us more s e = found_at (token.Compare compare.GreaterEqual) (codes ">=") us more s (λ _. refl) e
token_complete token.Plus us more s e = found_at token.Plus (codes "+") us more s (λ _. refl) e
token_complete token.Minus us more s e = found_at token.Minus (codes "-") us more s (λ _. refl) e
token_complete token.Times us more s e = found_at token.Times (codes "*") us more s (λ _. refl) e
token_complete token.Divide us more s e = found_at token.Divide (codes "/") us more s (λ _. refl) e
token_complete token.Rest us more s e = found_at token.Rest (codes "%") us more s (λ _. refl) e
token_complete token.Open us more s e = found_at token.Open (codes "(") us more s (λ _. refl) e
token_complete token.Close us more s e = found_at token.Close (codes ")") us more s (λ _. refl) e
token_complete token.End us more s e = absurd s
token_complete token.Unknown us more s e = absurd s
