-- A filter that was written is read as that filter again.
use Rattle.std.proofs.Common.{◌≡◌, ◌≢◌, ℕ, suc, ◌+◌, ◌-◌, ◌*◌, ◌/◌, ◌%◌, ◌^◌, ◌≤◌, ◌<◌, ◌==◌, Bool, true, false, ◌||◌, ◌&&◌, nat_lt, if◌then◌else◌, IsTrue, pos, List, [], ◌∷◌, ◌++◌, length, ◌⊎◌, inl, inr, refl, sym, ap, ◌∙◌, subst, arith, append_assoc, add-zero, zero-add}
use Rattle.std.specs.List.{list_all}
use Rattle.std.specs.Fmt.{signed_decimal, decimal}
use Rattle.std.proofs.lemmas.Bool.{ltb-false, le-ltb, eq-eqb, cases_Bool, and_parts}
use Rattle.std.proofs.lemmas.List.{append-nil, length-append}
use Rattle.std.proofs.lemmas.Fmt.{decimal_by_steps}
use Rattle.std.proofs.lemmas.Bool.Decides.{nat_tests}
use Rattle.plain_filters.specs.declared.CompareSign.{CompareSign}
use Rattle.plain_filters.specs.declared.CompareSign.TheVariants as «compare»
use Rattle.plain_filters.specs.declared.SumSign.{SumSign}
use Rattle.plain_filters.specs.declared.SumSign.TheVariants as sum
use Rattle.plain_filters.specs.declared.ProductSign.{ProductSign}
use Rattle.plain_filters.specs.declared.ProductSign.TheVariants as product
use Rattle.plain_filters.specs.Filters.{FilterTree, FilterTrees, SumTrees, ProductTrees, tree_of}
use Rattle.filter_expr.specs.declared.tokens.Token.{Token}
use Rattle.filter_expr.specs.declared.tokens.Token.TheVariants as token
use Rattle.filter_expr.specs.declared.tokens.PlacedToken.{PlacedToken}
use Rattle.filter_expr.specs.Signs.{is_leaf}
use Rattle.farm_base.specs.Digits.{is_digit, number_after}
use Rattle.filter_expr.specs.Spelling.{IsDigits, digits_number, IsQuoting, SpellsToken, begins_with, EndsBefore, AreTokens, TokensOf}
use Rattle.filter_expr.specs.Spelled.{Spelled, Parts, Sums, Products, or_form, and_form, not_form, compare_form, sum_form, product_form, negate_form, parens_form, name_form, text_form, number_form, out_of_range_form, true_form, false_form, null_form, parts_end, parts_then, sums_end, sums_then, products_end, products_then, sum_token, product_token}
use Rattle.filter_expr.specs.Filters.{tokens, FilterOf}
use Rattle.filter_texts.specs.Written.{escaped_text, spelling, strength, in_place, tokens_in, later_tokens, sum_tokens, product_tokens, put_tokens, filter_text, ReadsAgain, AnswersAgain, IsKnownByText}
use Rattle.filter_expr.proofs.Forms.{head_same, tail_same, looser}
use Rattle.filter_expr.proofs.Chains.{wrong}
use Rattle.filter_expr.proofs.Spelled.{end_digits}
use Rattle.filter_expr.proofs.Lexemes.{bracket_ends, quote_ends}
use Rattle.filter_expr.proofs.Tokenised.{first_solid, Rest}
use Rattle.filter_expr.proofs.Final.{tokens_both}
use Rattle.filter_expr.proofs.Texts.{answers_tree, one_filter}

-- ---- what is written spells the filter

-- with its own strength the filter is spelled by what is written of it; where it binds too weakly for its place there is room for parentheses
abbrev Writes : Bool → ℕ → ℕ → FilterTree → Type 0
Writes w l d t =
    ((l ≤ strength t) × Spelled w (strength t) d t (tokens_in t)) ⊎ ((c : ℕ) × (suc c ≤ d) × Spelled w (strength t) c t (tokens_in t))

in_parens : {w : Bool} (l d c : ℕ) (t : FilterTree) → suc c ≤ d → Spelled w (strength t) c t (tokens_in t) → Spelled w l d t (token.Open ∷ (tokens_in t ++ token.Close ∷ []))
in_parens l d c t h p = looser {l = l} (λ x. x) (omega arith) h (parens_form (looser (λ x. x) (omega arith) (omega arith) p))

placed : {w : Bool} {l d : ℕ} {t : FilterTree} → Writes w l d t → Spelled w l d t (in_place l t (tokens_in t))
placed {w = w} {l = l} {d = d} {t = t} a = by (nat_lt (strength t) l) refl a
  where
    by : (b : Bool) → nat_lt (strength t) l ≡ b → Writes w l d t → Spelled w l d t (if b then token.Open ∷ (tokens_in t ++ token.Close ∷ []) else tokens_in t)
    by true e (inl x) = absurd (wrong (sym (le-ltb (strength t) l x.0) ∙ e))
    by true e (inr x) = in_parens l d x.0 t x.1 x.2
    by false e (inl x) = looser (λ y. y) x.0 (omega arith) x.1
    by false e (inr x) = looser (λ y. y) (ltb-false (strength t) l e) (omega (arith, x.1)) x.2

enclosed : {w : Bool} {l d : ℕ} {t : FilterTree} → Writes w 0 d t → Writes w l (suc d) t
enclosed {d = d} (inl x) = inr (d, omega arith, x.1)
enclosed (inr x) = inr (x.0, omega (arith, x.1), x.2)

mutual
  writes : {w : Bool} {l d : ℕ} {t : FilterTree} {us : List Token} → l ≤ 7 → Spelled w l d t us → Writes w l d t
  writes h (or_form le p q) = inl (le, or_form (omega arith) (placed (writes (omega arith) p)) (writes_parts (omega arith) q))
  writes h (and_form le p q) = inl (le, and_form (omega arith) (placed (writes (omega arith) p)) (writes_parts (omega arith) q))
  writes h (not_form le p) = inl (le, not_form (omega arith) (placed (writes (omega arith) p)))
  writes h (compare_form le p q) = inl (le, compare_form (omega arith) (placed (writes (omega arith) p)) (placed (writes (omega arith) q)))
  writes h (sum_form le p q) = inl (le, sum_form (omega arith) (placed (writes (omega arith) p)) (writes_sums q))
  writes h (product_form le p q) = inl (le, product_form (omega arith) (placed (writes (omega arith) p)) (writes_products q))
  writes h (negate_form le p) = inl (le, negate_form (omega arith) (placed (writes (omega arith) p)))
  writes h (parens_form p) = enclosed (writes (omega arith) p)
  writes h (name_form s) = inl (h, name_form s)
  writes h (text_form s) = inl (h, text_form s)
  writes h (number_form z) = inl (h, number_form z)
  writes h (out_of_range_form z b) = inl (h, number_form z)
  writes h true_form = inl (h, true_form)
  writes h false_form = inl (h, false_form)
  writes h null_form = inl (h, null_form)

  writes_parts : {w : Bool} {s : Token} {l d : ℕ} {ts : FilterTrees} {us : List Token} → l ≤ 7 → Parts w s l d ts us → Parts w s l d ts (later_tokens s l ts)
  writes_parts h parts_end = parts_end
  writes_parts h (parts_then p q) = parts_then (placed (writes h p)) (writes_parts h q)

  writes_sums : {w : Bool} {d : ℕ} {ts : SumTrees} {us : List Token} → Sums w d ts us → Sums w d ts (sum_tokens ts)
  writes_sums sums_end = sums_end
  writes_sums (sums_then p q) = sums_then (placed (writes (omega arith) p)) (writes_sums q)

  writes_products : {w : Bool} {d : ℕ} {ts : ProductTrees} {us : List Token} → Products w d ts us → Products w d ts (product_tokens ts)
  writes_products products_end = products_end
  writes_products (products_then p q) = products_then (placed (writes (omega arith) p)) (writes_products q)

-- ---- what can be said

-- the token is spelled as it is written
abbrev Said : Token → Type 0
Said t = SpellsToken t (spelling t)

abbrev AllSaid : List Token → Type 0
AllSaid [] = Unit {0}
AllSaid (t ∷ ts) = Said t × AllSaid ts

said_both : (ts us : List Token) → AllSaid ts → AllSaid us → AllSaid (ts ++ us)
said_both [] us h g = g
said_both (t ∷ ts) us h g = (h.0, said_both ts us h.1 g)

-- a text's escapes
quoting : (bs : List ℕ) → IsQuoting 39 bs (escaped_text bs)
quoting [] = refl
quoting (b ∷ bs) = (escaped_text bs, quoting bs, by (b == 39 || b == 92) refl)
  where
    either_escaped : (b == 39 || b == 92) ≡ true → IsTrue (b == 92 || (b == 39 || b == 34))
    either_escaped e = one (cases_Bool (b == 92))
      where
        one : ((b == 92) ≡ true) ⊎ ((b == 92) ≡ false) → (b == 92 || (b == 39 || b == 34)) ≡ true
        one (inl q) = ap (λ x. x || (b == 39 || b == 34)) q
        one (inr q) = two (cases_Bool (b == 39))
          where
            two : ((b == 39) ≡ true) ⊎ ((b == 39) ≡ false) → (b == 92 || (b == 39 || b == 34)) ≡ true
            two (inl r) = ap (λ x. x || (b == 39 || b == 34)) q ∙ ap (λ x. x || b == 34) r
            two (inr r) = absurd (wrong (sym (ap (λ x. x || b == 92) r ∙ q) ∙ e))

    apart : (n : ℕ) → (b == n) ≡ false → b ≢ n
    apart n e s = wrong (sym e ∙ eq-eqb b n s)

    first : (b == 39 || b == 92) ≡ false → (b == 39) ≡ false
    first e = one (cases_Bool (b == 39))
      where
        one : ((b == 39) ≡ true) ⊎ ((b == 39) ≡ false) → (b == 39) ≡ false
        one (inl q) = absurd (wrong (sym e ∙ ap (λ x. x || b == 92) q))
        one (inr q) = q

    by : (t : Bool) → (b == 39 || b == 92) ≡ t →
        (((if t then 92 ∷ b ∷ escaped_text bs else b ∷ escaped_text bs) ≡ b ∷ escaped_text bs) × (b ≢ 39) × (b ≢ 92))
        ⊎ (((if t then 92 ∷ b ∷ escaped_text bs else b ∷ escaped_text bs) ≡ 92 ∷ b ∷ escaped_text bs) × IsTrue (b == 92 || (b == 39 || b == 34)))
    by true e = inr (refl, either_escaped e)
    by false e = inl (refl, apart 39 (first e), apart 92 (sym (ap (λ x. x || b == 92) (first e)) ∙ e))

-- a number's digits
record Digits (n : ℕ) (ds : List ℕ) : Type 0 where
  some : 0 < length ds
  digits : list_all is_digit ds ≡ true
  value : digits_number ds ≡ n

list_all_both : (p : ℕ → Bool) (xs ys : List ℕ) → list_all p xs ≡ true → list_all p ys ≡ true → list_all p (xs ++ ys) ≡ true
list_all_both p [] ys h g = g
list_all_both p (x ∷ xs) ys h g =
    let b = and_parts (p x) (list_all p xs) h in
    ap (λ t. t && list_all p (xs ++ ys)) b.0 ∙ list_all_both p xs ys b.1 g

number_push : (n : ℕ) (ds : List ℕ) (d : ℕ) → number_after n (ds ++ d ∷ []) ≡ 10 * number_after n ds + (d - 48)
number_push n [] d = refl
number_push n (c ∷ ds) d = number_push (10 * n + (c - 48)) ds d

decimal_digits : (n : ℕ) → n < 2 ^ 64 → Digits n (decimal n)
decimal_digits n h = decimal_by_steps Digits one more n h
  where
    one : (n : ℕ) → n < 10 → Digits n ((48 + n) ∷ [])
    one n h = record { some = omega arith; digits = grind (arith, nat_tests); value = omega arith }

    more : (n : ℕ) (ds : List ℕ) → 10 ≤ n → Digits (n / 10) ds → Digits n (ds ++ ((48 + n % 10) ∷ []))
    more n ds h d = record {
      some = omega (arith, d.some, length-append ds ((48 + n % 10) ∷ []));
      digits = list_all_both is_digit ds ((48 + n % 10) ∷ []) d.digits (grind (arith, nat_tests));
      value = number_push 0 ds (48 + n % 10) ∙ ap (λ m. 10 * m + ((48 + n % 10) - 48)) d.value ∙ omega arith;
    }

some_list : (ds : List ℕ) → 0 < length ds → ds ≢ []
some_list [] h = absurd (omega (arith, h))
some_list (d ∷ ds) h = λ e. wrong (ap (begins_with (λ _. true)) (sym e))

number_said : (n : ℕ) → n < 2 ^ 63 → Said (token.Number (pos n))
number_said n h =
    let d : Digits n (decimal n) = decimal_digits n (omega (arith, h)) in
    ((some_list (decimal n) d.some, d.digits), ap pos (sym d.value), omega (arith, d.value, h))

-- what some bytes spell can be written
said : (t : Token) (us : List ℕ) → SpellsToken t us → is_leaf t ≡ true → Said t
said (token.Name n) us s e = (refl, s.1, s.2)
said (token.Quoted t) us s e = (39, escaped_text t, refl, refl, quoting t)
said (token.Number z) us s e = subst (λ x. Said (token.Number x)) (sym s.1) (number_said (digits_number us) s.2)
said token.True us s e = refl
said token.False us s e = refl
said token.Null us s e = refl
said _ us s e = absurd (wrong e)

sum_said : (c : SumSign) → Said (sum_token c)
sum_said sum.Plus = refl
sum_said sum.Minus = refl

product_said : (c : ProductSign) → Said (product_token c)
product_said product.Times = refl
product_said product.Divide = refl
product_said product.Rest = refl

compare_said : (c : CompareSign) → Said (token.Compare c)
compare_said compare.Equal = refl
compare_said compare.Unequal = inl refl
compare_said compare.Less = refl
compare_said compare.LessEqual = refl
compare_said compare.Greater = refl
compare_said compare.GreaterEqual = refl

-- each token of the list is spelled somewhere
abbrev Heard : List Token → Type 0
Heard [] = Unit {0}
Heard (u ∷ us) = ((bs : List ℕ) × SpellsToken u bs) × Heard us

heard_first : (us vs : List Token) → Heard (us ++ vs) → Heard us
heard_first [] vs h = tt
heard_first (u ∷ us) vs h = (h.0, heard_first us vs h.1)

heard_second : (us vs : List Token) → Heard (us ++ vs) → Heard vs
heard_second [] vs h = h
heard_second (u ∷ us) vs h = heard_second us vs h.1

said_in_place : (l : ℕ) (t : FilterTree) → AllSaid (tokens_in t) → AllSaid (in_place l t (tokens_in t))
said_in_place l t h = by (nat_lt (strength t) l)
  where
    by : (b : Bool) → AllSaid (if b then token.Open ∷ (tokens_in t ++ token.Close ∷ []) else tokens_in t)
    by true = (refl, said_both (tokens_in t) (token.Close ∷ []) h (refl, tt))
    by false = h

-- a filter in its place, and what is written behind it
said_then : (l : ℕ) (t : FilterTree) (more : List Token) → AllSaid (tokens_in t) → AllSaid more → AllSaid (in_place l t (tokens_in t) ++ more)
said_then l t more h g = said_both (in_place l t (tokens_in t)) more (said_in_place l t h) g

mutual
  all_said : {l d : ℕ} {t : FilterTree} {us : List Token} → Spelled false l d t us → Heard us → AllSaid (tokens_in t)
  all_said (or_form {s = s} {us = us} {vs = vs} le p q) h = said_then 1 s _ (all_said p (heard_first us vs h)) (parts_said q (inl refl) (heard_second us vs h))
  all_said (and_form {s = s} {us = us} {vs = vs} le p q) h = said_then 2 s _ (all_said p (heard_first us vs h)) (parts_said q (inl refl) (heard_second us vs h))
  all_said (not_form {t = t} le p) h = (inl refl, said_in_place 2 t (all_said p h.1))
  all_said (compare_form {s = s} {t = t} {c = c} {us = us} {vs = vs} le p q) h =
      said_then 4 s _ (all_said p (heard_first us (token.Compare c ∷ vs) h)) (compare_said c, said_in_place 4 t (all_said q (heard_second us (token.Compare c ∷ vs) h).1))
  all_said (sum_form {s = s} {us = us} {vs = vs} le p q) h = said_then 5 s _ (all_said p (heard_first us vs h)) (sums_said q (heard_second us vs h))
  all_said (product_form {s = s} {us = us} {vs = vs} le p q) h = said_then 6 s _ (all_said p (heard_first us vs h)) (products_said q (heard_second us vs h))
  all_said (negate_form {t = t} le p) h = (refl, said_in_place 6 t (all_said p h.1))
  all_said (parens_form {us = us} p) h = all_said p (heard_first us (token.Close ∷ []) h.1)
  all_said (name_form s) h = (said (token.Name s) h.0.0 h.0.1 refl, tt)
  all_said (text_form s) h = (said (token.Quoted s) h.0.0 h.0.1 refl, tt)
  all_said (number_form z) h = (said (token.Number z) h.0.0 h.0.1 refl, tt)
  all_said (out_of_range_form z b) h = absurd (wrong b)
  all_said true_form h = (refl, tt)
  all_said false_form h = (refl, tt)
  all_said null_form h = (refl, tt)

  parts_said : {s : Token} {l d : ℕ} {ts : FilterTrees} {us : List Token} → Parts false s l d ts us → Said s → Heard us → AllSaid (later_tokens s l ts)
  parts_said parts_end e h = tt
  parts_said (parts_then {n = l} {t = t} {us = us} {vs = vs} p q) e h = (e, said_then l t _ (all_said p (heard_first us vs h.1)) (parts_said q e (heard_second us vs h.1)))

  sums_said : {d : ℕ} {ts : SumTrees} {us : List Token} → Sums false d ts us → Heard us → AllSaid (sum_tokens ts)
  sums_said sums_end h = tt
  sums_said (sums_then {t = t} {c = c} {us = us} {vs = vs} p q) h = (sum_said c, said_then 5 t _ (all_said p (heard_first us vs h.1)) (sums_said q (heard_second us vs h.1)))

  products_said : {d : ℕ} {ts : ProductTrees} {us : List Token} → Products false d ts us → Heard us → AllSaid (product_tokens ts)
  products_said products_end h = tt
  products_said (products_then {t = t} {c = c} {us = us} {vs = vs} p q) h = (product_said c, said_then 6 t _ (all_said p (heard_first us vs h.1)) (products_said q (heard_second us vs h.1)))

-- ---- tokens with spaces between them

abbrev tail_of : List Token → List ℕ
tail_of [] = []
tail_of (t ∷ ts) = 32 ∷ (spelling t ++ tail_of ts)

put_tail : (b : ℕ) (bs : List ℕ) (ts : List Token) → put_tokens (b ∷ bs) ts ≡ (b ∷ bs) ++ tail_of ts
put_tail b bs [] = sym (append-nil (b ∷ bs))
put_tail b bs (t ∷ ts) = put_tail b (bs ++ 32 ∷ spelling t) ts ∙ ap (λ l. b ∷ l) (append_assoc bs (32 ∷ spelling t) (tail_of ts))

abbrev stream_after : ℕ → List Token → List PlacedToken
stream_after at [] = []
stream_after at (t ∷ ts) = record { token = t; offset = at + 1 } ∷ stream_after (at + 1 + length (spelling t)) ts

abbrev end_after : ℕ → List Token → ℕ
end_after at [] = at
end_after at (t ∷ ts) = end_after (at + 1 + length (spelling t)) ts

abbrev end_at : ℕ → PlacedToken
end_at at = record { token = token.End; offset = at }

digits_begin : (us : List ℕ) → IsDigits us → begins_with is_digit us ≡ true
digits_begin [] d = absurd (d.0 refl)
digits_begin (b ∷ us) d = (and_parts (is_digit b) (list_all is_digit us) d.1).0

-- a space ends each spelling
ends_at_space : (t : Token) → Said t → (more : List ℕ) → EndsBefore (spelling t) (32 ∷ more)
ends_at_space (token.Name n) s more = bracket_ends (n ++ 93 ∷ []) (32 ∷ more)
ends_at_space (token.Quoted t) s more = quote_ends 39 (escaped_text t ++ 39 ∷ []) (32 ∷ more) refl
ends_at_space (token.Number z) s more = end_digits (signed_decimal z) (32 ∷ more) (digits_begin (signed_decimal z) s.0) refl
ends_at_space token.OutOfRange s more = refl
ends_at_space token.True s more = refl
ends_at_space token.False s more = refl
ends_at_space token.Null s more = refl
ends_at_space token.And s more = refl
ends_at_space token.Or s more = refl
ends_at_space token.Not s more = refl
ends_at_space (token.Compare compare.Equal) s more = refl
ends_at_space (token.Compare compare.Unequal) s more = refl
ends_at_space (token.Compare compare.Less) s more = refl
ends_at_space (token.Compare compare.LessEqual) s more = refl
ends_at_space (token.Compare compare.Greater) s more = refl
ends_at_space (token.Compare compare.GreaterEqual) s more = refl
ends_at_space token.Plus s more = refl
ends_at_space token.Minus s more = refl
ends_at_space token.Times s more = refl
ends_at_space token.Divide s more = refl
ends_at_space token.Rest s more = refl
ends_at_space token.Open s more = refl
ends_at_space token.Close s more = refl
ends_at_space token.End s more = absurd s
ends_at_space token.Unknown s more = absurd s

ends_before_tail : (t : Token) → Said t → (ts : List Token) → EndsBefore (spelling t) (tail_of ts)
ends_before_tail t s [] = tt
ends_before_tail t s (u ∷ ts) = ends_at_space t s (spelling u ++ tail_of ts)

tail_tokens : (ts : List Token) (at : ℕ) → AllSaid ts → AreTokens at (tail_of ts) (stream_after at ts ++ end_at (end_after at ts) ∷ [])
tail_tokens [] at h = ([], [], [], refl, refl, sym (add-zero at), inr (refl, refl, inl (refl, refl)))
tail_tokens (t ∷ ts) at h =
    (32 ∷ [], spelling t, tail_of ts, refl, refl, refl, inl ((h.0, ends_before_tail t h.0 ts), tail_tokens ts (at + 1 + length (spelling t)) h.1))

tokens_mapped : (ts : List Token) (at : ℕ) → tokens (stream_after at ts) ≡ ts
tokens_mapped [] at = refl
tokens_mapped (t ∷ ts) at = ap (λ us. t ∷ us) (tokens_mapped ts (at + 1 + length (spelling t)))

-- the tokens of what was written
record Lexed (ts : List Token) : Type 0 where
  stream : List PlacedToken
  last : PlacedToken
  lexed : TokensOf (put_tokens [] ts) (stream ++ last ∷ [])
  end : last.token ≡ token.End
  are : tokens stream ≡ ts

put_first : (us : List ℕ) (ts : List Token) → us ≢ [] → put_tokens us ts ≡ us ++ tail_of ts
put_first [] ts n = absurd (n refl)
put_first (b ∷ bs) ts n = put_tail b bs ts

lexed_written : (ts : List Token) → AllSaid ts → Lexed ts
lexed_written [] h = record { stream = []; last = end_at 0; lexed = tail_tokens [] 0 tt; end = refl; are = refl }
lexed_written (t ∷ ts) h = record {
  stream = record { token = t; offset = 0 } ∷ stream_after (length (spelling t)) ts;
  last = end_at (end_after (length (spelling t)) ts);
  lexed = (
    [],
    spelling t,
    tail_of ts,
    put_first (spelling t) ts (first_solid t (spelling t) h.0).0,
    refl,
    refl,
    inl (
      (h.0, ends_before_tail t h.0 ts),
      subst (λ k. AreTokens k (tail_of ts) (stream_after (length (spelling t)) ts ++ end_at (end_after (length (spelling t)) ts) ∷ [])) (sym (zero-add (length (spelling t)))) (tail_tokens ts (length (spelling t)) h.1),
    ),
  );
  end = refl;
  are = ap (λ us. t ∷ us) (tokens_mapped ts (length (spelling t)));
}

-- ---- the filter again

no_tokens : (us : List Token) (z : Token) → [] ≡ us ++ z ∷ [] → ⊥
no_tokens [] z e = cc
no_tokens (u ∷ us) z e = cc

-- the tokens before the end of a text are all spelled in it
tokens_heard : (us : List Token) (ts : List PlacedToken) (at : ℕ) (bs : List ℕ) → AreTokens at bs ts → tokens ts ≡ us ++ token.End ∷ [] → Heard us
tokens_heard [] ts at bs h e = tt
tokens_heard (u ∷ us) [] at bs h e = absurd h
tokens_heard (u ∷ us) (s ∷ ts) at bs h e = by h.6 (λ k l a. tokens_heard us ts k l a (tail_same s.token u (tokens ts) (us ++ token.End ∷ []) e))
  where
    by : Rest (at + length h.0) h.1 h.2 s ts → ((k : ℕ) (l : List ℕ) → AreTokens k l ts → Heard us) → Heard (u ∷ us)
    by (inl r) ih = ((h.1, subst (λ x. SpellsToken x h.1) (head_same s.token u (tokens ts) (us ++ token.End ∷ []) e) r.0.0), ih (at + length h.0 + length h.1) h.2 r.1)
    by (inr r) ih = absurd (no_tokens us token.End (ap (λ l. tokens l) (sym r.0) ∙ tail_same s.token u (tokens ts) (us ++ token.End ∷ []) e))

pub written_again : ReadsAgain
written_again text t f =
    let p : Spelled false 0 64 t f.2.0 = f.2.2 in
    let l : Lexed (tokens_in t) = lexed_written (tokens_in t) (all_said p (tokens_heard f.2.0 f.0 0 text f.1 f.2.1)) in (
      l.stream ++ l.last ∷ [],
      l.lexed,
      (
        tokens_in t,
        tokens_both l.stream (l.last ∷ []) ∙ ap (λ us. us ++ l.last.token ∷ []) l.are ∙ ap (λ u. tokens_in t ++ u ∷ []) l.end,
        unguarded (writes (omega arith) p),
      ),
    )
  where
    unguarded : Writes false 0 64 t → Spelled false 0 64 t (tokens_in t)
    unguarded (inl x) = looser (λ y. y) (omega arith) (omega arith) x.1
    unguarded (inr x) = looser (λ y. y) (omega arith) (omega (arith, x.1)) x.2

-- ---- what follows

pub answered_again : AnswersAgain
answered_again text e m r n = answers_tree (filter_text (tree_of e)) r n (tree_of e) (written_again text (tree_of e) m)

pub known_by_text : IsKnownByText
known_by_text a b s t f g same = one_filter (filter_text s) s t (written_again a s f) (subst (λ w. FilterOf w t) (sym same) (written_again b t g))
