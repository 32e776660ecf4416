-- What holds of all that is spelled: it may stand where less is asked for, how it begins, and that no token in it ends a text.
use Rattle.std.proofs.Common.{◌≡◌, ℕ, zero, suc, ◌≤◌, Bool, true, false, ◌||◌, List, [], ◌∷◌, ◌++◌, refl, arith}
use Rattle.plain_filters.specs.declared.SumSign.{SumSign}
use Rattle.plain_filters.specs.declared.SumSign.TheVariants as sum
use Rattle.plain_filters.specs.declared.ProductSign.{ProductSign}
use Rattle.plain_filters.specs.declared.ProductSign.TheVariants as product
use Rattle.plain_filters.specs.Filters.{FilterTree, FilterTrees, SumTrees, ProductTrees}
use Rattle.filter_expr.specs.declared.tokens.Token.{Token}
use Rattle.filter_expr.specs.declared.tokens.Token.TheVariants as token
use Rattle.filter_expr.specs.Signs.{Kind, or_chain, and_chain, sum_chain, product_chain, is_not, is_minus, is_sum_sign, is_product_sign, is_end, is_unknown}
use Rattle.filter_expr.specs.Reading.{sum_sign_of, product_sign_of}
use Rattle.filter_expr.specs.Spelled.{Spelled, Parts, Sums, Products, or_form, and_form, not_form, compare_form, sum_form, product_form, negate_form, parens_form, name_form, text_form, number_form, out_of_range_form, true_form, false_form, null_form, parts_end, parts_then, sums_end, sums_then, products_end, products_then, sum_token, product_token}

-- ---- lists

pub head_same : {A : Type 0} (x y : A) (xs ys : List A) → x ∷ xs ≡ y ∷ ys → x ≡ y
head_same x y xs ys e = cc

pub tail_same : {A : Type 0} (x y : A) (xs ys : List A) → x ∷ xs ≡ y ∷ ys → xs ≡ ys
tail_same x y xs ys e = cc

-- ---- strengths

-- how strongly the signs of a chain bind its parts
abbrev pub kind_strength : Kind → ℕ
kind_strength or_chain = 0
kind_strength and_chain = 1
kind_strength sum_chain = 4
kind_strength product_chain = 5

-- ---- where less is asked for, more is open, or any number fits

mutual
  pub looser : {w v : Bool} {l m d e : ℕ} {t : FilterTree} {us : List Token} → (w ≡ true → v ≡ true) → m ≤ l → d ≤ e → Spelled w l d t us → Spelled v m e t us
  looser g h k (or_form le p q) = or_form (omega (arith, h, le)) (looser g (omega arith) k p) (looser_parts g k q)
  looser g h k (and_form le p q) = and_form (omega (arith, h, le)) (looser g (omega arith) k p) (looser_parts g k q)
  looser {e = zero} g h k (not_form le p) = absurd (omega (arith, k))
  looser {e = suc e} g h k (not_form le p) = not_form (omega (arith, h, le)) (looser g (omega arith) (omega (arith, k)) p)
  looser g h k (compare_form le p q) = compare_form (omega (arith, h, le)) (looser g (omega arith) k p) (looser g (omega arith) k q)
  looser g h k (sum_form le p q) = sum_form (omega (arith, h, le)) (looser g (omega arith) k p) (looser_sums g k q)
  looser g h k (product_form le p q) = product_form (omega (arith, h, le)) (looser g (omega arith) k p) (looser_products g k q)
  looser {e = zero} g h k (negate_form le p) = absurd (omega (arith, k))
  looser {e = suc e} g h k (negate_form le p) = negate_form (omega (arith, h, le)) (looser g (omega arith) (omega (arith, k)) p)
  looser {e = zero} g h k (parens_form p) = absurd (omega (arith, k))
  looser {e = suc e} g h k (parens_form p) = parens_form (looser g (omega arith) (omega (arith, k)) p)
  looser g h k (name_form s) = name_form s
  looser g h k (text_form s) = text_form s
  looser g h k (number_form z) = number_form z
  looser g h k (out_of_range_form z b) = out_of_range_form z (g b)
  looser g h k true_form = true_form
  looser g h k false_form = false_form
  looser g h k null_form = null_form

  pub looser_parts : {w v : Bool} {s : Token} {n d e : ℕ} {ts : FilterTrees} {us : List Token} → (w ≡ true → v ≡ true) → d ≤ e → Parts w s n d ts us → Parts v s n e ts us
  looser_parts g k parts_end = parts_end
  looser_parts g k (parts_then p q) = parts_then (looser g (omega arith) k p) (looser_parts g k q)

  pub looser_sums : {w v : Bool} {d e : ℕ} {ts : SumTrees} {us : List Token} → (w ≡ true → v ≡ true) → d ≤ e → Sums w d ts us → Sums v e ts us
  looser_sums g k sums_end = sums_end
  looser_sums g k (sums_then p q) = sums_then (looser g (omega arith) k p) (looser_sums g k q)

  pub looser_products : {w v : Bool} {d e : ℕ} {ts : ProductTrees} {us : List Token} → (w ≡ true → v ≡ true) → d ≤ e → Products w d ts us → Products v e ts us
  looser_products g k products_end = products_end
  looser_products g k (products_then p q) = products_then (looser g (omega arith) k p) (looser_products g k q)

-- ---- the tokens of what is spelled

-- the end of a text, or bytes that are no token
abbrev pub is_stop : Token → Bool
is_stop t = is_end t || is_unknown t

-- what holds of the token of a sign of sums, and of one of products
pub sum_is : (c : SumSign) → (is_stop (sum_token c) ≡ false) × (is_sum_sign (sum_token c) ≡ true) × (sum_sign_of (sum_token c) ≡ c)
sum_is sum.Plus = (refl, refl, refl)
sum_is sum.Minus = (refl, refl, refl)

pub product_is : (c : ProductSign) → (is_stop (product_token c) ≡ false) × (is_product_sign (product_token c) ≡ true) × (product_sign_of (product_token c) ≡ c)
product_is product.Times = (refl, refl, refl)
product_is product.Divide = (refl, refl, refl)
product_is product.Rest = (refl, refl, refl)

-- none of the tokens ends a text
abbrev pub Goes : List Token → Type 0
Goes [] = Unit {0}
Goes (u ∷ us) = (is_stop u ≡ false) × Goes us

goes_both : (us vs : List Token) → Goes us → Goes vs → Goes (us ++ vs)
goes_both [] vs h g = g
goes_both (u ∷ us) vs h g = (h.0, goes_both us vs h.1 g)

-- there is a first token; it is no `not` where that binds too weakly, and no minus sign where one does
abbrev pub Begun : ℕ → List Token → Type 0
Begun l [] = ⊥
Begun l (u ∷ us) = (3 ≤ l → is_not u ≡ false) × (7 ≤ l → is_minus u ≡ false) × (is_stop u ≡ false) × Goes us

pub begun_goes : (l : ℕ) (us : List Token) → Begun l us → Goes us
begun_goes l [] b = absurd b
begun_goes l (u ∷ us) b = (b.2, b.3)

begun_both : (l m : ℕ) (us vs : List Token) → m ≤ l → Begun l us → Goes vs → Begun m (us ++ vs)
begun_both l m [] vs h b g = absurd b
begun_both l m (u ∷ us) vs h b g = (λ x. b.0 (omega (arith, x, h)), λ x. b.1 (omega (arith, x, h)), b.2, goes_both us vs b.3 g)

mutual
  pub begun : {w : Bool} {l d : ℕ} {t : FilterTree} {us : List Token} → Spelled w l d t us → Begun l us
  begun (or_form {n = n} {us = us} {vs = vs} le p q) = begun_both 1 n us vs (omega (arith, le)) (begun p) (parts_go q refl)
  begun (and_form {n = n} {us = us} {vs = vs} le p q) = begun_both 2 n us vs (omega (arith, le)) (begun p) (parts_go q refl)
  begun (not_form {us = us} le p) = (λ x. absurd (omega (arith, x, le)), λ _. refl, refl, begun_goes 2 us (begun p))
  begun (compare_form {n = n} {c = c} {us = us} {vs = vs} le p q) = begun_both 4 n us (token.Compare c ∷ vs) (omega (arith, le)) (begun p) (refl, begun_goes 4 vs (begun q))
  begun (sum_form {n = n} {us = us} {vs = vs} le p q) = begun_both 5 n us vs (omega (arith, le)) (begun p) (sums_go q)
  begun (product_form {n = n} {us = us} {vs = vs} le p q) = begun_both 6 n us vs (omega (arith, le)) (begun p) (products_go q)
  begun (negate_form {us = us} le p) = (λ _. refl, λ x. absurd (omega (arith, x, le)), refl, begun_goes 6 us (begun p))
  begun (parens_form {us = us} p) = (λ _. refl, λ _. refl, refl, goes_both us (token.Close ∷ []) (begun_goes 0 us (begun p)) (refl, tt))
  begun (name_form s) = (λ _. refl, λ _. refl, refl, tt)
  begun (text_form s) = (λ _. refl, λ _. refl, refl, tt)
  begun (number_form z) = (λ _. refl, λ _. refl, refl, tt)
  begun (out_of_range_form z b) = (λ _. refl, λ _. refl, refl, tt)
  begun true_form = (λ _. refl, λ _. refl, refl, tt)
  begun false_form = (λ _. refl, λ _. refl, refl, tt)
  begun null_form = (λ _. refl, λ _. refl, refl, tt)

  parts_go : {w : Bool} {s : Token} {n d : ℕ} {ts : FilterTrees} {us : List Token} → Parts w s n d ts us → is_stop s ≡ false → Goes us
  parts_go parts_end e = tt
  parts_go (parts_then {n = n} {us = us} {vs = vs} p q) e = (e, goes_both us vs (begun_goes n us (begun p)) (parts_go q e))

  sums_go : {w : Bool} {d : ℕ} {ts : SumTrees} {us : List Token} → Sums w d ts us → Goes us
  sums_go sums_end = tt
  sums_go (sums_then {c = c} {us = us} {vs = vs} p q) = ((sum_is c).0, goes_both us vs (begun_goes 5 us (begun p)) (sums_go q))

  products_go : {w : Bool} {d : ℕ} {ts : ProductTrees} {us : List Token} → Products w d ts us → Goes us
  products_go products_end = tt
  products_go (products_then {c = c} {us = us} {vs = vs} p q) = ((product_is c).0, goes_both us vs (begun_goes 6 us (begun p)) (products_go q))
