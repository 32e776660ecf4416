-- One turn of each loop that computes a value: what is left of the list, by its next item.
use Rattle.std.proofs.Common.{◌≡◌, ℕ, ◌+◌, ◌<◌, List, ◌∷◌, length, get_or, drop, map, Bool, true, false, ◌||◌, ◌&&◌, if◌then◌else◌, sym, ◌∙◌, ap}
use Rattle.std.proofs.lemmas.List.{drop_more}
use Rattle.std.specs.List.{list_any, list_all}
use Rattle.std.specs.Str.{bytes_eq}
use Rattle.farm_base.specs.declared.Attr.{Attr}
use Rattle.farm_base.specs.declared.Value.{Value}
use Rattle.plain_filters.specs.Values.{attribute, sum_of, product_of}
use Rattle.filter_expr.specs.inner.Parts.{sum_value, product_value}
use Rattle.plain_filters.specs.declared.SumPart.{SumPart}
use Rattle.plain_filters.specs.declared.ProductPart.{ProductPart}
use Rattle.plain_filters.specs.declared.SumSign.{SumSign}
use Rattle.plain_filters.specs.declared.ProductSign.{ProductSign}

-- what is left begins with the item here
pub left_here : {A : Type 0} (xs : List A) (i : ℕ) (x : A) → i < length xs → x ≡ get_or xs i x → drop i xs ≡ x ∷ drop (i + 1) xs
left_here xs i x h e = drop_more xs i x h ∙ ap (λ y. y ∷ drop (i + 1) xs) (sym e)

module _ {A B : Type 0} (p : B → Bool) (f : A → B) (xs : List A) (i : ℕ) (x : A) (h : i < length xs) (e : x ≡ get_or xs i x) where
  pub any_yes : p (f x) ≡ true → list_any p (map f (drop i xs)) ≡ true
  any_yes y = ap (λ l. list_any p (map f l)) (left_here xs i x h e) ∙ ap (λ b. b || list_any p (map f (drop (i + 1) xs))) y

  pub any_no : p (f x) ≡ false → list_any p (map f (drop i xs)) ≡ list_any p (map f (drop (i + 1) xs))
  any_no n = ap (λ l. list_any p (map f l)) (left_here xs i x h e) ∙ ap (λ b. b || list_any p (map f (drop (i + 1) xs))) n

  pub all_no : p (f x) ≡ false → list_all p (map f (drop i xs)) ≡ false
  all_no n = ap (λ l. list_all p (map f l)) (left_here xs i x h e) ∙ ap (λ b. b && list_all p (map f (drop (i + 1) xs))) n

  pub all_yes : p (f x) ≡ true → list_all p (map f (drop i xs)) ≡ list_all p (map f (drop (i + 1) xs))
  all_yes y = ap (λ l. list_all p (map f l)) (left_here xs i x h e) ∙ ap (λ b. b && list_all p (map f (drop (i + 1) xs))) y

pub sum_here : (v : Value) (f : SumPart → SumSign × Value) (xs : List SumPart) (i : ℕ) (x : SumPart) → i < length xs → x ≡ get_or xs i x →
    sum_value v (map f (drop i xs)) ≡ sum_value (sum_of (f x).0 v (f x).1) (map f (drop (i + 1) xs))
sum_here v f xs i x h e = ap (λ l. sum_value v (map f l)) (left_here xs i x h e)

pub product_here : (v : Value) (f : ProductPart → ProductSign × Value) (xs : List ProductPart) (i : ℕ) (x : ProductPart) → i < length xs → x ≡ get_or xs i x →
    product_value v (map f (drop i xs)) ≡ product_value (product_of (f x).0 v (f x).1) (map f (drop (i + 1) xs))
product_here v f xs i x h e = ap (λ l. product_value v (map f l)) (left_here xs i x h e)

module _ (name : List ℕ) (xs : List Attr) (i : ℕ) (x : Attr) (h : i < length xs) (e : x ≡ get_or xs i x) where
  pub attribute_found : bytes_eq x.name name ≡ true → attribute name (drop i xs) ≡ x.value
  attribute_found y = ap (attribute name) (left_here xs i x h e) ∙ ap (λ b. if b then x.value else attribute name (drop (i + 1) xs)) y

  pub attribute_next : bytes_eq x.name name ≡ false → attribute name (drop i xs) ≡ attribute name (drop (i + 1) xs)
  attribute_next n = ap (attribute name) (left_here xs i x h e) ∙ ap (λ b. if b then x.value else attribute name (drop (i + 1) xs)) n
