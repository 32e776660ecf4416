-- Items that are written one after another.
use Rattle.std.proofs.Common.{◌≡◌, ℕ, ◌+◌, ◌<◌, ◌≤◌, List, ◌∷◌, ◌++◌, length, drop, get_or, sym, ap, ◌∙◌, append_assoc, append-nil}
use Rattle.std.specs.List.{flat_map}
use Rattle.std.proofs.lemmas.List.{drop_more, drop_all}

-- an item was written behind those before it
pub put_more : {A : Type 0} (f : A → List ℕ) (xs : List A) (k : ℕ) (x : A) (out new all : List ℕ) → k < length xs → x ≡ get_or xs k x
    → out ++ flat_map f (drop k xs) ≡ all → new ≡ out ++ f x → new ++ flat_map f (drop (k + 1) xs) ≡ all
put_more {A} f xs k x out new all low is told made =
    let next : drop k xs ≡ x ∷ drop (k + 1) xs = drop_more xs k x low ∙ ap (λ (u : A). u ∷ drop (k + 1) xs) (sym is) in
    ap (λ (b : List ℕ). b ++ flat_map f (drop (k + 1) xs)) made ∙ append_assoc out (f x) (flat_map f (drop (k + 1) xs))
    ∙ sym (ap (λ (r : List A). out ++ flat_map f r) next) ∙ told

-- nothing is left
pub put_end : {A : Type 0} (f : A → List ℕ) (xs : List A) (k : ℕ) (out all : List ℕ) → length xs ≤ k → out ++ flat_map f (drop k xs) ≡ all → out ≡ all
put_end {A} f xs k out all high told = sym (append-nil out) ∙ sym (ap (λ (r : List A). out ++ flat_map f r) (drop_all k xs high)) ∙ told

-- the same of an item that is read by its place
pub put_more_at : {A : Type 0} (f : A → List ℕ) (xs : List A) (k : ℕ) (d : A) (out new all : List ℕ) → k < length xs
    → out ++ flat_map f (drop k xs) ≡ all → new ≡ out ++ f (get_or xs k d) → new ++ flat_map f (drop (k + 1) xs) ≡ all
put_more_at {A} f xs k d out new all low told made =
    ap (λ (b : List ℕ). b ++ flat_map f (drop (k + 1) xs)) made ∙ append_assoc out (f (get_or xs k d)) (flat_map f (drop (k + 1) xs))
    ∙ sym (ap (λ (r : List A). out ++ flat_map f r) (drop_more xs k d low)) ∙ told
