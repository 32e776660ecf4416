-- One step of a loop more, and what holds of an Ok.
use Rattle.std.proofs.Common.{◌≡◌, ℕ, ◌+◌, ◌<◌, ◌∙◌, ap, sym, List, [], ◌∷◌, ◌++◌, length, get_or, take, fold, flat_map}
use Rattle.std.specs.Prelude.{Result, Ok, Err, OnOk, OnErr, Option, None, Some, MatchOption}
use Rattle.std.proofs.lemmas.List.{append-nil, take_more}
use Rattle.std.proofs.lemmas.Grind.{fold-append, flat_map-append}

-- the same for the lists that a list's items give
pub named_next : {X Y A : Type 0} (h : A → Y → A) (g : X → List Y) (xs : List X) (a now next : A) (i : ℕ) (x : X) → i < length xs → x ≡ get_or xs i x
    → now ≡ fold h a (flat_map g (take i xs)) → next ≡ fold h now (g x) → next ≡ fold h a (flat_map g (take (i + 1) xs))
named_next h g xs a now next i x within is so_far step =
    step ∙ ap (λ b. fold h b (g x)) so_far
    ∙ sym (fold-append h a (flat_map g (take i xs)) (g x))
    ∙ ap (λ ys. fold h a (flat_map g (take i xs) ++ ys)) (sym (append-nil (g x)))
    ∙ ap (fold h a) (sym (flat_map-append g (take i xs) (x ∷ [])))
    ∙ ap (λ y. fold h a (flat_map g (take i xs ++ y ∷ []))) is
    ∙ ap (λ ys. fold h a (flat_map g ys)) (sym (take_more xs i x within))

-- what holds after Ok and after Err
pub in_both : {T E : Type 0} {P Q R : Type 0} (r : Result T E) → (P → R) → (Q → R) → OnOk r P → OnErr r Q → R
in_both (Ok x) f g p q = f p
in_both (Err e) f g p q = g q

-- what holds of the result holds after Ok
pub ok_of : {T E : Type 0} {P : Type 0} (r : Result T E) → P → OnOk r P
ok_of (Ok x) p = p
ok_of (Err e) p = tt

-- what holds of an option, from what holds of it otherwise
pub option_of : {X : Type 0} (P Q : Type 0) (A B : X → Type 0) (r : Option X) → (P → Q) → ((x : X) → A x → B x) → MatchOption r P A → MatchOption r Q B
option_of P Q A B None f g h = f h
option_of P Q A B (Some x) f g h = g x h
