-- One step of the loop that reads a list, told over the values from place k on.
use Rattle.std.specs.Prelude.{◌≡◌, ◌<◌, ◌≤◌, ℕ, ◌+◌, Bool, true, ◌&&◌, List, [], ◌∷◌, ◌++◌, length, drop, get_or, Result, Ok, Err, refl}
use Rattle.std.specs.List.{list_all}
use Rattle.std.proofs.Common.{◌∙◌, sym, ap}
use Rattle.std.proofs.lemmas.List.{drop_more, drop_all, append-nil, append_assoc}
use Rattle.std.proofs.Math.Bool.{true-and, and-true, and_assoc}
use Rattle.serde_json.specs.declared.value.Value.{Value}
use Rattle.serde_json.specs.Data.{Data}
use Rattle.serde_json.specs.View.{view, items_view}
use Rattle.reading.specs.Steps.{◌>>=◌}
use Rattle.reading.specs.Lists.{list_after}
use Rattle.farm_base.specs.Earlier.{each_after}

pub list_next : {A E : Type 0} (f : List A → Data → Result A E) (vs : List Value) (k : ℕ) (v : Value) (before : List A)
    → k < length vs → v ≡ get_or vs k v
    → list_after f before (items_view (drop k vs)) ≡ (f before (view v) >>= λ a. list_after f (before ++ a ∷ []) (items_view (drop (k + 1) vs)))
unfolding list_after
list_next f vs k v before h e =
    ap (λ r. list_after f before (items_view r)) (drop_more vs k v h ∙ ap (λ u. u ∷ drop (k + 1) vs) (sym e))

-- an item that was read goes last
pub list_more : {A E : Type 0} (f : List A → Data → Result A E) (vs : List Value) (k : ℕ) (v : Value) (before next : List A) (a : A) (all : Result (List A) E)
    → next ≡ before ++ a ∷ [] → k < length vs → v ≡ get_or vs k v → f before (view v) ≡ Ok a
    → list_after f before (items_view (drop k vs)) ≡ all → list_after f next (items_view (drop (k + 1) vs)) ≡ all
list_more f vs k v before next a all n h e r t =
    ap (λ b. list_after f b (items_view (drop (k + 1) vs))) n
    ∙ sym (ap (λ s. s >>= λ x. list_after f (before ++ x ∷ []) (items_view (drop (k + 1) vs))) r)
    ∙ sym (list_next f vs k v before h e) ∙ t

-- a fault of an item is the fault of the list
pub list_fails : {A E : Type 0} (f : List A → Data → Result A E) (vs : List Value) (k : ℕ) (v : Value) (before : List A) (fault : E) (all : Result (List A) E)
    → k < length vs → v ≡ get_or vs k v → f before (view v) ≡ Err fault
    → list_after f before (items_view (drop k vs)) ≡ all → all ≡ Err fault
list_fails f vs k v before fault all h e i t =
    sym t ∙ list_next f vs k v before h e
    ∙ ap (λ s. s >>= λ x. list_after f (before ++ x ∷ []) (items_view (drop (k + 1) vs))) i

-- past the last item, what was read is the list
pub list_ends : {A E : Type 0} (f : List A → Data → Result A E) (vs : List Value) (k : ℕ) (before : List A) (all : Result (List A) E)
    → length vs ≤ k → list_after f before (items_view (drop k vs)) ≡ all → all ≡ Ok before
unfolding list_after
list_ends f vs k before all h t = sym t ∙ ap (λ r. list_after f before (items_view r)) (drop_all k vs h)

pub each_after-push : {A : Type 0} (p : List A → A → Bool) (before xs : List A) (a : A)
    → each_after p before (xs ++ a ∷ []) ≡ (each_after p before xs && p (before ++ xs) a)
each_after-push p before [] a = and-true (p before a) ∙ ap (λ b. p b a) (sym (append-nil before)) ∙ sym (true-and (p (before ++ []) a))
each_after-push p before (x ∷ xs) a =
    ap (λ b. p before x && b) (each_after-push p (before ++ x ∷ []) xs a)
    ∙ sym (and_assoc (p before x) (each_after p (before ++ x ∷ []) xs) (p (before ++ x ∷ [] ++ xs) a))
    ∙ ap (λ l. (p before x && each_after p (before ++ x ∷ []) xs) && p l a) (append_assoc before (x ∷ []) xs)

-- an item that passes goes last
pub each_more : {A : Type 0} (p : List A → A → Bool) (before next : List A) (a : A)
    → next ≡ before ++ a ∷ [] → each_after p [] before ≡ true → p before a ≡ true → each_after p [] next ≡ true
each_more p before next a n t u =
    ap (each_after p []) n ∙ each_after-push p [] before a ∙ ap (λ b. b && p before a) t ∙ true-and (p before a) ∙ u

-- where what stands before counts for nothing, each passes by itself
pub all_each : {A : Type 0} (p : A → Bool) (before xs : List A) → each_after (λ earlier x. p x) before xs ≡ list_all p xs
all_each p before [] = refl
all_each p before (x ∷ xs) = ap (λ b. p x && b) (all_each p (before ++ x ∷ []) xs)
