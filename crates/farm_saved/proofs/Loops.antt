-- The items of a list, one after another.
use Rattle.std.proofs.Common.{◌≡◌, ℕ, suc, ◌+◌, ◌-◌, ◌<◌, ◌≤◌, List, [], ◌∷◌, ◌++◌, Result, Ok, Err, refl, sym, ap, ◌∙◌, subst, arith}
use Rattle.reading.specs.Steps.{◌>>=◌}
use Rattle.farm_saved.specs.declared.fault.SavedFault.{SavedFault}
use Rattle.farm_saved.specs.Reading.{many}

-- one of those that are left
one_less : (count i : ℕ) → i < count → count - i ≡ suc (count - (i + 1))
one_less count i h = omega arith

none_left : (count i : ℕ) → count ≤ i → count - i ≡ 0
none_left count i h = omega arith

pub many_step : {A : Type 0} (read : List A → List ℕ → Result (A × List ℕ) SavedFault) (n : ℕ) (before : List A) (bytes : List ℕ)
    → many read (suc n) before bytes ≡ (read before bytes >>= λ item. many read n (before ++ item.0 ∷ []) item.1)
unfolding many
many_step read n before bytes = refl

pub many_none : {A : Type 0} (read : List A → List ℕ → Result (A × List ℕ) SavedFault) (before : List A) (bytes : List ℕ)
    → many read 0 before bytes ≡ Ok (before, bytes)
unfolding many
many_none read before bytes = refl

-- an item was read
pub many_more : {A : Type 0} (read : List A → List ℕ → Result (A × List ℕ) SavedFault) (count i : ℕ) (item : A) (before next : List A) (bytes behind : List ℕ)
    (all : Result (List A × List ℕ) SavedFault) → i < count → many read (count - i) before bytes ≡ all → Ok (item, behind) ≡ read before bytes
    → next ≡ before ++ item ∷ [] → many read (count - (i + 1)) next behind ≡ all
many_more {A} read count i item before next bytes behind all low told one is =
    let here : many read (suc (count - (i + 1))) before bytes ≡ all = subst (λ (k : ℕ). many read k before bytes ≡ all) (one_less count i low) told in
    let step = ap (λ (x : Result (A × List ℕ) SavedFault). x >>= λ p. many read (count - (i + 1)) (before ++ p.0 ∷ []) p.1) one in
    subst (λ (xs : List A). many read (count - (i + 1)) xs behind ≡ all) (sym is) (step ∙ sym (many_step read (count - (i + 1)) before bytes) ∙ here)

-- an item was refused
pub many_fail : {A : Type 0} (read : List A → List ℕ → Result (A × List ℕ) SavedFault) (count i : ℕ) (before : List A) (bytes : List ℕ) (fault : SavedFault)
    (all : Result (List A × List ℕ) SavedFault) → i < count → many read (count - i) before bytes ≡ all → Err fault ≡ read before bytes → all ≡ Err fault
many_fail {A} read count i before bytes fault all low told one =
    let here : many read (suc (count - (i + 1))) before bytes ≡ all = subst (λ (k : ℕ). many read k before bytes ≡ all) (one_less count i low) told in
    let step = ap (λ (x : Result (A × List ℕ) SavedFault). x >>= λ p. many read (count - (i + 1)) (before ++ p.0 ∷ []) p.1) one in
    sym here ∙ many_step read (count - (i + 1)) before bytes ∙ sym step

-- no item is left
pub many_end : {A : Type 0} (read : List A → List ℕ → Result (A × List ℕ) SavedFault) (count i : ℕ) (before : List A) (bytes : List ℕ)
    (all : Result (List A × List ℕ) SavedFault) → count ≤ i → many read (count - i) before bytes ≡ all → all ≡ Ok (before, bytes)
many_end read count i before bytes all high told =
    sym (subst (λ (k : ℕ). many read k before bytes ≡ all) (none_left count i high) told) ∙ many_none read before bytes
