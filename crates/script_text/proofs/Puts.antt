-- Puts one after another are one put.
use Rattle.std.proofs.Common.{◌≡◌, ℕ, ◌+◌, List, [], ◌++◌, length, take, refl, sym, ap, subst, ◌∙◌, arith, append_assoc}
use Rattle.std.specs.Prelude.{Option, Some, None, Result, Ok, Err, option_map}
use Rattle.std.proofs.Math.Seq.{take-append-add}
use Rattle.std.proofs.lemmas.List.{append-nil, length-append, take-append-le}
use Rattle.farm_base.specs.Outside.{Outside, Puts, Counted}
use Rattle.farm_base.specs.declared.sinks.SinkFault.{SinkFault}

told_then : (told : Option (List ℕ)) (a b : List ℕ) → option_map (λ (had : List ℕ). had ++ b) (option_map (λ (had : List ℕ). had ++ a) told) ≡ option_map (λ (had : List ℕ). had ++ (a ++ b)) told
told_then None a b = refl
told_then (Some xs) a b = ap Some (append_assoc xs a b)

told_same : (told : Option (List ℕ)) → told ≡ option_map (λ (had : List ℕ). had ++ []) told
told_same None = refl
told_same (Some xs) = ap Some (sym (append-nil xs))

-- nothing was put
pub puts_nothing : (at : Outside (List ℕ)) → Puts at at [] (Ok tt)
puts_nothing at = (told_same at.told, refl)

-- a put that went well, and then another
pub puts_then : (old middle new : Outside (List ℕ)) (a b : List ℕ) (result : Result (Unit {0}) SinkFault) → Puts old middle a (Ok tt) → Puts middle new b result → Puts old new (a ++ b) result
puts_then old middle new a b (Ok u) first second = (second.0 ∙ ap (option_map (λ (had : List ℕ). had ++ b)) first.0 ∙ told_then old.told a b, second.1 ∙ first.1)
puts_then old middle new a b (Err fault) first second =
    let here : take (length a + second.0) (a ++ b) ≡ a ++ take second.0 b = take-append-add a b second.0 in
    let sum : length (a ++ b) ≡ length a + length b = length-append a b in
    let counted : Counted old.faults new.faults = subst (λ (n : ℕ). Counted n new.faults) first.1 second.3 in (
      length a + second.0,
      omega (arith, second.1, sum),
      second.2 ∙ ap (option_map (λ (had : List ℕ). had ++ take second.0 b)) first.0 ∙ told_then old.told a (take second.0 b) ∙ ap (λ (xs : List ℕ). option_map (λ (had : List ℕ). had ++ xs) old.told) (sym here),
      counted,
    )

-- a put that failed in front of more
pub puts_first : (old new : Outside (List ℕ)) (a b : List ℕ) (fault : SinkFault) → Puts old new a (Err fault) → Puts old new (a ++ b) (Err fault)
puts_first old new a b fault first =
    let sum : length (a ++ b) ≡ length a + length b = length-append a b in
    let here : take first.0 (a ++ b) ≡ take first.0 a = take-append-le first.0 a b first.1 in
    (first.0, omega (arith, first.1, sum), first.2 ∙ ap (λ (xs : List ℕ). option_map (λ (had : List ℕ). had ++ xs) old.told) (sym here), first.3)
