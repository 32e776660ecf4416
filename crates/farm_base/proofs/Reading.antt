-- What is read whole.
use Rattle.std.proofs.Common.{◌≡◌, ℕ, ◌≤◌, ◌+◌, List, [], ◌++◌, length, IfSome, ap, subst, ◌∙◌, arith}
use Rattle.std.specs.Prelude.{Option, None, Some, take}
use Rattle.std.specs.Option.{option_map}
use Rattle.std.proofs.lemmas.List.{take_all, length-take}

all_short : (limit most : ℕ) (bytes : List ℕ) → limit ≡ most + 1 → length (take limit bytes) ≤ most → length bytes ≤ limit
all_short limit most bytes one short = omega (arith, length-take limit bytes, one, short)

-- What a limit of one byte more than the most gave, put to no bytes, and is not longer than the most, is all that there was.
pub read_whole : (known : Option (List ℕ)) (limit most : ℕ) (none got : List ℕ) → none ≡ [] → limit ≡ most + 1
    → IfSome (option_map (take limit) known) (λ bytes. got ≡ none ++ bytes) → length got ≤ most → IfSome known (λ bytes. got ≡ bytes)
read_whole None limit most none got empty one given short = tt
read_whole (Some bytes) limit most none got empty one given short =
    let taken : got ≡ take limit bytes = given ∙ ap (λ it. it ++ take limit bytes) empty in
    taken ∙ take_all limit bytes (all_short limit most bytes one (subst (λ it. length it ≤ most) taken short))
