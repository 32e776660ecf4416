-- What is summed up.
use Rattle.std.proofs.Common.{◌≡◌, ℕ, ◌+◌, ◌||◌, Bool, false, List, [], ◌++◌, length, refl, sym, ap, ◌∙◌, arith}
use Rattle.std.specs.Prelude.{codes, Ok}
use Rattle.std.specs.List.{sum_by}
use Rattle.std.specs.Fmt.{decimal}
use Rattle.std.proofs.lemmas.List.{length-append}
use Rattle.std.proofs.lemmas.List.Sums.{sum_by-append}
use Rattle.farm_history.specs.declared.answers.Fetched.TheVariants as fetched
use Rattle.farm_history.specs.Entries.{Entry}
use Rattle.work_gen.specs.declared.stepping.Step.{Step}
use Rattle.load_command.specs.declared.totals.Totals.{Totals}
use Rattle.load_command.specs.declared.steps.StepSeen.{StepSeen}
use Rattle.load_command.specs.Loads.{clean_tiles, load_text}
use Rattle.load_command.specs.inner.Progress.{byte_sum, clean_of, Steps, Adds, Tells}

pub tells_none : Tells (record { clean = 0; bytes = 0; sum = 0; failed = false }) 0 []
unfolding clean_tiles
tells_none = record { clean_is = refl; bytes_is = refl; sum_is = refl; failed_is = refl; few = omega arith; few_bytes = omega arith; small_sum = omega arith }

-- a step more
pub tells_more : (totals totals' : Totals) (seen : StepSeen) (s : Step) (count : ℕ) (g h : List Entry) → Adds totals totals' seen → Tells totals count g → Steps s g (Ok seen) h → Tells totals' (count + 1) h
tells_more totals totals' seen s count g h adds tells step =
    let tiles = step.1 in
    let lengths : length (clean_tiles h) ≡ length (clean_of seen.fetched) + length (clean_tiles g) = ap length tiles ∙ length-append (clean_of seen.fetched) (clean_tiles g) in
    let bytes : sum_by length (clean_tiles h) ≡ sum_by length (clean_of seen.fetched) + sum_by length (clean_tiles g) = ap (λ (x : List (List ℕ)). sum_by length x) tiles ∙ sum_by-append length (clean_of seen.fetched) (clean_tiles g) in
    let sums : sum_by byte_sum (clean_tiles h) ≡ sum_by byte_sum (clean_of seen.fetched) + sum_by byte_sum (clean_tiles g) = ap (λ (x : List (List ℕ)). sum_by byte_sum x) tiles ∙ sum_by-append byte_sum (clean_of seen.fetched) (clean_tiles g) in
    let a1 = adds.clean_is in
    let a2 = adds.bytes_is in
    let a3 = adds.sum_is in
    let t1 = tells.clean_is in
    let t2 = tells.bytes_is in
    let t3 = tells.sum_is in
    let f1 = adds.few in
    let f2 = adds.few_bytes in
    let f3 = adds.small_sum in
    let g1 = tells.few in
    let g2 = tells.few_bytes in
    let g3 = tells.small_sum in
    record {
      clean_is = omega (arith, lengths, a1, t1);
      bytes_is = omega (arith, bytes, a2, t2);
      sum_is = omega (arith, sums, a3, t3);
      failed_is = adds.failed_is ∙ ap (λ (b : Bool). seen.failed || b) tells.failed_is ∙ sym step.2;
      few = omega (arith, f1, g1);
      few_bytes = omega (arith, f2, g2);
      small_sum = omega (arith, f3, g3);
    }

-- the line
pub line_told : (totals : Totals) (count : ℕ) (h : List Entry) (n : ℕ) (text : List ℕ) → Tells totals count h
    → text ≡ codes "features " ++ decimal n ++ codes " asks 32 clean " ++ decimal totals.clean ++ codes " bytes " ++ decimal totals.bytes ++ codes " sum " ++ decimal totals.sum ++ codes "\n"
    → text ≡ load_text n h
unfolding load_text
line_told totals count h n text tells is = is ∙ rw (tells.clean_is, tells.bytes_is, tells.sum_is) refl
