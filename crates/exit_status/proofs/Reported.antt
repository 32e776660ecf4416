-- An empty line is reported without a put.
use Rattle.std.proofs.Common.{◌≡◌, ℕ, true, List, [], ◌∷◌, ◌++◌, length, refl, sym, ap, arith}
use Rattle.std.specs.Prelude.{Option, Some, None, Ok, option_map, ◌==◌}
use Rattle.std.proofs.lemmas.List.{append-nil}
use Rattle.std.proofs.lemmas.Bool.Decides.{nat_tests}
use Rattle.farm_base.specs.Outside.{Puts}
use Rattle.exit_status.specs.Ends.{SinkAt, Reports}

same_told : (told : Option (List ℕ)) → told ≡ option_map (λ had. had ++ []) told
same_told None = refl
same_told (Some xs) = ap Some (sym (append-nil xs))

nothing_put : (at : SinkAt) → Puts at at [] (Ok tt)
nothing_put at = (same_told at.told, refl)

-- where the line is empty, nothing is put and the status stays
pub report_none : (told : ℕ × List ℕ) (at : SinkAt) (result : ℕ) → (length told.1 == 0) ≡ true → result ≡ told.0 → Reports told at at result
report_none (status, []) at result none same = record { put = Ok tt; puts = nothing_put at; status_is = same; quiet = λ e. (refl, refl) }
report_none (status, x ∷ xs) at result none same = absurd (grind (arith, nat_tests))
