-- Each fault that a saved farm may be refused for has a text.
use Rattle.std.specs.Prelude.{ℕ, zero, suc, ◌-◌, ◌==◌, nat_le, List, [], ◌∷◌, ◌++◌, length, take, Option, Result, is_some, IsTrue, refl}
use Rattle.std.specs.Str.{bytes_eq}
use Rattle.reading.specs.Steps.{◌>>=◌}
use Rattle.farm_history.specs.declared.keys.Kept.{Kept}
use Rattle.farm_history.specs.declared.saved.Past.{Past}
use Rattle.farm_saved.specs.Reading.{after_magic, bytes_number, many, style_number_in, past_in, is_kept, fields_in, entry_in, nothing_left, saving_in, saved_in}
use Rattle.farm_saved.specs.inner.Fields.{saved_magic}
use Rattle.farm_saved.specs.declared.fault.SavedFault.{SavedFault}
use Rattle.farm_saved.specs.declared.fault.SavedFault.TheVariants.{Short, Magic, Kind, Order, Extra}
use Rattle.exit_status.specs.SavedFaults.{saved_text}
use Rattle.exit_status.specs.Told.{SavedAreTold}
use Rattle.exit_status.proofs.Steps.{OnFault, of_fault, step, either, checks}

abbrev HasText : SavedFault → Type 0
HasText e = IsTrue (is_some (saved_text e))

abbrev Told : {A : Type 0} → Result A SavedFault → Type 0
Told r = OnFault HasText r

opened_told : (short : SavedFault) → HasText short → (bytes : List ℕ) → Told (after_magic short bytes)
unfolding after_magic
opened_told short h bytes =
    step HasText _ _ (checks HasText (nat_le 4 (length bytes)) short h) (λ u.
    step HasText _ _ (checks HasText (bytes_eq (take 4 bytes) saved_magic) Magic refl) (λ v. tt))

number_told : (short : SavedFault) → HasText short → (n : ℕ) (bytes : List ℕ) → Told (bytes_number short n bytes)
unfolding bytes_number
number_told short h n bytes = either HasText (nat_le n (length bytes)) _ _ tt h

many_told : {A : Type 0} (read : List A → List ℕ → Result (A × List ℕ) SavedFault) → ((before : List A) (bytes : List ℕ) → Told (read before bytes))
    → (n : ℕ) (before : List A) (bytes : List ℕ) → Told (many read n before bytes)
unfolding many
many_told read h zero before bytes = tt
many_told read h (suc n) before bytes = step HasText _ _ (h before bytes) (λ item. many_told read h n (before ++ item.0 ∷ []) item.1)

style_told : (short : SavedFault) → HasText short → (before : List (Option ℕ)) (bytes : List ℕ) → Told (style_number_in short before bytes)
unfolding style_number_in
style_told short h before bytes = step HasText _ _ (number_told short h 4 bytes) (λ number. tt)

past_told : (short : SavedFault) → HasText short → (before : List Past) (bytes : List ℕ) → Told (past_in short before bytes)
unfolding past_in
past_told short h before bytes =
    step HasText _ _ (number_told short h 4 bytes) (λ kind.
    step HasText _ _ (checks HasText (nat_le kind.0 1) (Kind (length before)) refl) (λ u.
    step HasText _ _ (number_told short h 4 kind.1) (λ number. tt)))

fields_told : (short : SavedFault) → HasText short → (bytes : List ℕ) → Told (fields_in short bytes)
unfolding fields_in
fields_told short h bytes =
    step HasText _ _ (number_told short h 4 bytes) (λ map.
    step HasText _ _ (number_told short h 4 map.1) (λ z.
    step HasText _ _ (number_told short h 4 z.1) (λ x.
    step HasText _ _ (number_told short h 4 x.1) (λ y.
    step HasText _ _ (number_told short h 8 y.1) (λ version. tt)))))

entry_told : (short : SavedFault) → HasText short → (updates : ℕ) (before : List Kept) (bytes : List ℕ) → Told (entry_in short updates before bytes)
unfolding entry_in
entry_told short h updates before bytes =
    step HasText _ _ (fields_told short h bytes) (λ entry.
    step HasText _ _ (checks HasText (is_kept updates before entry.0) (Order (length before)) refl) (λ u. tt))

ended_told : (all : ℕ) (rest : List ℕ) → Told (nothing_left all rest)
unfolding nothing_left
ended_told all rest = checks HasText (length rest == 0) (Extra (all - length rest)) refl

text_told : (short : SavedFault) → HasText short → (all : ℕ) (bytes : List ℕ) → Told (saving_in short all bytes)
unfolding saving_in
text_told short h all bytes =
    step HasText _ _ (opened_told short h bytes) (λ start.
    step HasText _ _ (number_told short h 4 start) (λ maps.
    step HasText _ _ (many_told (style_number_in short) (style_told short h) maps.0 [] maps.1) (λ styles.
    step HasText _ _ (number_told short h 8 styles.1) (λ pasts.
    step HasText _ _ (many_told (past_in short) (past_told short h) pasts.0 [] pasts.1) (λ updates.
    step HasText _ _ (number_told short h 8 updates.1) (λ entries.
    step HasText _ _ (many_told (entry_in short (length updates.0)) (entry_told short h (length updates.0)) entries.0 [] entries.1) (λ clean.
    step HasText _ _ (ended_told all clean.1) (λ u. tt))))))))

in_told : (bytes : List ℕ) → Told (saved_in bytes)
unfolding saved_in
in_told bytes = text_told (Short (length bytes)) refl (length bytes) bytes

pub saved_are_told : SavedAreTold
saved_are_told bytes e q = of_fault HasText (saved_in bytes) e (in_told bytes) q
