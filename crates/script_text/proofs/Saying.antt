-- The answers of lines.
use Rattle.std.proofs.Common.{◌≡◌, ℕ, Bool, true, false, List, [], ◌++◌, append-nil, refl, ap, sym, subst, ◌∙◌}
use Rattle.std.proofs.lemmas.Option.{none-some}
use Rattle.std.specs.Prelude.{codes, Some, Result, Ok, Err, IfOk}
use Rattle.reading.specs.Steps.{seen}
use Rattle.farm_base.specs.declared.memory.NoMemory.{NoMemory}
use Rattle.farm_history.specs.declared.answers.Fetched.{Fetched}
use Rattle.farm_history.specs.declared.answers.Fetched.TheVariants as fetched
use Rattle.farm_history.specs.declared.answers.Finished.{Finished}
use Rattle.farm_history.specs.declared.answers.Finished.TheVariants as finished
use Rattle.farm_history.specs.declared.asks.Spot.{Spot}
use Rattle.farm_history.specs.Entries as entry
use Rattle.farm_history.specs.Entries.{Entry}
use Rattle.farm_plan.specs.Plans.{FarmPlan}
use Rattle.script_answers.specs.Answers.{entry_text, fetch_text, number_line, meta_number}
use Rattle.script_answers.specs.inner.Parts.{tile_head, fetch_head, fetch_rest}
use Rattle.script_text.specs.ScriptTexts.{names_of, is_failed}
use Rattle.script_text.specs.inner.Steps.{SaidSeen, SaysEntry, is_failed_fetch, is_failed_finish}

-- a line that is the entry's text
pub some_said : (plan : FarmPlan) (e : Entry) (failed : Bool) (line : Result (List ℕ) NoMemory) (result : Result SaidSeen NoMemory) → result ≡ seen (λ t. record { text = t; failed = failed }) line
    → failed ≡ is_failed e → IfOk line (λ t. entry_text (names_of plan) e ≡ Some t) → IfOk result (SaysEntry plan e)
some_said plan e failed (Ok t) result is same h = subst (λ (r : Result SaidSeen NoMemory). IfOk r (SaysEntry plan e)) (sym is) (record { text_is = h; failed_is = same })
some_said plan e failed (Err wanting) result is same h = subst (λ (r : Result SaidSeen NoMemory). IfOk r (SaysEntry plan e)) (sym is) tt

-- the same of a line that is this text, which is the entry's
pub line_said : (plan : FarmPlan) (e : Entry) (failed : Bool) (line : Result (List ℕ) NoMemory) (result : Result SaidSeen NoMemory) (text : List ℕ) → result ≡ seen (λ t. record { text = t; failed = failed }) line
    → failed ≡ is_failed e → entry_text (names_of plan) e ≡ Some text → IfOk line (λ t. t ≡ text) → IfOk result (SaysEntry plan e)
line_said plan e failed (Ok t) result text is same has h =
    subst (λ (r : Result SaidSeen NoMemory). IfOk r (SaysEntry plan e)) (sym is) (record { text_is = has ∙ ap Some (sym h); failed_is = same })
line_said plan e failed (Err wanting) result text is same has h = subst (λ (r : Result SaidSeen NoMemory). IfOk r (SaysEntry plan e)) (sym is) tt

-- an answer by its two parts
pub both_said : (plan : FarmPlan) (e : Entry) (failed : Bool) (result : Result SaidSeen NoMemory) → IfOk result (λ s. entry_text (names_of plan) e ≡ Some s.text) → IfOk result (λ s. s.failed ≡ failed) → failed ≡ is_failed e
    → IfOk result (SaysEntry plan e)
both_said plan e failed (Ok s) h g same = record { text_is = h; failed_is = g ∙ same }
both_said plan e failed (Err wanting) h g same = tt

-- a line, and what stands behind it
joined : (line tail head rest : List ℕ) → Some line ≡ Some head → rest ≡ tail → Some (line ++ tail) ≡ Some (head ++ rest)
joined line tail head rest h r = let e : line ≡ head = cc in rw (e, r) refl

alone : (line head rest : List ℕ) → Some line ≡ Some head → rest ≡ [] → Some line ≡ Some (head ++ rest)
alone line head rest h r = let e : line ≡ head = cc in rw (e, r) (ap Some (sym (append-nil head)))

-- the text of a fetch, by its two parts
pub fetch_parts : (answer : Fetched) (head rest : List ℕ) → fetch_head answer ≡ Some head → rest ≡ fetch_rest answer → fetch_text answer ≡ Some (head ++ rest)
fetch_parts (fetched.Clean v bytes) head rest h r = joined (tile_head (codes "clean ") v bytes) (bytes ++ codes "\n") head rest h r
fetch_parts (fetched.Dirty v bytes) head rest h r = joined (tile_head (codes "dirty ") v bytes) (bytes ++ codes "\n") head rest h r
fetch_parts fetched.Missing head rest h r = alone (codes "missing\n") head rest h r
fetch_parts fetched.Unservable head rest h r = alone (codes "unservable\n") head rest h r
fetch_parts fetched.Gone head rest h r = alone (codes "gone\n") head rest h r
fetch_parts (fetched.Spoilt fault) head rest h r = alone (number_line (codes "spoilt ") (meta_number fault)) head rest h r
fetch_parts fetched.GetFailed head rest h r = alone (codes "getfailed\n") head rest h r
fetch_parts fetched.NoMemory head rest h r = absurd (none-some head h)

-- whether a call failed is told by the answer
pub fetch_failed : (spot : Spot) (answer : Fetched) → is_failed_fetch answer ≡ is_failed (entry.Fetch spot answer)
fetch_failed spot (fetched.Clean v bytes) = refl
fetch_failed spot (fetched.Dirty v bytes) = refl
fetch_failed spot fetched.Missing = refl
fetch_failed spot fetched.Unservable = refl
fetch_failed spot fetched.Gone = refl
fetch_failed spot (fetched.Spoilt fault) = refl
fetch_failed spot fetched.GetFailed = refl
fetch_failed spot fetched.NoMemory = refl

pub finish_failed : (ticket : ℕ) (answer : Finished) → is_failed_finish answer ≡ is_failed (entry.Finish ticket true answer)
finish_failed ticket (finished.Stored clean) = refl
finish_failed ticket finished.PutFailed = refl
finish_failed ticket finished.NoMemory = refl

-- a line that tells of no event
pub none_said : (line : Result (List ℕ) NoMemory) (result : Result SaidSeen NoMemory) (text : List ℕ) (N : List ℕ → Type 0) → result ≡ seen (λ t. record { text = t; failed = false }) line → IfOk line (λ t. t ≡ text)
    → ((s : List ℕ) → s ≡ text → N s) → IfOk result (λ s. N s.text × (s.failed ≡ false))
none_said (Ok t) result text N is h holds = subst (λ (r : Result SaidSeen NoMemory). IfOk r (λ s. N s.text × (s.failed ≡ false))) (sym is) (holds t h, refl)
none_said (Err wanting) result text N is h holds = subst (λ (r : Result SaidSeen NoMemory). IfOk r (λ s. N s.text × (s.failed ≡ false))) (sym is) tt
