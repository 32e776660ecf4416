-- From the events of a farm to the answers of lines.
use Rattle.std.proofs.Common.{◌≡◌, ℕ, ◌==◌, ◌||◌, inl, inr, Bool, true, false, List, [], ◌∷◌, ◌++◌, find, refl, sym, ap, subst, ◌∙◌}
use Rattle.std.specs.Prelude.{Some, Result, Ok, Err, IfOk, OnOk}
use Rattle.farm_base.specs.Outside.{Outside}
use Rattle.farm_base.specs.declared.memory.NoMemory.{NoMemory}
use Rattle.tile_store.specs.Stores.{StoreTold}
use Rattle.farm_history.specs.declared.answers.ClaimAnswer.TheVariants.{Job}
use Rattle.farm_history.specs.declared.answers.Finished.{Finished}
use Rattle.farm_history.specs.Entries.{Entry, Claim, Finish}
use Rattle.farm_history.specs.Lists.{without_first}
use Rattle.farm_history.specs.Rules.{Legal}
use Rattle.farm_history.proofs.Flying.{ends_ticket}
use Rattle.farm_plan.specs.Plans.{FarmPlan}
use Rattle.farm_plan.specs.Drawings.{plan_of}
use Rattle.farm_plan.specs.Jobs.{JobSeen, Carries, IsValidJob, job_key}
use Rattle.farm_refinement.specs.Seen.{FarmSeen}
use Rattle.farm_refinement.specs.Stands.{StandsFor}
use Rattle.script_lines.specs.declared.script.ScriptLine.{ScriptLine}
use Rattle.script_lines.specs.declared.script.ScriptLine.TheVariants as line
use Rattle.script_answers.specs.Answers.{claim_line}
use Rattle.script_text.specs.ScriptTexts.{names_of, IsEntryOf, hand_after, HasEvent, HasNone, is_failed, has_failed, unheard, entered}
use Rattle.script_text.specs.inner.Hands.{tickets, HandStands}
use Rattle.script_text.specs.inner.Steps.{SaidSeen, SaysEntry, Enters, Answers}
use Rattle.script_text.proofs.Holding.{hand_kept, hand_claimed, hand_ended, tickets_more, tickets_left, found_ticket}

-- what is noted of a failed call, with one entry more
noted_with : (g : List Entry) (e : Entry) {failed : Bool} → failed ≡ is_failed e → has_failed (e ∷ g) ≡ (failed || has_failed g)
noted_with g e is = ap (λ (b : Bool). b || has_failed g) (sym is)

-- an event that leaves what is in hand as it is
pub answered_kept : {D : Type 0} (state : D → Outside StoreTold) (told : Bool) (farm : FarmSeen D) (plan : FarmPlan) (l : ScriptLine) (g : List Entry) (hand hand' : List JobSeen) (result : Result SaidSeen NoMemory) (e : Entry)
    → HasEvent (tickets hand) l → IsEntryOf plan l e → hand_after (tickets hand) e ≡ tickets hand → ((ticket : ℕ) → ends_ticket e ticket ≡ false) → hand' ≡ hand → HandStands plan g hand
    → StandsFor state told farm (e ∷ g) → IfOk result (SaysEntry plan e) → Answers state told farm plan l g hand hand' result
answered_kept state told farm plan l g hand hand' (Ok said) e has is_entry kept none same s stands says = (
  e ∷ g,
  stands,
  entered e has is_entry says.text_is (ap tickets same ∙ sym kept) refl,
  subst (λ (js : List JobSeen). HandStands plan (e ∷ g) js) (sym same) (hand_kept plan e g hand none s),
  noted_with g e says.failed_is,
)
answered_kept state told farm plan l g hand hand' (Err wanting) e has is_entry kept none same s stands says = (e ∷ g, stands, inr (e, is_entry, refl))

-- the lines that leave it so
abbrev pub is_alone : ScriptLine → Bool
is_alone (line.Claim worker) = false
is_alone (line.Finish ticket) = false
is_alone (line.Cut ticket) = false
is_alone l = true

-- what their events leave
abbrev KeepsHand : Entry → Type 0
KeepsHand e = ((hand : List ℕ) → hand_after hand e ≡ hand) × ((ticket : ℕ) → ends_ticket e ticket ≡ false)

alone_keeps : (plan : FarmPlan) (l : ScriptLine) (e : Entry) → is_alone l ≡ true → IsEntryOf plan l e → KeepsHand e
alone_keeps plan (line.Ask c cmd name z x y) e alone is = subst KeepsHand (sym is.1) (λ hand. refl, λ ticket. refl)
alone_keeps plan (line.Claim worker) e alone is = absurd (cc)
alone_keeps plan (line.Finish ticket) e alone is = absurd (cc)
alone_keeps plan (line.Cut ticket) e alone is = absurd (cc)
alone_keeps plan (line.Update n) e alone is = subst KeepsHand (sym is.1) (λ hand. refl, λ ticket. refl)
alone_keeps plan (line.Restyle n) e alone is = subst KeepsHand (sym is.1) (λ hand. refl, λ ticket. refl)
alone_keeps plan (line.Renew n) e alone is = subst KeepsHand (sym is.1) (λ hand. refl, λ ticket. refl)
alone_keeps plan (line.Expire z x y) e alone is = subst KeepsHand (sym is.1) (λ hand. refl, λ ticket. refl)
alone_keeps plan (line.Fetch name z x y) e alone is = subst KeepsHand (sym is.1) (λ hand. refl, λ ticket. refl)
alone_keeps plan (line.Look name z x y) e alone is = subst KeepsHand (sym is.1) (λ hand. refl, λ ticket. refl)
alone_keeps plan (line.Collect front) e alone is = subst KeepsHand (sym is.1) (λ hand. refl, λ ticket. refl)
alone_keeps plan (line.Leave c) e alone is = subst KeepsHand (sym is.1) (λ hand. refl, λ ticket. refl)
alone_keeps plan line.Tally e alone is = subst KeepsHand (sym is.1) (λ hand. refl, λ ticket. refl)
alone_keeps plan line.Stop e alone is = subst KeepsHand (sym is) (λ hand. refl, λ ticket. refl)

pub answered_alone : {D : Type 0} (state : D → Outside StoreTold) (told : Bool) (farm : FarmSeen D) (plan : FarmPlan) (l : ScriptLine) (g : List Entry) (hand hand' : List JobSeen) (result : Result SaidSeen NoMemory)
    → is_alone l ≡ true → HasEvent (tickets hand) l → hand' ≡ hand → HandStands plan g hand → Enters state told farm plan l g result → Answers state told farm plan l g hand hand' result
answered_alone state told farm plan l g hand hand' result alone has same s enters =
    let keeps = alone_keeps plan l enters.e alone enters.is_entry in
    answered_kept state told farm plan l g hand hand' result enters.e has enters.is_entry (keeps.0 (tickets hand)) keeps.1 same s enters.stands enters.said

-- a line without an event
pub answered_none : {D : Type 0} (state : D → Outside StoreTold) (told : Bool) (farm : FarmSeen D) (plan : FarmPlan) (l : ScriptLine) (g : List Entry) (hand hand' : List JobSeen) (result : Result SaidSeen NoMemory)
    → IfOk result (λ s. HasNone (tickets hand) l s.text × (s.failed ≡ false)) → hand' ≡ hand → HandStands plan g hand → StandsFor state told farm g → Answers state told farm plan l g hand hand' result
answered_none state told farm plan l g hand hand' (Ok said) none same s stands =
    (g, stands, unheard none.0 (ap tickets same) refl, subst (λ (js : List JobSeen). HandStands plan g js) (sym same) s, sym (ap (λ (b : Bool). b || has_failed g) none.1))
answered_none state told farm plan l g hand hand' (Err wanting) none same s stands = (g, stands, inl refl)

-- a claim of a job
pub answered_claim : {D : Type 0} (state : D → Outside StoreTold) (told : Bool) (farm : FarmSeen D) (plan : FarmPlan) (worker : ℕ) (job : JobSeen) (g : List Entry) (hand hand' : List JobSeen) (result : Result SaidSeen NoMemory)
    → farm.plan ≡ plan → StandsFor state told farm (Claim worker (Job job.ticket (job_key job) job.version) ∷ g) → Carries plan g job → IsValidJob job → HandStands plan g hand
    → IfOk result (λ s. s ≡ record { text = claim_line (names_of farm.plan) (Job job.ticket (job_key job) job.version); failed = false }) → OnOk result (hand' ≡ hand ++ job ∷ [])
    → Answers state told farm plan (line.Claim worker) g hand hand' result
answered_claim state told farm plan worker job g hand hand' (Ok said) is stands carries valid s says has = (
  e ∷ g,
  stands,
  entered e tt (Job job.ticket (job_key job) job.version, refl) (ap Some (sym (ap (λ (x : SaidSeen). x.text) says ∙ ap (λ (p : FarmPlan). claim_line (names_of p) (Job job.ticket (job_key job) job.version)) is))) (ap tickets has ∙ tickets_more hand job) refl,
  subst (λ (js : List JobSeen). HandStands plan (e ∷ g) js) (sym has) (hand_claimed plan told g worker job hand legal carries valid s),
  noted_with g e (ap (λ (x : SaidSeen). x.failed) says),
)
  where
    e : Entry
    e = Claim worker (Job job.ticket (job_key job) job.version)

    legal : Legal (plan_of plan) told (e ∷ g)
    legal = subst (λ (p : FarmPlan). Legal (plan_of p) told (e ∷ g)) is stands.legal
answered_claim state told farm plan worker job g hand hand' (Err wanting) is stands carries valid s says has =
    (Claim worker (Job job.ticket (job_key job) job.version) ∷ g, stands, inr (Claim worker (Job job.ticket (job_key job) job.version), (Job job.ticket (job_key job) job.version, refl), refl))

-- the end of a drawing in hand
pub answered_end : {D : Type 0} (state : D → Outside StoreTold) (told : Bool) (farm : FarmSeen D) (plan : FarmPlan) (l : ScriptLine) (ticket : ℕ) (drawn : Bool) (answer : Finished) (job : JobSeen) (g : List Entry)
    (hand hand' : List JobSeen) (result : Result SaidSeen NoMemory) → HasEvent (tickets hand) l → IsEntryOf plan l (Finish ticket drawn answer) → find (λ (j : JobSeen). j.ticket == ticket) hand ≡ Some job
    → hand' ≡ without_first (λ (j : JobSeen). j.ticket == ticket) hand → HandStands plan g hand → StandsFor state told farm (Finish job.ticket drawn answer ∷ g)
    → IfOk result (SaysEntry plan (Finish ticket drawn answer)) → Answers state told farm plan l g hand hand' result
answered_end state told farm plan l ticket drawn answer job g hand hand' (Ok said) has is_entry found left s stands says = (
  Finish ticket drawn answer ∷ g,
  subst (λ (t : ℕ). StandsFor state told farm (Finish t drawn answer ∷ g)) (found_ticket hand ticket job found) stands,
  entered (Finish ticket drawn answer) has is_entry says.text_is (ap tickets left ∙ tickets_left hand ticket) refl,
  subst (λ (js : List JobSeen). HandStands plan (Finish ticket drawn answer ∷ g) js) (sym left) (hand_ended plan g hand ticket job drawn answer found s),
  noted_with g (Finish ticket drawn answer) says.failed_is,
)
answered_end state told farm plan l ticket drawn answer job g hand hand' (Err wanting) has is_entry found left s stands says =
    (Finish ticket drawn answer ∷ g, subst (λ (t : ℕ). StandsFor state told farm (Finish t drawn answer ∷ g)) (found_ticket hand ticket job found) stands, inr (Finish ticket drawn answer, is_entry, refl))

-- the same of a line that is this one
pub of_line : {D : Type 0} (state : D → Outside StoreTold) (told : Bool) (farm : FarmSeen D) (plan : FarmPlan) (l l' : ScriptLine) (g : List Entry) (hand hand' : List JobSeen) (result : Result SaidSeen NoMemory)
    → l' ≡ l → Answers state told farm plan l g hand hand' result → Answers state told farm plan l' g hand hand' result
of_line state told farm plan l l' g hand hand' result is h = subst (λ (x : ScriptLine). Answers state told farm plan x g hand hand' result) (sym is) h
