-- The jobs in hand, line by line.
use Rattle.std.proofs.Common.{◌≡◌, ℕ, ◌<◌, Bool, true, false, not, ◌||◌, cond, List, [], ◌∷◌, ◌++◌, map, filter, find, Some, None, refl, sym, ap, subst, ◌∙◌, arith}
use Rattle.std.specs.Prelude.{◌==◌}
use Rattle.std.specs.List.{list_any}
use Rattle.std.proofs.lemmas.Bool.Decides.{nat_tests}
use Rattle.std.proofs.lemmas.List.{map-append}
use Rattle.farm_history.specs.declared.answers.ClaimAnswer.TheVariants.{Job}
use Rattle.farm_history.specs.declared.answers.Finished.{Finished}
use Rattle.farm_history.specs.Entries.{Entry, Claim, Finish}
use Rattle.farm_history.specs.Lists.{Each, without_first}
use Rattle.farm_history.specs.Past.{Flight, flights, jobs}
use Rattle.farm_history.specs.Rules.{Legal, Fits}
use Rattle.farm_history.proofs.Apart.{job_is_next}
use Rattle.farm_history.proofs.Flying.{ends_ticket}
use Rattle.farm_history.proofs.Lists.{each-append, each-map, each-filter, each-passes, each-both, each-find, each-none, find-any, find-passes}
use Rattle.farm_history.proofs.Numbers.{differ-append, differ-filter, tickets_below, without_first-number}
use Rattle.farm_plan.specs.Plans.{FarmPlan}
use Rattle.farm_plan.specs.Drawings.{plan_of}
use Rattle.farm_plan.specs.Jobs.{JobSeen, Carries, IsFlight, IsValidJob, job_key}
use Rattle.farm_refinement.proofs.Claiming.{job_flies, job_still_flies}
use Rattle.script_text.specs.ScriptTexts.{is_in_hand}
use Rattle.script_text.specs.inner.Hands.{ticket_of, tickets, HandStands}

-- ---- what is in hand

abbrev pub of_ticket : ℕ → JobSeen → Bool
of_ticket ticket job = job.ticket == ticket

any_ticket : (hand : List JobSeen) (ticket : ℕ) → is_in_hand (tickets hand) ticket ≡ list_any (of_ticket ticket) hand
any_ticket [] ticket = refl
any_ticket (job ∷ hand) ticket = ap (λ (b : Bool). (job.ticket == ticket) || b) (any_ticket hand ticket)

none_any : (q : JobSeen → Bool) (hand : List JobSeen) → find q hand ≡ None → list_any q hand ≡ false
none_any q [] h = refl
none_any q (job ∷ hand) h = go (q job) (none_any q hand) h
  where
    go : (b : Bool) → (find q hand ≡ None → list_any q hand ≡ false) → cond b (Some job) (find q hand) ≡ None → (b || list_any q hand) ≡ false
    go true ih e = absurd (cc)
    go false ih e = ih e

-- where no job of the ticket is found, the ticket is not in hand
pub not_in_hand : (hand : List JobSeen) (ticket : ℕ) → find (of_ticket ticket) hand ≡ None → is_in_hand (tickets hand) ticket ≡ false
not_in_hand hand ticket h = any_ticket hand ticket ∙ none_any (of_ticket ticket) hand h

-- and where one is found, it is
pub in_hand : (hand : List JobSeen) (ticket : ℕ) (job : JobSeen) → find (of_ticket ticket) hand ≡ Some job → is_in_hand (tickets hand) ticket ≡ true
in_hand hand ticket job h = any_ticket hand ticket ∙ find-any (of_ticket ticket) (of_ticket ticket) hand job h (find-passes (of_ticket ticket) hand job h)

pub found_ticket : (hand : List JobSeen) (ticket : ℕ) (job : JobSeen) → find (of_ticket ticket) hand ≡ Some job → job.ticket ≡ ticket
found_ticket hand ticket job h = let passes = find-passes (of_ticket ticket) hand job h in grind (arith, nat_tests)

-- the list that nothing is taken out of
none_left : (q : JobSeen → Bool) (hand : List JobSeen) → find q hand ≡ None → without_first q hand ≡ hand
unfolding without_first
none_left q [] h = refl
none_left q (job ∷ hand) h = go (q job) (none_left q hand) h
  where
    go : (b : Bool) → (find q hand ≡ None → without_first q hand ≡ hand) → cond b (Some job) (find q hand) ≡ None → cond b hand (job ∷ without_first q hand) ≡ job ∷ hand
    go true ih e = absurd (cc)
    go false ih e = ap (λ (js : List JobSeen). job ∷ js) (ih e)

pub none_taken : (hand : List JobSeen) (ticket : ℕ) → find (of_ticket ticket) hand ≡ None → without_first (of_ticket ticket) hand ≡ hand
none_taken hand ticket h = none_left (of_ticket ticket) hand h

-- the tickets without that of the job that was taken
pub tickets_left : (hand : List JobSeen) (ticket : ℕ) → tickets (without_first (of_ticket ticket) hand) ≡ without_first (λ t. t == ticket) (tickets hand)
unfolding without_first
tickets_left [] ticket = refl
tickets_left (job ∷ hand) ticket = go (job.ticket == ticket) (tickets_left hand ticket)
  where
    go : (b : Bool) → tickets (without_first (of_ticket ticket) hand) ≡ without_first (λ t. t == ticket) (tickets hand)
        → tickets (cond b hand (job ∷ without_first (of_ticket ticket) hand)) ≡ cond b (tickets hand) (job.ticket ∷ without_first (λ t. t == ticket) (tickets hand))
    go true ih = refl
    go false ih = ap (λ (ts : List ℕ). job.ticket ∷ ts) ih

-- ---- what stands

pub no_hand : (plan : FarmPlan) (h : List Entry) → HandStands plan h []
no_hand plan h = record { fly = tt; valid = tt; differ = tt }

-- an event that ends no drawing in hand
pub hand_kept : (plan : FarmPlan) (e : Entry) (g : List Entry) (hand : List JobSeen) → ((ticket : ℕ) → ends_ticket e ticket ≡ false) → HandStands plan g hand → HandStands plan (e ∷ g) hand
hand_kept plan e g hand none s = record {
  fly = each-map (IsFlight plan g) (IsFlight plan (e ∷ g)) hand (λ job flies. job_still_flies plan e g job (none job.ticket) flies) s.fly;
  valid = s.valid;
  differ = s.differ;
}

-- the ticket of a drawing that is under way is below that of the next
below : (plan : FarmPlan) (told : Bool) (g : List Entry) (job : JobSeen) → Legal (plan_of plan) told g → IsFlight plan g job → job.ticket < jobs g
below plan told g job legal flies =
    let less : flies.flight.ticket < jobs g = each-find (λ (f : Flight). f.ticket < jobs g) (λ (f : Flight). f.ticket == job.ticket) (flights g) flies.flight (tickets_below (plan_of plan) told g legal) flies.is_flight in
    let same = find-passes (λ (f : Flight). f.ticket == job.ticket) (flights g) flies.flight flies.is_flight in
    grind (arith, nat_tests)

-- a job that was claimed is in hand
pub hand_claimed : (plan : FarmPlan) (told : Bool) (g : List Entry) (worker : ℕ) (job : JobSeen) (hand : List JobSeen) → Legal (plan_of plan) told (Claim worker (Job job.ticket (job_key job) job.version) ∷ g)
    → Carries plan g job → IsValidJob job → HandStands plan g hand → HandStands plan (Claim worker (Job job.ticket (job_key job) job.version) ∷ g) (hand ++ job ∷ [])
unfolding Fits
hand_claimed plan told g worker job hand legal carries valid s = record {
  fly = each-append (IsFlight plan (e ∷ g)) hand job kept.fly (job_flies plan told g worker job legal.1 ticket_is carries);
  valid = each-append IsValidJob hand job s.valid valid;
  differ = differ-append ticket_of hand job s.differ (each-none (λ (y : JobSeen). y.ticket == job.ticket) hand others);
}
  where
    e : Entry
    e = Claim worker (Job job.ticket (job_key job) job.version)

    ticket_is : job.ticket ≡ jobs g
    ticket_is = (job_is_next (plan_of plan) g job.ticket (job_key job) job.version legal.0).ticket_is

    kept : HandStands plan (e ∷ g) hand
    kept = hand_kept plan e g hand (λ ticket. refl) s

    others : Each (λ (y : JobSeen). (y.ticket == job.ticket) ≡ false) hand
    others = each-map (IsFlight plan g) (λ (y : JobSeen). (y.ticket == job.ticket) ≡ false) hand
        (λ (y : JobSeen) flies. let less = below plan told g y legal.1 flies in let is = ticket_is in grind (arith, nat_tests)) s.fly

pub tickets_more : (hand : List JobSeen) (job : JobSeen) → tickets (hand ++ job ∷ []) ≡ tickets hand ++ job.ticket ∷ []
tickets_more hand job = map-append ticket_of hand (job ∷ [])

-- the job that was taken flies, and can be drawn
pub taken_flies : (plan : FarmPlan) (g : List Entry) (hand : List JobSeen) (ticket : ℕ) (job : JobSeen) → find (of_ticket ticket) hand ≡ Some job → HandStands plan g hand → IsFlight plan g job
taken_flies plan g hand ticket job found s = each-find (IsFlight plan g) (of_ticket ticket) hand job s.fly found

pub taken_valid : (plan : FarmPlan) (g : List Entry) (hand : List JobSeen) (ticket : ℕ) (job : JobSeen) → find (of_ticket ticket) hand ≡ Some job → HandStands plan g hand → IsValidJob job
taken_valid plan g hand ticket job found s = each-find IsValidJob (of_ticket ticket) hand job s.valid found

-- its drawing has ended, and the others are in hand still
pub hand_ended : (plan : FarmPlan) (g : List Entry) (hand : List JobSeen) (ticket : ℕ) (job : JobSeen) (drawn : Bool) (answer : Finished) → find (of_ticket ticket) hand ≡ Some job → HandStands plan g hand
    → HandStands plan (Finish ticket drawn answer ∷ g) (without_first (of_ticket ticket) hand)
hand_ended plan g hand ticket job drawn answer found s =
    subst (λ (js : List JobSeen). HandStands plan (Finish ticket drawn answer ∷ g) js) (sym rest) (record {
      fly = each-map _ (IsFlight plan (Finish ticket drawn answer ∷ g)) (filter other hand) still
          (each-both (IsFlight plan g) (λ (y : JobSeen). other y ≡ true) (filter other hand) (each-filter (IsFlight plan g) other hand s.fly) (each-passes other hand));
      valid = each-filter IsValidJob other hand s.valid;
      differ = differ-filter ticket_of other hand s.differ;
    })
  where
    other : JobSeen → Bool
    other y = not (y.ticket == job.ticket)

    rest : without_first (of_ticket ticket) hand ≡ filter other hand
    rest = without_first-number ticket_of (of_ticket ticket) hand job s.differ found

    still : (y : JobSeen) → IsFlight plan g y × (other y ≡ true) → IsFlight plan (Finish ticket drawn answer ∷ g) y
    still y both =
        let is = found_ticket hand ticket job found in
        let passes = both.1 in
        let apart : (ticket == y.ticket) ≡ false = grind (arith, nat_tests) in
        job_still_flies plan (Finish ticket drawn answer) g y apart both.0
