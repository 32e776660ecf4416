-- Claims, and the jobs that they give.
use Rattle.std.proofs.Common.{◌≡◌, ℕ, Bool, true, false, cond, ◌==◌, List, [], ◌∷◌, ◌++◌, length, find, Some, None, option_map, refl, sym, ap, ap₂, ◌∙◌, subst, arith}
use Rattle.std.proofs.lemmas.Bool.Decides.{nat_tests}
use Rattle.std.proofs.lemmas.List.{length-map}
use Rattle.farm_base.specs.Outside.{Outside}
use Rattle.tile_store.specs.Stores.{StoreTold}
use Rattle.farm_history.specs.declared.answers.ClaimAnswer.{ClaimAnswer}
use Rattle.farm_history.specs.declared.answers.ClaimAnswer.TheVariants.{Job, Crowded}
use Rattle.farm_history.specs.Entries.{Entry, Claim}
use Rattle.farm_history.specs.Plans.{Plan, Waits}
use Rattle.farm_history.specs.Past.{Flight, data_after, style_after, flights, flight_in, jobs, shown}
use Rattle.farm_history.specs.Rules.{job_of, claim_rule, Fits, Legal}
use Rattle.farm_history.specs.Laws.{flight_key}
use Rattle.farm_history.specs.Seen.{Taken, taken_of}
use Rattle.farm_history.specs.Replays.{changes_after}
use Rattle.farm_history.proofs.Lists.{each-map, each-none, find-none}
use Rattle.farm_history.proofs.Apart.{kept}
use Rattle.farm_history.proofs.Marks.{mark_quiet, taken_claim}
use Rattle.farm_history.proofs.Numbers.{tickets_below}
use Rattle.farm_history.proofs.Flying.{find-map, ends_ticket, still_flies, data_before}
use Rattle.farm_plan.specs.Plans.{FarmPlan}
use Rattle.farm_plan.specs.Drawings.{plan_of, data_of}
use Rattle.render_queues.specs.Tables.{next_of, after_take}
use Rattle.farm_refinement.specs.Seen.{FarmSeen}
use Rattle.farm_refinement.specs.Stands.{failures, QueuesStand, StandsFor}
use Rattle.farm_plan.specs.Jobs.{JobSeen, job_key, Carries, IsFlight}
use Rattle.farm_refinement.specs.inner.Events.{one_turn_more, claimed_counts, claim_at, new_flight, taken_at}
use Rattle.farm_refinement.proofs.Storing.{store_quiet}
use Rattle.farm_refinement.proofs.Counting.{counts_claim}
use Rattle.farm_refinement.proofs.Queueing.{next_at, queues_claim}
use Rattle.farm_refinement.proofs.Stepping.{is_idle, idle_step}

-- the farm's own answer to a claim is that of the history
pub claim_is : {D : Type 0} (state : D → Outside StoreTold) (told : Bool) (farm : FarmSeen D) (g : List Entry) → StandsFor state told farm g → claim_at farm ≡ claim_rule (plan_of farm.plan) g
unfolding plan_of
claim_is state told farm g s = λ i. cond (s.counts_are.stopped_is i) ClaimAnswer.Stopped (cond (many i == s.queues_are.workers_are i) Crowded (job_of (next_at farm.plan farm.queues g s.queues_are i) (s.counts_are.jobs_are i) (s.counts_are.version_is i)))
  where
    many : length farm.queues.taken ≡ length (flights g)
    many = ap length s.queues_are.taken_is ∙ length-map (flights g) flight_key

-- an answer that is no job
abbrev pub IsNoJob : ClaimAnswer → Type 0
IsNoJob (Job t k v) = ⊥
IsNoJob answer = Unit {0}

no_job : (worker : ℕ) (answer : ClaimAnswer) → IsNoJob answer → is_idle (Claim worker answer) ≡ true
no_job worker (Job t k v) none = absurd none
no_job worker answer none = refl

-- a claim without a job
pub claim_none_step : {D : Type 0} (state : D → Outside StoreTold) (told : Bool) (farm : FarmSeen D) (g : List Entry) (worker : ℕ) (answer : ClaimAnswer) → IsNoJob answer → answer ≡ claim_at farm → StandsFor state told farm g → StandsFor state told (record farm { counts = one_turn_more farm.counts }) (Claim worker answer ∷ g)
unfolding Fits
claim_none_step state told farm g worker answer none is s = idle_step state told farm g (Claim worker answer) (no_job worker answer none) (is ∙ claim_is state told farm g s) s

-- a claim with the job of what waits first
pub claim_job_step : {D : Type 0} (state : D → Outside StoreTold) (told : Bool) (farm : FarmSeen D) (g : List Entry) (worker : ℕ) (w : Waits) → next_of farm.queues.lines ≡ Some w → Job farm.counts.jobs w.key farm.counts.version ≡ claim_at farm → StandsFor state told farm g →
    StandsFor state told (record farm { counts = claimed_counts farm.counts; queues = after_take farm.queues (next_of farm.queues.lines); taken = farm.taken ++ new_flight farm.counts.jobs w.key farm.counts.version ∷ [] }) (Claim worker (Job farm.counts.jobs w.key farm.counts.version) ∷ g)
unfolding Fits data_after changes_after style_after shown failures
claim_job_step state told farm g worker w first is s = record {
  valid = s.valid;
  legal = (is ∙ claim_is state told farm g s, s.legal);
  counts_are = counts_claim farm.counts g worker farm.counts.jobs w.key farm.counts.version s.counts_are;
  data_is = s.data_is;
  changes_are = s.changes_are;
  styles_are = s.styles_are;
  taken_are = ap₂ (λ xs v. xs ++ new_flight farm.counts.jobs w.key v ∷ []) s.taken_are s.counts_are.version_is ∙ sym (taken_claim p g worker farm.counts.jobs w.key farm.counts.version);
  marks_are = λ k. s.marks_are k ∙ sym (mark_quiet p g e k refl refl);
  queues_are = subst (λ o. QueuesStand farm.plan (after_take farm.queues o) (e ∷ g)) (sym first)
      (queues_claim farm.plan farm.queues g worker farm.counts.jobs farm.counts.version w (kept p told g s.legal).lone (sym (next_at farm.plan farm.queues g s.queues_are) ∙ first) s.queues_are);
  store_is = store_quiet farm.plan (state farm.first).faults told g e (state farm.store) refl (λ k. refl) s.store_is;
}
  where
    p : Plan
    p = plan_of farm.plan

    e : Entry
    e = Claim worker (Job farm.counts.jobs w.key farm.counts.version)

-- it is a drawing under way after its Claim
pub job_flies : (plan : FarmPlan) (told : Bool) (g : List Entry) (worker : ℕ) (job : JobSeen) → Legal (plan_of plan) told g → job.ticket ≡ jobs g → Carries plan g job → IsFlight plan (Claim worker (Job job.ticket (job_key job) job.version) ∷ g) job
unfolding flights
job_flies plan told g worker job legal ticket_is carries = record { flight = f; is_flight = found; key_is = refl; carries = carries }
  where
    f : Flight
    f = record { ticket = job.ticket; key = job_key job; before = g }

    none : find (λ (x : Flight). x.ticket == job.ticket) (flights g) ≡ None
    none = find-none _ (flights g) (each-none _ (flights g) (each-map _ _ (flights g) (λ (x : Flight) lt. let same = ticket_is in grind (arith, nat_tests)) (tickets_below (plan_of plan) told g legal)))

    own : (xs : List Flight) → find (λ (x : Flight). x.ticket == job.ticket) xs ≡ None → find (λ (x : Flight). x.ticket == job.ticket) (xs ++ f ∷ []) ≡ Some f
    own [] h = let same : (job.ticket == job.ticket) ≡ true = grind (arith, nat_tests) in ap (λ b. cond b (Some f) None) same
    own (x ∷ xs) h = at (x.ticket == job.ticket) h (own xs)
      where
        at : (b : Bool) → cond b (Some x) (find (λ (y : Flight). y.ticket == job.ticket) xs) ≡ None → (find (λ (y : Flight). y.ticket == job.ticket) xs ≡ None → find (λ (y : Flight). y.ticket == job.ticket) (xs ++ f ∷ []) ≡ Some f) → cond b (Some x) (find (λ (y : Flight). y.ticket == job.ticket) (xs ++ f ∷ [])) ≡ Some f
        at true h ih = cc
        at false h ih = ih h

    found : flight_in (flights g ++ f ∷ []) job.ticket ≡ Some f
    found = own (flights g) none

-- and stays one until the Finish of its ticket
pub job_still_flies : (plan : FarmPlan) (e : Entry) (g : List Entry) (job : JobSeen) → ends_ticket e job.ticket ≡ false → IsFlight plan g job → IsFlight plan (e ∷ g) job
job_still_flies plan e g job other i = record { flight = i.flight; is_flight = still_flies e g job.ticket i.flight other i.is_flight; key_is = i.key_is; carries = i.carries }

-- What the farm keeps of the drawing of a job that is under way.
pub record IsKept {D : Type 0} (farm : FarmSeen D) (job : JobSeen) : Type 0 where
  pub taken : Taken
  pub is_taken : taken_at farm.taken job.ticket ≡ Some taken
  pub key_is : taken.key ≡ job_key job
  pub version_is : taken.version ≡ job.version
  pub plan_is : job.plan ≡ farm.plan
  pub data_is : job.version ≡ farm.counts.version → job.data_now ≡ farm.data_now

pub job_kept : {D : Type 0} (state : D → Outside StoreTold) (told : Bool) (farm : FarmSeen D) (h : List Entry) (job : JobSeen) → StandsFor state told farm h → IsFlight farm.plan h job → IsKept farm job
job_kept state told farm h job s i = record {
  taken = taken_of p h i.flight;
  is_taken = ap (λ xs. taken_at xs job.ticket) s.taken_are ∙ (find-map (taken_of p h) (λ (x : Taken). x.ticket == job.ticket) (flights h) ∙ ap (option_map (taken_of p h)) i.is_flight);
  key_is = i.key_is;
  version_is = sym i.carries.version_is;
  plan_is = i.carries.plan_is;
  data_is = λ same. i.carries.data_is ∙ (ap (data_of farm.plan) (data_before h job.ticket i.flight i.is_flight (sym i.carries.version_is ∙ (same ∙ s.counts_are.version_is))) ∙ sym s.data_is);
}
  where
    p : Plan
    p = plan_of farm.plan
