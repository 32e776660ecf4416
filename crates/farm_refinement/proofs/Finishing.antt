-- Ends of drawings.
use Rattle.std.proofs.Common.{◌≡◌, ℕ, Bool, true, false, not, cond, if◌then◌else◌, ◌==◌, List, ◌∷◌, length, Option, Some, None, option_map, Ok, Err, refl, sym, ap, ◌∙◌, subst}
use Rattle.farm_base.specs.Outside.{Outside}
use Rattle.tile_store.specs.declared.stores.StoreFault.TheVariants.{Failed}
use Rattle.tile_store.specs.Stores.{StoreTold, StorePuts}
use Rattle.farm_history.specs.declared.keys.Key.{Key}
use Rattle.farm_history.specs.declared.keys.Mark.{Mark}
use Rattle.farm_history.specs.declared.queues.Outcome.{Outcome}
use Rattle.farm_history.specs.declared.answers.Finished.{Finished}
use Rattle.farm_history.specs.declared.answers.Finished.TheVariants.{Stored, PutFailed}
use Rattle.farm_history.specs.Entries.{Entry, Finish}
use Rattle.farm_history.specs.Plans.{Plan, same_key}
use Rattle.farm_history.specs.Past.{Flight, is_stopped, data_after, style_after, flights, flight_in, jobs, numbers, asks_made, done_asks, stored_drawings, waiting, is_touched_after}
use Rattle.farm_history.specs.Rules.{EndFits, FlightFits, Fits}
use Rattle.farm_history.specs.Seen.{Taken, taken_of, mark_after}
use Rattle.farm_history.specs.Replays.{changes_after}
use Rattle.farm_history.proofs.Lists.{same_key-true}
use Rattle.farm_history.proofs.Apart.{kept}
use Rattle.farm_history.proofs.Flying.{find-map}
use Rattle.farm_history.proofs.Marks.{mark_stored, mark_stored_other, mark_lost, mark_lost_other, mark_cut, taken_finish}
use Rattle.farm_history.proofs.Numbers.{tickets_differ}
use Rattle.farm_plan.specs.Plans.{FarmPlan}
use Rattle.farm_plan.specs.Drawings.{plan_of, data_of, container_bytes, key_path}
use Rattle.render_queues.specs.Tables.{Tables, after_end}
use Rattle.expiry_lists.specs.Marks.{MarksSeen, mark_of}
use Rattle.farm_refinement.specs.declared.counts.Counts.{Counts}
use Rattle.farm_refinement.specs.Seen.{FarmSeen}
use Rattle.farm_refinement.specs.Stands.{text_before, QueuesStand, CountsStand, StoreStands, StandsFor}
use Rattle.farm_plan.specs.Jobs.{JobSeen, job_key, job_text, IsFlight}
use Rattle.farm_refinement.specs.inner.Events.{one_turn_more, stored_counts, taken_at, untaken, stale_tables}
use Rattle.farm_refinement.proofs.Storing.{store_put, store_lost, store_cut}
use Rattle.farm_refinement.proofs.Counting.{IsUncounted, counts_turn, counts_stored}
use Rattle.farm_refinement.proofs.Queueing.{queues_end, queues_stale}
use Rattle.farm_refinement.proofs.Claiming.{IsKept, job_kept}

-- the bytes of the job are those that were to be drawn when it was claimed
pub text_is : (plan : FarmPlan) (h : List Entry) (job : JobSeen) (i : IsFlight plan h job) → job_text job ≡ text_before plan i.flight.before i.flight.key
text_is plan h job i =
    (λ j. container_bytes (i.carries.plan_is j) (job_key job) (i.carries.style_is j) (i.carries.data_is j))
    ∙ sym (ap (λ (k : Key). container_bytes plan k (style_after (plan_of plan) i.flight.before k.map) (data_of plan (data_after i.flight.before))) i.key_is)

-- what every end shares: all but marks, queues, counts and the store
ended : {D : Type 0} (state : D → Outside StoreTold) (told : Bool) (farm : FarmSeen D) (h : List Entry) (t : ℕ) (drawn : Bool) (answer : Finished) (f : Flight) (c : Counts) (ms : MarksSeen) (q : Tables) (d : D) → flight_in (flights h) t ≡ Some f → EndFits (plan_of farm.plan) h f drawn answer →
    CountsStand c (Finish t drawn answer ∷ h) → ((k : Key) → mark_of ms.shown k ≡ mark_after (plan_of farm.plan) (Finish t drawn answer ∷ h) k) → QueuesStand farm.plan q (Finish t drawn answer ∷ h) →
    StoreStands farm.plan (state farm.first).faults told (Finish t drawn answer ∷ h) (state d) → StandsFor state told farm h → StandsFor state told (record farm { counts = c; taken = untaken t farm.taken; marks = ms; queues = q; store = d }) (Finish t drawn answer ∷ h)
unfolding Fits data_after changes_after style_after
ended state told farm h t drawn answer f c ms q d is fits counts marks queues stored s = record {
  valid = s.valid;
  legal = (subst (λ o. FlightFits (plan_of farm.plan) h o drawn answer) (sym is) fits, s.legal);
  counts_are = counts;
  data_is = s.data_is;
  changes_are = s.changes_are;
  styles_are = s.styles_are;
  taken_are = ap (untaken t) s.taken_are ∙ sym (taken_finish (plan_of farm.plan) h t drawn answer);
  marks_are = marks;
  queues_are = queues;
  store_is = stored;
}

-- a mark that is there for one key
here : (p : Plan) (k j : Key) (e : Entry) (h : List Entry) (mark : Option Mark) (old new : Option Mark) → new ≡ cond (same_key k j) mark old → (same_key k j ≡ true → mark ≡ mark_after p (e ∷ h) j) → (same_key k j ≡ false → old ≡ mark_after p (e ∷ h) j) → new ≡ mark_after p (e ∷ h) j
here p k j e h mark old new is own other = go (same_key k j) is own other
  where
    go : (b : Bool) → new ≡ cond b mark old → (b ≡ true → mark ≡ mark_after p (e ∷ h) j) → (b ≡ false → old ≡ mark_after p (e ∷ h) j) → new ≡ mark_after p (e ∷ h) j
    go true is own other = is ∙ own refl
    go false is own other = is ∙ other refl

-- A drawing that was stored. `touched` is what the farm keeps of it.
pub finish_stored_step : {D : Type 0} (state : D → Outside StoreTold) (told : Bool) (farm : FarmSeen D) (h : List Entry) (job : JobSeen) (clean : Bool) (ms : MarksSeen) (d : D) → IsFlight farm.plan h job → ((x : Taken) → taken_at farm.taken job.ticket ≡ Some x → clean ≡ not x.touched) →
    StorePuts (state farm.store) (state d) (key_path farm.plan (job_key job)) (job_text job) (Ok tt) → ((k : Key) → mark_of ms.shown k ≡ (if same_key (job_key job) k then Some (record { version = job.version; clean = clean }) else mark_of farm.marks.shown k)) → StandsFor state told farm h →
    StandsFor state told (record farm { counts = stored_counts farm.counts; taken = untaken job.ticket farm.taken; marks = ms; queues = stale_tables clean (after_end farm.queues (job_key job) Outcome.Done) (job_key job); store = d }) (Finish job.ticket true (Stored clean) ∷ h)
unfolding waiting
finish_stored_step state told farm h job clean ms d i cleaned puts marks s =
    ended state told farm h job.ticket true (Stored clean) f (stored_counts farm.counts) ms (stale_tables clean (after_end farm.queues (job_key job) Outcome.Done) (job_key job)) d i.is_flight fits (counts_stored farm.counts h job.ticket true clean s.counts_are)
    marked (subst (λ (k : Key). QueuesStand farm.plan (stale_tables clean (after_end farm.queues k Outcome.Done) k) (e ∷ h)) i.key_is (queued clean))
    (store_put farm.plan (state farm.first).faults told h job.ticket clean f (state farm.store) (state d) s.valid s.legal i.is_flight put s.store_is) s
  where
    p : Plan
    p = plan_of farm.plan

    e : Entry
    e = Finish job.ticket true (Stored clean)

    f : Flight
    f = i.flight

    kept_of : IsKept farm job
    kept_of = job_kept state told farm h job s i

    fits : clean ≡ not (is_touched_after p h (length f.before) f.key)
    fits = cleaned (taken_of p h f) (ap (λ xs. taken_at xs job.ticket) s.taken_are ∙ (find-map (taken_of p h) (λ (x : Taken). x.ticket == job.ticket) (flights h) ∙ ap (option_map (taken_of p h)) i.is_flight))

    put : StorePuts (state farm.store) (state d) (key_path farm.plan f.key) (text_before farm.plan f.before f.key) (Ok tt)
    put = subst (λ bytes. StorePuts (state farm.store) (state d) (key_path farm.plan f.key) bytes (Ok tt)) (text_is farm.plan h job i) (subst (λ (k : Key). StorePuts (state farm.store) (state d) (key_path farm.plan k) (job_text job) (Ok tt)) (sym i.key_is) puts)

    marked : (k : Key) → mark_of ms.shown k ≡ mark_after p (e ∷ h) k
    marked k = here p (job_key job) k e h (Some (record { version = job.version; clean = clean })) (mark_of farm.marks.shown k) (mark_of ms.shown k) (marks k)
        (λ same. ap (λ v. Some (record { version = v; clean = clean })) i.carries.version_is ∙ (sym (mark_stored p h job.ticket true clean f i.is_flight fits) ∙ ap (mark_after p (e ∷ h)) (i.key_is ∙ same_key-true (job_key job) k same)))
        (λ other. s.marks_are k ∙ sym (mark_stored_other p h job.ticket true clean f k i.is_flight (ap (λ (x : Key). same_key x k) i.key_is ∙ other)))

    queued : (c : Bool) → QueuesStand farm.plan (stale_tables c (after_end farm.queues f.key Outcome.Done) f.key) (Finish job.ticket true (Stored c) ∷ h)
    queued true = queues_end farm.plan farm.queues h job.ticket true (Stored true) f (tickets_differ p told h s.legal) (kept p told h s.legal).single i.is_flight refl s.queues_are
    queued false = queues_stale farm.plan farm.queues h job.ticket true f (tickets_differ p told h s.legal) (kept p told h s.legal).single i.is_flight s.queues_are

uncounted_end : (t : ℕ) (drawn : Bool) (answer : Finished) (h : List Entry) → ((clean : Bool) → answer ≡ Stored clean → ⊥) → IsUncounted (Finish t drawn answer) h
unfolding is_stopped data_after numbers jobs asks_made done_asks stored_drawings
uncounted_end t drawn (Stored clean) h other = absurd (other clean refl)
uncounted_end t drawn PutFailed h other = record { stopped_same = refl; version_same = refl; numbers_same = refl; jobs_same = refl; asks_same = refl; done_same = refl; stored_same = refl }
uncounted_end t drawn Finished.NoMemory h other = record { stopped_same = refl; version_same = refl; numbers_same = refl; jobs_same = refl; asks_same = refl; done_same = refl; stored_same = refl }

-- One that the store refused.
pub finish_lost_step : {D : Type 0} (state : D → Outside StoreTold) (told : Bool) (farm : FarmSeen D) (h : List Entry) (job : JobSeen) (bytes : List ℕ) (ms : MarksSeen) (d : D) → IsFlight farm.plan h job →
    StorePuts (state farm.store) (state d) (key_path farm.plan (job_key job)) bytes (Err Failed) → ((k : Key) → mark_of ms.shown k ≡ (if same_key (job_key job) k then None else mark_of farm.marks.shown k)) → StandsFor state told farm h →
    StandsFor state told (record farm { counts = one_turn_more farm.counts; taken = untaken job.ticket farm.taken; marks = ms; queues = after_end farm.queues (job_key job) Outcome.NotDone; store = d }) (Finish job.ticket true PutFailed ∷ h)
unfolding waiting
finish_lost_step state told farm h job bytes ms d i puts marks s =
    ended state told farm h job.ticket true PutFailed f (one_turn_more farm.counts) ms (after_end farm.queues (job_key job) Outcome.NotDone) d i.is_flight tt
    (counts_turn farm.counts h e (uncounted_end job.ticket true PutFailed h (λ clean is. cc)) s.counts_are) marked
    (subst (λ (k : Key). QueuesStand farm.plan (after_end farm.queues k Outcome.NotDone) (e ∷ h)) i.key_is (queues_end farm.plan farm.queues h job.ticket true PutFailed f (tickets_differ p told h s.legal) (kept p told h s.legal).single i.is_flight refl s.queues_are))
    (store_lost farm.plan (state farm.first).faults told h job.ticket true f bytes (state farm.store) (state d) s.valid s.legal i.is_flight (subst (λ (k : Key). StorePuts (state farm.store) (state d) (key_path farm.plan k) bytes (Err Failed)) (sym i.key_is) puts) s.store_is) s
  where
    p : Plan
    p = plan_of farm.plan

    e : Entry
    e = Finish job.ticket true PutFailed

    f : Flight
    f = i.flight

    marked : (k : Key) → mark_of ms.shown k ≡ mark_after p (e ∷ h) k
    marked k = here p (job_key job) k e h None (mark_of farm.marks.shown k) (mark_of ms.shown k) (marks k)
        (λ same. sym (mark_lost p h job.ticket true f i.is_flight) ∙ ap (mark_after p (e ∷ h)) (i.key_is ∙ same_key-true (job_key job) k same))
        (λ other. s.marks_are k ∙ sym (mark_lost_other p h job.ticket true f k i.is_flight (ap (λ (x : Key). same_key x k) i.key_is ∙ other)))

-- One that was not drawn, or found no memory at its end. What is shown stays.
pub finish_cut_step : {D : Type 0} (state : D → Outside StoreTold) (told : Bool) (farm : FarmSeen D) (h : List Entry) (job : JobSeen) (drawn : Bool) (ms : MarksSeen) (d : D) → IsFlight farm.plan h job → state d ≡ state farm.store →
    ((k : Key) → mark_of ms.shown k ≡ mark_of farm.marks.shown k) → StandsFor state told farm h →
    StandsFor state told (record farm { counts = one_turn_more farm.counts; taken = untaken job.ticket farm.taken; marks = ms; queues = after_end farm.queues (job_key job) Outcome.Cut; store = d }) (Finish job.ticket drawn Finished.NoMemory ∷ h)
unfolding waiting
finish_cut_step state told farm h job drawn ms d i same marks s =
    ended state told farm h job.ticket drawn Finished.NoMemory f (one_turn_more farm.counts) ms (after_end farm.queues (job_key job) Outcome.Cut) d i.is_flight (free drawn)
    (counts_turn farm.counts h e (uncounted_end job.ticket drawn Finished.NoMemory h (λ clean is. cc)) s.counts_are) (λ k. marks k ∙ (s.marks_are k ∙ sym (mark_cut p h job.ticket drawn k)))
    (subst (λ (k : Key). QueuesStand farm.plan (after_end farm.queues k Outcome.Cut) (e ∷ h)) i.key_is (queues_end farm.plan farm.queues h job.ticket drawn Finished.NoMemory f (tickets_differ p told h s.legal) (kept p told h s.legal).single i.is_flight refl s.queues_are))
    (subst (StoreStands farm.plan (state farm.first).faults told (e ∷ h)) (sym same) (store_cut farm.plan (state farm.first).faults told h job.ticket drawn (state farm.store) s.store_is)) s
  where
    p : Plan
    p = plan_of farm.plan

    e : Entry
    e = Finish job.ticket drawn Finished.NoMemory

    f : Flight
    f = i.flight

    free : (b : Bool) → EndFits p h f b Finished.NoMemory
    free true = tt
    free false = tt
