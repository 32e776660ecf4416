-- What all events share: the farm after an entry that is no claim of a job and no end of a drawing.
use Rattle.std.proofs.Common.{◌≡◌, ℕ, ◌<◌, Bool, true, false, List, ◌∷◌, length, slice_get, Option, Some, option_map, refl, sym, ap, ap₂, ◌∙◌}
use Rattle.plain_shapes.specs.Features.{Layer}
use Rattle.farm_base.specs.Outside.{Outside}
use Rattle.tile_store.specs.Stores.{StoreTold}
use Rattle.farm_history.specs.declared.keys.Key.{Key}
use Rattle.farm_history.specs.declared.saved.Past.{Past}
use Rattle.farm_history.specs.declared.answers.ClaimAnswer.TheVariants.{Job}
use Rattle.farm_history.specs.declared.answers.Updated.{Updated}
use Rattle.farm_history.specs.declared.answers.Renewed.{Renewed}
use Rattle.farm_history.specs.declared.answers.Restyled.TheVariants.{Styled}
use Rattle.farm_history.specs.declared.answers.Fetched.{Fetched}
use Rattle.farm_history.specs.declared.answers.Collected.{Collected}
use Rattle.farm_history.specs.Entries.{Entry, Ask, Claim, Finish, Update, Renew, Restyle, Expire, Fetch, Collect, Leave, Stop}
use Rattle.farm_history.specs.Past.{is_stopped, data_after, style_after, flights, jobs, numbers, asks_made, done_asks, stored_drawings, shown, waiting, open_asks, is_ended_after, replies_to, touches}
use Rattle.farm_history.specs.Rules.{Fits}
use Rattle.farm_history.specs.Seen.{dirtied, waiting_asks, outbox}
use Rattle.farm_history.specs.Replays.{changes_after}
use Rattle.farm_history.proofs.Marks.{is_finish, mark_quiet, taken_dirtied, taken_quiet}
use Rattle.farm_plan.specs.Plans.{FarmPlan}
use Rattle.farm_plan.specs.Drawings.{plan_of, data_of}
use Rattle.render_queues.specs.Tables.{Tables}
use Rattle.expiry_lists.specs.Marks.{MarksSeen, mark_of}
use Rattle.farm_refinement.specs.declared.counts.Counts.{Counts}
use Rattle.farm_refinement.specs.Seen.{FarmSeen}
use Rattle.farm_refinement.specs.Stands.{failures, CountsStand, QueuesStand, StoreStands, StandsFor}
use Rattle.farm_refinement.specs.inner.Events.{one_turn_more, dirtied_taken}
use Rattle.farm_refinement.proofs.Storing.{store_quiet}
use Rattle.farm_refinement.proofs.Counting.{IsUncounted, counts_turn}
use Rattle.farm_refinement.proofs.Queueing.{queues_quiet}
use Rattle.farm_refinement.proofs.Marking.{marks_touched}

-- an entry that leaves data, styles and drawings under way, and touches nothing
pub record LeavesAll (plan : FarmPlan) (g : List Entry) (e : Entry) : Type 0 where
  pub no_finish : is_finish e ≡ false
  pub untouched : (k : Key) → touches (plan_of plan) g e k ≡ false
  pub same_flights : flights (e ∷ g) ≡ flights g
  pub same_data : data_after (e ∷ g) ≡ data_after g
  pub same_changes : changes_after (e ∷ g) ≡ changes_after g
  pub same_styles : (m : ℕ) → style_after (plan_of plan) (e ∷ g) m ≡ style_after (plan_of plan) g m

pub quiet : {D : Type 0} (state : D → Outside StoreTold) (told : Bool) (farm : FarmSeen D) (g : List Entry) (e : Entry) (c : Counts) (t : Tables) (s : D) → StandsFor state told farm g → LeavesAll farm.plan g e → Fits (plan_of farm.plan) told g e →
    CountsStand c (e ∷ g) → QueuesStand farm.plan t (e ∷ g) → StoreStands farm.plan (state farm.first).faults told (e ∷ g) (state s) → StandsFor state told (record farm { counts = c; queues = t; store = s }) (e ∷ g)
quiet state told farm g e c t s stands q fits counts queues stored = record {
  valid = stands.valid;
  legal = (fits, stands.legal);
  counts_are = counts;
  data_is = stands.data_is ∙ ap (data_of farm.plan) (sym q.same_data);
  changes_are = stands.changes_are ∙ sym q.same_changes;
  styles_are = λ m lt. stands.styles_are m lt ∙ ap (λ o. Some o) (sym (q.same_styles m));
  taken_are = stands.taken_are ∙ sym (taken_quiet (plan_of farm.plan) g e q.same_flights q.untouched);
  marks_are = λ k. stands.marks_are k ∙ sym (mark_quiet (plan_of farm.plan) g e k q.no_finish (q.untouched k));
  queues_are = queues;
  store_is = stored;
}

-- an entry that changes the data alone
pub changing : {D : Type 0} (state : D → Outside StoreTold) (told : Bool) (farm : FarmSeen D) (g : List Entry) (e : Entry) (c : Counts) (d : List Layer) (cs : List Past) → StandsFor state told farm g → is_finish e ≡ false → ((k : Key) → touches (plan_of farm.plan) g e k ≡ false) →
    flights (e ∷ g) ≡ flights g → ((m : ℕ) → style_after (plan_of farm.plan) (e ∷ g) m ≡ style_after (plan_of farm.plan) g m) → Fits (plan_of farm.plan) told g e → CountsStand c (e ∷ g) → d ≡ data_of farm.plan (data_after (e ∷ g)) → cs ≡ changes_after (e ∷ g) →
    QueuesStand farm.plan farm.queues (e ∷ g) → StoreStands farm.plan (state farm.first).faults told (e ∷ g) (state farm.store) → StandsFor state told (record farm { counts = c; data_now = d; changes = cs }) (e ∷ g)
changing state told farm g e c d cs stands no_finish untouched same_flights same_styles fits counts data_now changes queues stored = record {
  valid = stands.valid;
  legal = (fits, stands.legal);
  counts_are = counts;
  data_is = data_now;
  changes_are = changes;
  styles_are = λ m lt. stands.styles_are m lt ∙ ap (λ o. Some o) (sym (same_styles m));
  taken_are = stands.taken_are ∙ sym (taken_quiet (plan_of farm.plan) g e same_flights untouched);
  marks_are = λ k. stands.marks_are k ∙ sym (mark_quiet (plan_of farm.plan) g e k no_finish (untouched k));
  queues_are = queues;
  store_is = stored;
}

same_tests : (q r : Key → Bool) → ((k : Key) → q k ≡ r k) → q ≡ r
same_tests q r same = λ i k. same k i

-- an entry that touches the keys which pass a test
pub touching : {D : Type 0} (state : D → Outside StoreTold) (told : Bool) (farm : FarmSeen D) (g : List Entry) (e : Entry) (test : Key → Bool) (c : Counts) (d : List Layer) (cs : List Past) (st : List (Option ℕ)) (ms : MarksSeen) (t : Tables) →
    StandsFor state told farm g → is_finish e ≡ false → ((k : Key) → touches (plan_of farm.plan) g e k ≡ test k) → flights (e ∷ g) ≡ flights g → Fits (plan_of farm.plan) told g e →
    CountsStand c (e ∷ g) → d ≡ data_of farm.plan (data_after (e ∷ g)) → cs ≡ changes_after (e ∷ g) → ((m : ℕ) → m < length farm.plan.maps → slice_get st m ≡ Some (style_after (plan_of farm.plan) (e ∷ g) m)) →
    ((k : Key) → mark_of ms.shown k ≡ option_map (dirtied (test k)) (mark_of farm.marks.shown k)) → QueuesStand farm.plan t (e ∷ g) → StoreStands farm.plan (state farm.first).faults told (e ∷ g) (state farm.store) →
    StandsFor state told (record farm { counts = c; data_now = d; changes = cs; styled = st; taken = dirtied_taken test farm.taken; marks = ms; queues = t }) (e ∷ g)
touching state told farm g e test c d cs st ms t stands no_finish tests same_flights fits counts data_now changes styles marks queues stored = record {
  valid = stands.valid;
  legal = (fits, stands.legal);
  counts_are = counts;
  data_is = data_now;
  changes_are = changes;
  styles_are = styles;
  taken_are = ap₂ dirtied_taken (sym (same_tests (touches (plan_of farm.plan) g e) test tests)) stands.taken_are ∙ sym (taken_dirtied (plan_of farm.plan) g e same_flights);
  marks_are = marks_touched (plan_of farm.plan) g e test farm.marks.shown ms.shown no_finish tests marks stands.marks_are;
  queues_are = queues;
  store_is = stored;
}

-- what an entry without effect is
pub record IsIdle (plan : FarmPlan) (g : List Entry) (e : Entry) : Type 0 where
  pub uncounted : IsUncounted e g
  pub quiet_one : LeavesAll plan g e
  pub same_waiting : waiting (plan_of plan) (e ∷ g) ≡ waiting (plan_of plan) g
  pub same_asks : waiting_asks (e ∷ g) ≡ waiting_asks g
  pub same_replies : outbox (e ∷ g) ≡ outbox g
  pub same_failures : failures plan (e ∷ g) ≡ failures plan g
  pub same_shown : (k : Key) → shown (e ∷ g) k ≡ shown g k

-- whether an entry changes nothing but the number of calls: it is no ask, no drawing's claim or end, no change that succeeded, no expiry, no failed read, no reply, no leave and no Stop
abbrev pub is_idle : Entry → Bool
is_idle (Ask conn command spot answer) = false
is_idle (Claim worker (Job t k v)) = false
is_idle (Finish t drawn answer) = false
is_idle (Update n (Updated.Version v)) = false
is_idle (Renew n (Renewed.Version v count)) = false
is_idle (Restyle n (Styled count)) = false
is_idle (Expire tile count) = false
is_idle (Fetch spot Fetched.GetFailed) = false
is_idle (Collect front (Collected.Reply r)) = false
is_idle (Leave conn count) = false
is_idle Stop = false
is_idle _ = true

pub idle : (plan : FarmPlan) (g : List Entry) (e : Entry) → is_idle e ≡ true → IsIdle plan g e
unfolding is_stopped data_after numbers jobs asks_made done_asks stored_drawings flights changes_after style_after waiting open_asks is_ended_after replies_to failures shown
idle plan g (Ask conn command spot answer) h = let never : false ≡ true = h in cc
idle plan g (Claim worker (Job t k v)) h = let never : false ≡ true = h in cc
idle plan g (Finish t drawn answer) h = let never : false ≡ true = h in cc
idle plan g (Update n (Updated.Version v)) h = let never : false ≡ true = h in cc
idle plan g (Renew n (Renewed.Version v count)) h = let never : false ≡ true = h in cc
idle plan g (Restyle n (Styled count)) h = let never : false ≡ true = h in cc
idle plan g (Expire tile count) h = let never : false ≡ true = h in cc
idle plan g (Fetch spot Fetched.GetFailed) h = let never : false ≡ true = h in cc
idle plan g (Collect front (Collected.Reply r)) h = let never : false ≡ true = h in cc
idle plan g (Leave conn count) h = let never : false ≡ true = h in cc
idle plan g Stop h = let never : false ≡ true = h in cc
idle plan g e h = record {
  uncounted = record { stopped_same = refl; version_same = refl; numbers_same = refl; jobs_same = refl; asks_same = refl; done_same = refl; stored_same = refl };
  quiet_one = record { no_finish = refl; untouched = λ k. refl; same_flights = refl; same_data = refl; same_changes = refl; same_styles = λ m. refl };
  same_waiting = refl;
  same_asks = refl;
  same_replies = refl;
  same_failures = refl;
  same_shown = λ k. refl;
}

-- it is one more call, and nothing else
pub idle_step : {D : Type 0} (state : D → Outside StoreTold) (told : Bool) (farm : FarmSeen D) (g : List Entry) (e : Entry) → is_idle e ≡ true → Fits (plan_of farm.plan) told g e → StandsFor state told farm g → StandsFor state told (record farm { counts = one_turn_more farm.counts }) (e ∷ g)
idle_step state told farm g e is fits s =
    let i = idle farm.plan g e is in
    quiet state told farm g e (one_turn_more farm.counts) farm.queues farm.store s i.quiet_one fits (counts_turn farm.counts g e i.uncounted s.counts_are)
    (queues_quiet farm.plan farm.queues g e i.same_waiting i.quiet_one.same_flights i.same_asks i.same_replies s.queues_are)
    (store_quiet farm.plan (state farm.first).faults told g e (state farm.store) i.same_failures i.same_shown s.store_is)
