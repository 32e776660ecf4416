-- A farm that is resumed: it stands for the replay of what was saved, piece by piece.
use Rattle.std.proofs.Common.{◌≡◌, ℕ, ◌+◌, ◌-◌, ◌^◌, ◌<◌, ◌≤◌, min, Bool, true, false, not, cond, if◌then◌else◌, List, [], ◌∷◌, ◌++◌, length, map, filter, Option, Some, None, is_some, option_map, Ok, refl, sym, ap, ap₂, ◌∙◌, subst, arith}
use Rattle.std.specs.Prelude.{IfSome}
use Rattle.std.proofs.lemmas.Bool.{false≢true}
use Rattle.farm_base.specs.Outside.{Outside}
use Rattle.tile_store.specs.Stores.{StoreTold}
use Rattle.plain_shapes.specs.Features.{Layer}
use Rattle.plain_shapes.specs.Data.{update_result}
use Rattle.farm_history.specs.declared.keys.Key.{Key}
use Rattle.farm_history.specs.declared.saved.Past.{Past}
use Rattle.farm_history.specs.declared.answers.Updated.{Updated}
use Rattle.farm_history.specs.declared.answers.Renewed.{Renewed}
use Rattle.farm_history.specs.Entries.{Entry, Update, Renew}
use Rattle.farm_history.specs.Plans.{Plan, AreApart, same_key}
use Rattle.farm_history.specs.Past.{is_stopped, data_after, version, jobs, numbers, asks_made, done_asks, stored_drawings, shown, clean_count, Numbered, replies_to}
use Rattle.farm_history.specs.Rules.{Fits}
use Rattle.farm_history.specs.Laws.{flight_key}
use Rattle.farm_history.specs.Seen.{has_no_end, dirtied, mark_at, mark_after, in_queue, waiting_asks, outbox}
use Rattle.farm_history.specs.Replays.{Saving, replay_key, replay_change, past_number, changes_after}
use Rattle.farm_history.proofs.Lists.{same_key-true}
use Rattle.farm_history.proofs.Keyed.{IsServed}
use Rattle.farm_history.proofs.Since.{ChangeFits}
use Rattle.farm_history.proofs.Redrawn.{IsQuiet, redrawn_quiet, redrawn_shown, redrawn_other, redrawn_touched, redrawn_untouched, redrawn_data, redrawn_style, replies_none}
use Rattle.farm_history.proofs.Resumed.{change_legal}
use Rattle.farm_plan.specs.Plans.{FarmPlan, IsPlan}
use Rattle.farm_plan.specs.Drawings.{update_of, data_of, reaches_of, plan_of}
use Rattle.render_queues.specs.Tables.{Tables}
use Rattle.expiry_lists.specs.Marks.{MarksSeen, shown_key, mark_of, clean_marks}
use Rattle.farm_refinement.specs.declared.counts.Counts.{Counts}
use Rattle.farm_refinement.specs.Seen.{FarmSeen}
use Rattle.farm_refinement.specs.Stands.{waits_key, asked_of, failures, Accounts, HoldsShown, CountsStand, QueuesStand, StoreStands, StandsFor}
use Rattle.farm_refinement.specs.inner.Events.{updated_counts, replayed_counts, dirtied_taken}
use Rattle.farm_refinement.proofs.Changing.{no_fault, update_step, renew_step}

-- a farm in the midst of its replay: nothing waits, flies or is open, the history is legal whatever is told of the store, and the farm stands for it but for what the store holds
pub record Replays {D : Type 0} (state : D → Outside StoreTold) (farm : FarmSeen D) (g : List Entry) : Type 0 where
  pub quiet : (told : Bool) → IsQuiet (plan_of farm.plan) told g
  pub stands : StandsFor state false farm g
  pub unfailed : failures farm.plan g ≡ []

-- tables in which nothing stands go on to any history after which nothing does
queues_idle : (plan : FarmPlan) (t : Tables) (g h : List Entry) → IsQuiet (plan_of plan) false g → IsQuiet (plan_of plan) false h → QueuesStand plan t g → QueuesStand plan t h
queues_idle plan t g h before after s = record {
  limits_are = s.limits_are;
  workers_are = s.workers_are;
  waiting_is = λ queue. s.waiting_is queue ∙ ap (λ ws. map waits_key (in_queue queue ws)) (before.idle ∙ sym after.idle);
  taken_is = s.taken_is ∙ ap (map flight_key) (before.grounded ∙ sym after.grounded);
  asks_are = s.asks_are ∙ ap (map asked_of) (none g before ∙ sym (none h after));
  ended_are = s.ended_are ∙ (no_reply g before ∙ sym (no_reply h after));
}
  where
    none : (x : List Entry) → IsQuiet (plan_of plan) false x → waiting_asks x ≡ []
    none x q = ap (filter (has_no_end x)) q.answered

    no_reply : (x : List Entry) → IsQuiet (plan_of plan) false x → outbox x ≡ []
    no_reply x q = ap (λ (asks : List Numbered). replies_to asks x) q.answered ∙ replies_none x

-- A kept key: it is shown, clean and at the version of that moment.

counts_key : (c : Counts) (k : Key) (g : List Entry) → CountsStand c g → CountsStand (replayed_counts c) (replay_key k g)
unfolding is_stopped data_after numbers jobs asks_made done_asks stored_drawings
counts_key c k g s = record {
  turns_are = let long = s.turns_are in omega (arith, long);
  stopped_is = s.stopped_is;
  version_is = s.version_is;
  numbers_are = ap (λ n. n + 1) s.numbers_are;
  jobs_are = ap (λ n. n + 1) s.jobs_are;
  asks_are = ap (λ n. n + 1) s.asks_are;
  done_are = ap (λ n. n + 1) s.done_are;
  stored_are = ap (λ n. n + 1) s.stored_are;
}

key_unfailed : (plan : FarmPlan) (k : Key) (g : List Entry) → failures plan (replay_key k g) ≡ failures plan g
unfolding failures
key_unfailed plan k g = refl

mark_redrawn : (p : Plan) (g : List Entry) (k j : Key) → IsQuiet p false g → mark_after p (replay_key k g) j ≡ cond (same_key k j) (Some (record { version = version g; clean = true })) (mark_after p g j)
unfolding data_after
mark_redrawn p g k j q = go (same_key k j) refl
  where
    again : mark_after p (replay_key k g) k ≡ Some (record { version = version g; clean = true })
    again = ap (mark_at p (replay_key k g) k) (redrawn_shown p false g k q) ∙ ap (λ b. Some (record { version = version g; clean = not b })) (redrawn_untouched p g k k)

    still : (o : Option (List Entry)) → mark_at p (replay_key k g) j o ≡ mark_at p g j o
    still None = refl
    still (Some before) = ap (λ b. Some (record { version = version before; clean = not b })) (redrawn_touched p g k (length before) j)

    go : (b : Bool) → same_key k j ≡ b → mark_after p (replay_key k g) j ≡ cond b (Some (record { version = version g; clean = true })) (mark_after p g j)
    go true same = sym (ap (mark_after p (replay_key k g)) (same_key-true k j same)) ∙ again
    go false other = ap (mark_at p (replay_key k g) j) (redrawn_other p false g k j q other) ∙ still (shown g j)

-- what the store counts goes on to any history with as many failed calls
pub still_counted : (plan : FarmPlan) (since : ℕ) (g h : List Entry) → failures plan h ≡ failures plan g → (o : Option StoreTold) → IfSome o (Accounts plan since g) → IfSome o (Accounts plan since h)
still_counted plan since g h same None a = tt
still_counted plan since g h same (Some t) a = record { began = a.began; failed = a.failed ∙ sym same }

untold : (plan : FarmPlan) (since : ℕ) (g h : List Entry) (now : Outside StoreTold) → failures plan h ≡ failures plan g → StoreStands plan since false g now → StoreStands plan since false h now
untold plan since g h now same s = record {
  counted = subst (λ xs. min (since + length xs) (2 ^ 64 - 1) ≤ now.faults) (sym same) s.counted;
  accounts = still_counted plan since g h same now.told s.accounts;
  is_told = λ t. absurd (false≢true t);
  holds = λ t. absurd (false≢true t);
}

-- a valid plan has a worker, and room in its bulk queue
workers : (plan : FarmPlan) → IsPlan plan → 0 < (plan_of plan).workers
unfolding plan_of
workers plan valid = let some = valid.count_workers.some in omega (arith, some)

room : (plan : FarmPlan) → IsPlan plan → 0 < (plan_of plan).limits.bulk
unfolding plan_of
room plan valid = let some = valid.limited.bulk.some in omega (arith, some)

same_changes : (k : Key) (g : List Entry) → changes_after g ≡ changes_after (replay_key k g)
unfolding changes_after
same_changes k g = refl

update_unfailed : (plan : FarmPlan) (n v : ℕ) (g : List Entry) → failures plan (Update n (Updated.Version v) ∷ g) ≡ failures plan g
unfolding failures
update_unfailed plan n v g = refl

renew_unfailed : (plan : FarmPlan) (n v count : ℕ) (g : List Entry) → failures plan (Renew n (Renewed.Version v count) ∷ g) ≡ failures plan g
unfolding failures
renew_unfailed plan n v count g = refl

fits_again : {D : Type 0} (state : D → Outside StoreTold) (farm : FarmSeen D) (g : List Entry) (c : Past) (new : List Layer) → past_number c < length farm.plan.updates → update_result (update_of farm.plan (past_number c)) farm.data_now ≡ Ok new → StandsFor state false farm g → ChangeFits (plan_of farm.plan) (data_after g) c
unfolding plan_of
fits_again state farm g c new lt fits s = record { in_table = lt; no_fault = no_fault state false farm g (past_number c) new fits s }

-- a renew's numbers are those of the history, as it is legal
as_fits : {D : Type 0} (state : D → Outside StoreTold) (farm : FarmSeen D) (g : List Entry) (n v count : ℕ) → StandsFor state false farm (Renew n (Renewed.Version v count) ∷ g) → StandsFor state false farm (replay_change (plan_of farm.plan) (Past.Renew n) g)
unfolding Fits
as_fits state farm g n v count s = subst (λ x. StandsFor state false farm (Renew n (Renewed.Version x (clean_count (plan_of farm.plan) g ((plan_of farm.plan).reaches (data_after g) n))) ∷ g)) s.legal.0.2 (subst (λ x. StandsFor state false farm (Renew n (Renewed.Version v x) ∷ g)) s.legal.0.3 s)

pub replay_key_step : {D : Type 0} (state : D → Outside StoreTold) (farm : FarmSeen D) (g : List Entry) (k : Key) (ms : MarksSeen) → IsServed (plan_of farm.plan) k → shown g k ≡ None →
    ((j : Key) → mark_of ms.shown j ≡ (if same_key k j then Some (record { version = farm.counts.version; clean = true }) else mark_of farm.marks.shown j)) → Replays state farm g →
    Replays state (record farm { counts = replayed_counts farm.counts; marks = ms }) (replay_key k g)
replay_key_step state farm g k ms served unseen marks r = record {
  quiet = now;
  stands = record {
    valid = r.stands.valid;
    legal = (now false).legal;
    counts_are = counts_key farm.counts k g r.stands.counts_are;
    data_is = r.stands.data_is ∙ ap (data_of farm.plan) (sym (redrawn_data g k));
    changes_are = r.stands.changes_are ∙ same_changes k g;
    styles_are = λ m lt. r.stands.styles_are m lt ∙ ap (λ o. Some o) (sym (redrawn_style p g k m));
    taken_are = r.stands.taken_are ∙ (ap (map _) (r.quiet false).grounded ∙ sym (ap (map _) (now false).grounded));
    marks_are = λ j. marks j ∙ (ap₂ (λ v m. cond (same_key k j) (Some (record { version = v; clean = true })) m) r.stands.counts_are.version_is (r.stands.marks_are j) ∙ sym (mark_redrawn p g k j (r.quiet false)));
    queues_are = queues_idle farm.plan farm.queues g (replay_key k g) (r.quiet false) (now false) r.stands.queues_are;
    store_is = untold farm.plan (state farm.first).faults g (replay_key k g) (state farm.store) (key_unfailed farm.plan k g) r.stands.store_is;
  };
  unfailed = key_unfailed farm.plan k g ∙ r.unfailed;
}
  where
    p : Plan
    p = plan_of farm.plan

    now : (told : Bool) → IsQuiet p told (replay_key k g)
    now told = redrawn_quiet p told g k (r.quiet told) served (workers farm.plan r.stands.valid) (room farm.plan r.stands.valid) unseen

-- An update that is made again.
pub replay_update_step : {D : Type 0} (state : D → Outside StoreTold) (farm : FarmSeen D) (g : List Entry) (n : ℕ) (new : List Layer) → n < length farm.plan.updates → update_result (update_of farm.plan n) farm.data_now ≡ Ok new → Replays state farm g →
    Replays state (record farm { counts = updated_counts farm.counts; data_now = new; changes = farm.changes ++ Past.Update n ∷ [] }) (replay_change (plan_of farm.plan) (Past.Update n) g)
replay_update_step state farm g n new lt fits r = record {
  quiet = λ told. change_legal (plan_of farm.plan) told (Past.Update n) g (fits_again state farm g (Past.Update n) new lt fits r.stands) (r.quiet told);
  stands = subst (λ v. StandsFor state false (record farm { counts = updated_counts farm.counts; data_now = new; changes = farm.changes ++ Past.Update n ∷ [] }) (Update n (Updated.Version (v + 1)) ∷ g)) r.stands.counts_are.version_is (update_step state false farm g n new lt fits r.stands);
  unfailed = update_unfailed farm.plan n (version g + 1) g ∙ r.unfailed;
}

-- A renew that is made again.
pub replay_renew_step : {D : Type 0} (state : D → Outside StoreTold) (farm : FarmSeen D) (g : List Entry) (n : ℕ) (new : List Layer) (test : Key → Bool) (ms : MarksSeen) → n < length farm.plan.updates → update_result (update_of farm.plan n) farm.data_now ≡ Ok new → AreApart shown_key farm.marks.shown →
    ((k : Key) → is_some (mark_of farm.marks.shown k) ≡ true → test k ≡ reaches_of farm.plan farm.data_now n k) → ((k : Key) → mark_of ms.shown k ≡ option_map (dirtied (test k)) (mark_of farm.marks.shown k)) → Replays state farm g →
    Replays state (record farm { counts = updated_counts farm.counts; data_now = new; changes = farm.changes ++ Past.Renew n ∷ []; taken = dirtied_taken (reaches_of farm.plan farm.data_now n) farm.taken; marks = ms }) (replay_change (plan_of farm.plan) (Past.Renew n) g)
replay_renew_step state farm g n new test ms lt fits apart agree marks r = record {
  quiet = λ told. change_legal (plan_of farm.plan) told (Past.Renew n) g (fits_again state farm g (Past.Renew n) new lt fits r.stands) (r.quiet told);
  stands = as_fits state _ g n (farm.counts.version + 1) (clean_marks test farm.marks.shown) (renew_step state false farm g n new test ms lt fits apart agree marks r.stands);
  unfailed = renew_unfailed farm.plan n (version g + 1) (clean_count (plan_of farm.plan) g ((plan_of farm.plan).reaches (data_after g) n)) g ∙ r.unfailed;
}

-- When the replay is done: where the store holds what is shown, that may be told.
pub resumed_stands : {D : Type 0} (state : D → Outside StoreTold) (told : Bool) (farm : FarmSeen D) (r : List Entry) (saved : Option Saving) → Replays state farm r → (told ≡ true → is_some (state farm.store).told ≡ true) → (told ≡ true → IfSome (state farm.store).told (λ t. HoldsShown farm.plan r t.content)) →
    StandsFor state told (record farm { saved = saved }) r
resumed_stands state told farm r saved replays tells holds = record {
  valid = replays.stands.valid;
  legal = (replays.quiet told).legal;
  counts_are = replays.stands.counts_are;
  data_is = replays.stands.data_is;
  changes_are = replays.stands.changes_are;
  styles_are = replays.stands.styles_are;
  taken_are = replays.stands.taken_are;
  marks_are = replays.stands.marks_are;
  queues_are = replays.stands.queues_are;
  store_is = record { counted = replays.stands.store_is.counted; accounts = replays.stands.store_is.accounts; is_told = tells; holds = holds };
}
