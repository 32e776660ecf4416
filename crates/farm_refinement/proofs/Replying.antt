-- Replies, leaves, stops and tallies.
use Rattle.std.proofs.Common.{◌≡◌, ℕ, Bool, true, false, not, ◌==◌, List, [], ◌∷◌, filter, find, slice_get, Some, None, refl, sym, ap, ap₂, ◌∙◌, subst}
use Rattle.farm_base.specs.Outside.{Outside}
use Rattle.tile_store.specs.Stores.{StoreTold}
use Rattle.farm_history.specs.declared.queues.Conn.{Conn}
use Rattle.farm_history.specs.declared.queues.Reply.{Reply}
use Rattle.farm_history.specs.declared.answers.Collected.{Collected}
use Rattle.farm_history.specs.Entries.{Entry, Collect, Leave, Stop}
use Rattle.farm_history.specs.Lists.{Each, Differ, without_first}
use Rattle.farm_history.specs.Past.{is_stopped, data_after, style_after, flights, jobs, numbers, asks_made, done_asks, stored_drawings, shown, waiting, open_asks, is_ended_after, replies_to, totals}
use Rattle.farm_history.specs.Rules.{collect_from, collect_rule, Fits}
use Rattle.farm_history.specs.Seen.{outbox}
use Rattle.farm_history.specs.Replays.{changes_after}
use Rattle.farm_history.proofs.Ends.{ended_outbox}
use Rattle.farm_history.proofs.Queued.{find_first}
use Rattle.farm_history.proofs.Numbers.{reply_number, without_first-number, outbox_differs}
use Rattle.farm_history.proofs.OneReply.{IsOpen, counted}
use Rattle.farm_history.proofs.Replies.{collected}
use Rattle.farm_plan.specs.Plans.{FarmPlan}
use Rattle.farm_plan.specs.Drawings.{plan_of}
use Rattle.render_queues.specs.Tables.{is_of_front, after_leave, open_of}
use Rattle.farm_refinement.specs.Seen.{FarmSeen}
use Rattle.farm_refinement.specs.Stands.{failures, QueuesStand, StandsFor}
use Rattle.farm_refinement.specs.inner.Events.{one_turn_more, collected_by, collect_at, collected_counts, stopped_counts, tally_of}
use Rattle.farm_refinement.proofs.Storing.{store_quiet}
use Rattle.farm_refinement.proofs.Counting.{IsUncounted, counts_turn, counts_reply, counts_stop}
use Rattle.farm_refinement.proofs.Queueing.{queues_quiet, queues_leave, queues_reply, open_of_is}
use Rattle.farm_refinement.proofs.Stepping.{LeavesAll, quiet, is_idle, idle_step}

-- ---- replies

-- the first of a front's replies is the first of all that is the front's
first_of : (rs : List Reply) (stopped : Bool) (front : ℕ) → collected_by (find (is_of_front front) rs) stopped ≡ collect_from (filter (is_of_front front) rs) stopped
first_of rs stopped front = ap (λ o. collected_by o stopped) (find_first (is_of_front front) rs) ∙ go (filter (is_of_front front) rs) stopped
  where
    go : (xs : List Reply) (b : Bool) → collected_by (slice_get xs 0) b ≡ collect_from xs b
    go [] true = refl
    go [] false = refl
    go (x ∷ xs) b = refl

-- the farm's own answer to a collect is that of the history
pub collect_is : {D : Type 0} (state : D → Outside StoreTold) (told : Bool) (farm : FarmSeen D) (g : List Entry) (front : ℕ) → StandsFor state told farm g → collect_at farm front ≡ collect_rule g front
collect_is state told farm g front s =
    ap₂ (λ rs b. collected_by (find (is_of_front front) rs) b) s.queues_are.ended_are s.counts_are.stopped_is
    ∙ (first_of (outbox g) (is_stopped g) front ∙ ap (λ rs. collect_from rs (is_stopped g)) (sym (ended_outbox g front)))

no_reply : (front : ℕ) (stopped : Bool) → is_idle (Collect front (collected_by None stopped)) ≡ true
no_reply front true = refl
no_reply front false = refl

-- a collect without a reply
pub collect_none_step : {D : Type 0} (state : D → Outside StoreTold) (told : Bool) (farm : FarmSeen D) (g : List Entry) (front : ℕ) → find (is_of_front front) farm.queues.ended ≡ None → StandsFor state told farm g →
    StandsFor state told (record farm { counts = one_turn_more farm.counts }) (Collect front (collected_by None farm.counts.stopped) ∷ g)
unfolding Fits
collect_none_step state told farm g front none s =
    idle_step state told farm g (Collect front (collected_by None farm.counts.stopped)) (no_reply front farm.counts.stopped) (ap (λ o. collected_by o farm.counts.stopped) (sym none) ∙ collect_is state told farm g front s) s

quiet_reply : (plan : FarmPlan) (g : List Entry) (front : ℕ) (r : Reply) → LeavesAll plan g (Collect front (Collected.Reply r))
unfolding flights data_after changes_after style_after
quiet_reply plan g front r = record { no_finish = refl; untouched = λ k. refl; same_flights = refl; same_data = refl; same_changes = refl; same_styles = λ m. refl }

-- a collect of the front's first reply
pub collect_reply_step : {D : Type 0} (state : D → Outside StoreTold) (told : Bool) (farm : FarmSeen D) (g : List Entry) (front : ℕ) (r : Reply) → find (is_of_front front) farm.queues.ended ≡ Some r → StandsFor state told farm g →
    StandsFor state told (record farm { counts = collected_counts r farm.counts; queues = record farm.queues { ended = without_first (is_of_front front) farm.queues.ended } }) (Collect front (Collected.Reply r) ∷ g)
unfolding Fits shown failures
collect_reply_step state told farm g front r found s =
    quiet state told farm g e (collected_counts r farm.counts) (record farm.queues { ended = without_first (is_of_front front) farm.queues.ended }) farm.store s (quiet_reply farm.plan g front r) fits (counts_reply farm.counts g front r s.counts_are)
    (subst (λ xs. QueuesStand farm.plan (record farm.queues { ended = xs }) (e ∷ g)) (sym taken_out) (queues_reply farm.plan farm.queues g front r opens (collected (IsOpen g) g front r opens fits) s.queues_are))
    (store_quiet farm.plan (state farm.first).faults told g e (state farm.store) refl (λ k. refl) s.store_is)
  where
    e : Entry
    e = Collect front (Collected.Reply r)

    fits : Collected.Reply r ≡ collect_rule g front
    fits = ap (λ o. collected_by o farm.counts.stopped) (sym found) ∙ collect_is state told farm g front s

    opens : Each (IsOpen g) (open_asks g)
    opens = (counted (plan_of farm.plan) told g s.legal).opens

    taken_out : without_first (is_of_front front) farm.queues.ended ≡ filter (λ x. not (x.ask == r.ask)) farm.queues.ended
    taken_out =
        without_first-number reply_number (is_of_front front) farm.queues.ended r
        (subst (λ xs. Differ reply_number xs) (sym s.queues_are.ended_are) (outbox_differs (plan_of farm.plan) told g s.legal)) found

-- ---- leaves

quiet_leave : (plan : FarmPlan) (g : List Entry) (conn : Conn) (count : ℕ) → LeavesAll plan g (Leave conn count)
unfolding flights data_after changes_after style_after
quiet_leave plan g conn count = record { no_finish = refl; untouched = λ k. refl; same_flights = refl; same_data = refl; same_changes = refl; same_styles = λ m. refl }

uncounted_leave : (g : List Entry) (conn : Conn) (count : ℕ) → IsUncounted (Leave conn count) g
unfolding is_stopped data_after numbers jobs asks_made done_asks stored_drawings
uncounted_leave g conn count = record { stopped_same = refl; version_same = refl; numbers_same = refl; jobs_same = refl; asks_same = refl; done_same = refl; stored_same = refl }

-- a leave takes the connection's asks and replies out, and tells how many they were
pub leave_step : {D : Type 0} (state : D → Outside StoreTold) (told : Bool) (farm : FarmSeen D) (g : List Entry) (conn : Conn) → StandsFor state told farm g →
    StandsFor state told (record farm { counts = one_turn_more farm.counts; queues = after_leave farm.queues conn }) (Leave conn (open_of farm.queues conn) ∷ g)
unfolding Fits shown failures
leave_step state told farm g conn s =
    quiet state told farm g e (one_turn_more farm.counts) (after_leave farm.queues conn) farm.store s (quiet_leave farm.plan g conn (open_of farm.queues conn)) (open_of_is farm.plan farm.queues g conn s.queues_are)
    (counts_turn farm.counts g e (uncounted_leave g conn (open_of farm.queues conn)) s.counts_are) (queues_leave farm.plan farm.queues g conn (open_of farm.queues conn) s.queues_are)
    (store_quiet farm.plan (state farm.first).faults told g e (state farm.store) refl (λ k. refl) s.store_is)
  where
    e : Entry
    e = Leave conn (open_of farm.queues conn)

-- ---- stops and tallies

quiet_stop : (plan : FarmPlan) (g : List Entry) → LeavesAll plan g Stop
unfolding flights data_after changes_after style_after
quiet_stop plan g = record { no_finish = refl; untouched = λ k. refl; same_flights = refl; same_data = refl; same_changes = refl; same_styles = λ m. refl }

pub stop_step : {D : Type 0} (state : D → Outside StoreTold) (told : Bool) (farm : FarmSeen D) (g : List Entry) → StandsFor state told farm g → StandsFor state told (record farm { counts = stopped_counts farm.counts }) (Stop ∷ g)
unfolding Fits shown failures waiting flights open_asks is_ended_after replies_to
stop_step state told farm g s =
    quiet state told farm g Stop (stopped_counts farm.counts) farm.queues farm.store s (quiet_stop farm.plan g) tt (counts_stop farm.counts g s.counts_are)
    (queues_quiet farm.plan farm.queues g Stop refl refl refl refl s.queues_are) (store_quiet farm.plan (state farm.first).faults told g Stop (state farm.store) refl (λ k. refl) s.store_is)

-- a tally is answered by the counts
pub tally_is : {D : Type 0} (state : D → Outside StoreTold) (told : Bool) (farm : FarmSeen D) (g : List Entry) → StandsFor state told farm g → tally_of farm.counts ≡ totals g
tally_is state told farm g s = λ i. record { asks = s.counts_are.asks_are i; done = s.counts_are.done_are i; stored = s.counts_are.stored_are i; version = s.counts_are.version_is i }
