-- Asks.
use Rattle.std.proofs.Common.{◌≡◌, ℕ, ◌+◌, Bool, true, false, not, ◌&&◌, ◌||◌, cond, nat_le, List, ◌∷◌, length, option_map, refl, sym, ap, ap₂, ◌∙◌, arith}
use Rattle.std.specs.List.{list_any}
use Rattle.farm_base.specs.Outside.{Outside}
use Rattle.tile_store.specs.Stores.{StoreTold}
use Rattle.farm_history.specs.declared.keys.Key.{Key}
use Rattle.farm_history.specs.declared.queues.Conn.{Conn}
use Rattle.farm_history.specs.declared.queues.Queue.{Queue}
use Rattle.farm_history.specs.declared.asks.Cmd.{Cmd}
use Rattle.farm_history.specs.declared.asks.Spot.{Spot}
use Rattle.farm_history.specs.declared.asks.AskAnswer.{AskAnswer}
use Rattle.farm_history.specs.declared.asks.AskAnswer.TheVariants.{Lifted, Silent}
use Rattle.farm_history.specs.Entries.{Entry, Ask}
use Rattle.farm_history.specs.Plans.{Plan, same_key, is_in, key_of, is_servable, is_dirty_command, is_lifting, own_queue, waits_in_queue}
use Rattle.farm_history.specs.Past.{is_stopped, data_after, style_after, flights, shown, is_clean, is_overtaken, waiting, numbers, open_asks, how_many_of, asks_made, done_asks, stored_drawings, jobs, touches}
use Rattle.farm_history.specs.Rules.{ask_rule, Fits}
use Rattle.farm_history.specs.inner.Asks.{answer_by, tests_of}
use Rattle.farm_history.specs.Seen.{dirtied, Taken, taken_of, is_clean_mark}
use Rattle.farm_history.specs.Replays.{changes_after}
use Rattle.farm_history.proofs.Lists.{same_key-self, any-map}
use Rattle.farm_history.proofs.Apart.{ask_dirty, ask_render, kept}
use Rattle.farm_plan.specs.Plans.{FarmPlan}
use Rattle.farm_plan.specs.Drawings.{plan_of}
use Rattle.render_queues.specs.Tables.{open_of, open_count}
use Rattle.expiry_lists.specs.Marks.{MarksSeen, mark_of}
use Rattle.farm_refinement.specs.Seen.{FarmSeen}
use Rattle.farm_refinement.specs.Stands.{failures, StandsFor}
use Rattle.farm_refinement.specs.inner.Events.{one_turn_more, asked_counts, tests_at, asked_tables, marked_tables, dirtied_taken}
use Rattle.farm_refinement.proofs.Storing.{store_quiet}
use Rattle.farm_refinement.proofs.Counting.{IsUncounted, counts_turn, counts_ask}
use Rattle.farm_refinement.proofs.Queueing.{flies_at, waits_are, waits_there, room_is, open_of_is, open_count_is, lifted_by, queues_ask, queues_mark, queues_unmarked}
use Rattle.farm_refinement.proofs.Marking.{clean_is}
use Rattle.farm_refinement.proofs.Stepping.{LeavesAll, quiet, touching}

-- the farm's own tests of an ask are those of the history
pub tests_are : {D : Type 0} (state : D → Outside StoreTold) (told : Bool) (farm : FarmSeen D) (g : List Entry) (conn : Conn) (command : Cmd) (spot : Spot) → StandsFor state told farm g → tests_at farm conn command spot ≡ tests_of (plan_of farm.plan) g conn command spot
unfolding plan_of
tests_are state told farm g conn command spot s = λ i. record {
  stopped = s.counts_are.stopped_is i;
  servable = is_servable p spot;
  clean = clean i;
  backlog = backlog i;
  overtaken = overtaken i;
  flies = flies_at farm.plan farm.queues g k s.queues_are i;
  liftable = liftable i;
  in_dirty = waits_there farm.plan farm.queues g Queue.Dirty k s.queues_are i;
  waits = waits_are farm.plan farm.queues g k s.queues_are i;
  own_room = room_is farm.plan farm.queues g (own_queue command) s.queues_are i;
  dirty_room = room_is farm.plan farm.queues g Queue.Dirty s.queues_are i;
}
  where
    p : Plan
    p = plan_of farm.plan

    k : Key
    k = key_of spot

    clean : is_clean_mark (mark_of farm.marks.shown k) ≡ is_clean p g k
    clean = ap is_clean_mark (s.marks_are k) ∙ clean_is p g k

    backlog : nat_le 64 (open_of farm.queues conn) || nat_le 4096 (open_count farm.queues) ≡ (nat_le 64 (how_many_of conn (open_asks g)) || nat_le 4096 (length (open_asks g)))
    backlog = ap₂ (λ m n. nat_le 64 m || nat_le 4096 n) (open_of_is farm.plan farm.queues g conn s.queues_are) (open_count_is farm.plan farm.queues g s.queues_are)

    overtaken : list_any (λ (x : Taken). same_key x.key k && x.touched) farm.taken ≡ is_overtaken p g k
    overtaken = ap (list_any (λ (x : Taken). same_key x.key k && x.touched)) s.taken_are ∙ any-map (taken_of p g) (λ (x : Taken). same_key x.key k && x.touched) (flights g)

    liftable : is_lifting command && (is_in k farm.queues.lines.dirty.keys || is_in k farm.queues.lines.bulk.keys) ≡ (is_lifting command && (waits_in_queue (waiting p g) Queue.Dirty k || waits_in_queue (waiting p g) Queue.Bulk k))
    liftable = ap₂ (λ a b. is_lifting command && (a || b)) (waits_there farm.plan farm.queues g Queue.Dirty k s.queues_are) (waits_there farm.plan farm.queues g Queue.Bulk k s.queues_are)

-- what was lifted waits in the dirty or the bulk queue
lifts_from : (p : Plan) (g : List Entry) (conn : Conn) (command : Cmd) (spot : Spot) (n : ℕ) → is_dirty_command command ≡ false → Lifted n ≡ ask_rule p g conn command spot → waits_in_queue (waiting p g) Queue.Dirty (key_of spot) || waits_in_queue (waiting p g) Queue.Bulk (key_of spot) ≡ true
lifts_from p g conn command spot n render is = let liftable = lifted_by (tests_of p g conn command spot) (numbers g) n (is ∙ ask_render p g conn command spot render) in grind arith

quiet_ask : (plan : FarmPlan) (g : List Entry) (conn : Conn) (command : Cmd) (spot : Spot) (answer : AskAnswer) → ((k : Key) → touches (plan_of plan) g (Ask conn command spot answer) k ≡ false) → LeavesAll plan g (Ask conn command spot answer)
unfolding flights data_after changes_after style_after
quiet_ask plan g conn command spot answer untouched = record { no_finish = refl; untouched = untouched; same_flights = refl; same_data = refl; same_changes = refl; same_styles = λ m. refl }

-- an ask with a render command, answered by the farm's own tests
pub ask_render_step : {D : Type 0} (state : D → Outside StoreTold) (told : Bool) (farm : FarmSeen D) (g : List Entry) (conn : Conn) (command : Cmd) (spot : Spot) (answer : AskAnswer) → is_dirty_command command ≡ false → answer ≡ answer_by (tests_at farm conn command spot) farm.counts.numbers →
    StandsFor state told farm g → StandsFor state told (record farm { counts = asked_counts command answer farm.counts; queues = asked_tables farm.queues (own_queue command) (key_of spot) conn answer }) (Ask conn command spot answer ∷ g)
unfolding Fits shown failures
ask_render_step state told farm g conn command spot answer render is s =
    quiet state told farm g e (asked_counts command answer farm.counts) (asked_tables farm.queues (own_queue command) (key_of spot) conn answer) farm.store s
    (quiet_ask farm.plan g conn command spot answer (λ k. ap (λ b. b && (not (is_stopped g) && (is_servable p spot && same_key (key_of spot) k))) render))
    fits (counts_ask farm.counts g conn command spot answer s.counts_are)
    (queues_ask farm.plan farm.queues g conn command spot answer (kept p told g s.legal).lone render (λ n lifted. lifts_from p g conn command spot n render (sym lifted ∙ fits)) s.queues_are)
    (store_quiet farm.plan (state farm.first).faults told g e (state farm.store) refl (λ k. refl) s.store_is)
  where
    p : Plan
    p = plan_of farm.plan

    e : Entry
    e = Ask conn command spot answer

    fits : answer ≡ ask_rule p g conn command spot
    fits = is ∙ (ap₂ answer_by (tests_are state told farm g conn command spot s) s.counts_are.numbers_are ∙ sym (ask_render p g conn command spot render))

uncounted_ask : (g : List Entry) (conn : Conn) (command : Cmd) (spot : Spot) → is_dirty_command command ≡ true → IsUncounted (Ask conn command spot Silent) g
unfolding is_stopped data_after numbers jobs asks_made done_asks stored_drawings
uncounted_ask g conn command spot dirty = record {
  stopped_same = refl;
  version_same = refl;
  numbers_same = refl;
  jobs_same = refl;
  asks_same = ap (λ b. cond b (asks_made g) (asks_made g + 1)) dirty;
  done_same = refl;
  stored_same = refl;
}

-- an ask with Dirty after a Stop, or of a spot that cannot be served: nothing changes
pub ask_unmarked_step : {D : Type 0} (state : D → Outside StoreTold) (told : Bool) (farm : FarmSeen D) (g : List Entry) (conn : Conn) (command : Cmd) (spot : Spot) → is_dirty_command command ≡ true → not farm.counts.stopped && is_servable (plan_of farm.plan) spot ≡ false →
    StandsFor state told farm g → StandsFor state told (record farm { counts = one_turn_more farm.counts }) (Ask conn command spot Silent ∷ g)
unfolding Fits shown failures
ask_unmarked_step state told farm g conn command spot dirty off s =
    quiet state told farm g e (one_turn_more farm.counts) farm.queues farm.store s (quiet_ask farm.plan g conn command spot Silent untouched)
    (sym (ask_dirty p g conn command spot dirty)) (counts_turn farm.counts g e (uncounted_ask g conn command spot dirty) s.counts_are)
    (queues_unmarked farm.plan farm.queues g conn command spot (untouched (key_of spot)) s.queues_are)
    (store_quiet farm.plan (state farm.first).faults told g e (state farm.store) refl (λ k. refl) s.store_is)
  where
    p : Plan
    p = plan_of farm.plan

    e : Entry
    e = Ask conn command spot Silent

    away : not (is_stopped g) && is_servable p spot ≡ false
    away = ap (λ b. not b && is_servable p spot) (sym s.counts_are.stopped_is) ∙ off

    untouched : (k : Key) → is_dirty_command command && (not (is_stopped g) && (is_servable p spot && same_key (key_of spot) k)) ≡ false
    untouched k = let far = away in grind arith

-- an ask with Dirty of a spot that can be served: its key is touched, and goes to the dirty queue if it stands nowhere
pub ask_marked_step : {D : Type 0} (state : D → Outside StoreTold) (told : Bool) (farm : FarmSeen D) (g : List Entry) (conn : Conn) (command : Cmd) (spot : Spot) (ms : MarksSeen) → is_dirty_command command ≡ true → farm.counts.stopped ≡ false → is_servable (plan_of farm.plan) spot ≡ true →
    ((k : Key) → mark_of ms.shown k ≡ option_map (dirtied (same_key (key_of spot) k)) (mark_of farm.marks.shown k)) → StandsFor state told farm g →
    StandsFor state told (record farm { counts = one_turn_more farm.counts; taken = dirtied_taken (same_key (key_of spot)) farm.taken; marks = ms; queues = marked_tables farm.queues (key_of spot) }) (Ask conn command spot Silent ∷ g)
unfolding Fits flights data_after changes_after style_after shown failures
ask_marked_step state told farm g conn command spot ms dirty running servable marks s =
    touching state told farm g e (same_key (key_of spot)) (one_turn_more farm.counts) farm.data_now farm.changes farm.styled ms (marked_tables farm.queues (key_of spot)) s refl tests refl
    (sym (ask_dirty p g conn command spot dirty)) (counts_turn farm.counts g e (uncounted_ask g conn command spot dirty) s.counts_are) s.data_is s.changes_are s.styles_are marks
    (queues_mark farm.plan farm.queues g conn command spot (tests (key_of spot) ∙ same_key-self (key_of spot)) s.queues_are)
    (store_quiet farm.plan (state farm.first).faults told g e (state farm.store) refl (λ k. refl) s.store_is)
  where
    p : Plan
    p = plan_of farm.plan

    e : Entry
    e = Ask conn command spot Silent

    tests : (k : Key) → is_dirty_command command && (not (is_stopped g) && (is_servable p spot && same_key (key_of spot) k)) ≡ same_key (key_of spot) k
    tests k = let on : is_stopped g ≡ false = sym s.counts_are.stopped_is ∙ running in grind arith
