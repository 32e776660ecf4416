-- Where a farm begins: started it stands for nothing, and puts beside the metatiles are no events.
use Rattle.std.proofs.Common.{◌≡◌, ℕ, ◌<◌, Bool, true, false, List, [], length, slice_get, Option, Some, None, is_some, Result, refl, ap, ◌==◌}
use Rattle.std.specs.Prelude.{codes, IfSome}
use Rattle.std.specs.List.{ends_with}
use Rattle.farm_base.specs.Outside.{Outside}
use Rattle.tile_store.specs.declared.stores.StoreFault.{StoreFault}
use Rattle.tile_store.specs.Stores.{StoreTold, StorePuts}
use Rattle.farm_history.specs.declared.queues.Queue.{Queue}
use Rattle.farm_history.specs.declared.queues.Limits.{Limits}
use Rattle.farm_history.specs.Entries.{Entry}
use Rattle.farm_history.specs.Plans.{limit_of}
use Rattle.farm_history.specs.Past.{is_stopped, data_after, style_after, flights, jobs, numbers, asks_made, done_asks, stored_drawings, shown, waiting, open_asks, replies_to}
use Rattle.farm_history.specs.Replays.{Saving, changes_after}
use Rattle.farm_plan.specs.Plans.{FarmPlan, IsPlan}
use Rattle.farm_plan.specs.Drawings.{data_of}
use Rattle.render_queues.specs.Tables.{no_tables, no_lines, line_of}
use Rattle.expiry_lists.specs.Marks.{MarksSeen, mark_of}
use Rattle.farm_refinement.specs.Seen.{FarmSeen}
use Rattle.farm_refinement.specs.Stands.{failures, CountsStand, QueuesStand, StandsFor}
use Rattle.farm_refinement.specs.inner.Events.{no_counts, new_farm}
use Rattle.farm_refinement.proofs.Storing.{store_beside, store_began, shown_none}

no_limits : (limits : Limits) (queue : Queue) → (line_of (no_lines limits) queue).limit ≡ limit_of limits queue
no_limits limits Queue.Prio = refl
no_limits limits Queue.Request = refl
no_limits limits Queue.Low = refl
no_limits limits Queue.Dirty = refl
no_limits limits Queue.Bulk = refl

no_keys : (limits : Limits) (queue : Queue) → (line_of (no_lines limits) queue).keys ≡ []
no_keys limits Queue.Prio = refl
no_keys limits Queue.Request = refl
no_keys limits Queue.Low = refl
no_keys limits Queue.Dirty = refl
no_keys limits Queue.Bulk = refl

no_queues : (plan : FarmPlan) → QueuesStand plan (no_tables plan.limits plan.workers) []
unfolding waiting flights open_asks replies_to
no_queues plan = record { limits_are = no_limits plan.limits; workers_are = refl; waiting_is = no_keys plan.limits; taken_is = refl; asks_are = refl; ended_are = refl }

pub no_failures : (plan : FarmPlan) → failures plan [] ≡ []
unfolding failures
no_failures plan = refl

counts_none : CountsStand no_counts []
unfolding is_stopped data_after numbers jobs asks_made done_asks stored_drawings
counts_none = record { turns_are = refl; stopped_is = refl; version_is = refl; numbers_are = refl; jobs_are = refl; asks_are = refl; done_are = refl; stored_are = refl }

-- a farm as it is started stands for the empty history, over a store that counts its failed calls; `told` may be true where the store tells
pub start_step : {D : Type 0} (state : D → Outside StoreTold) (told : Bool) (plan : FarmPlan) (saved : Option Saving) (store : D) (st : List (Option ℕ)) (ms : MarksSeen) → IsPlan plan → ((m : ℕ) → m < length plan.maps → slice_get st m ≡ Some None) → ms.shown ≡ [] →
    IfSome (state store).told (λ t. (state store).faults ≡ length t.failed) → (told ≡ true → is_some (state store).told ≡ true) → StandsFor state told (new_farm plan saved store st ms) []
unfolding data_after changes_after style_after flights shown data_of
start_step state told plan saved store st ms valid styles empty counted tells = record {
  valid = valid;
  legal = tt;
  counts_are = counts_none;
  data_is = refl;
  changes_are = refl;
  styles_are = styles;
  taken_are = refl;
  marks_are = λ k. ap (λ rows. mark_of rows k) empty;
  queues_are = no_queues plan;
  store_is = store_began plan told [] (state store) (no_failures plan) counted tells (λ t. shown_none plan (state store).told);
}

-- a put at a path that does not end in `.meta` changes nothing that the farm stands for
pub beside_step : {D : Type 0} (state : D → Outside StoreTold) (told : Bool) (farm : FarmSeen D) (h : List Entry) (path bytes : List ℕ) (d : D) (r : Result (Unit {0}) StoreFault) → ends_with (λ a b. a == b) path (codes ".meta") ≡ false → StorePuts (state farm.store) (state d) path bytes r →
    StandsFor state told farm h → StandsFor state told (record farm { store = d }) h
beside_step state told farm h path bytes d r beside puts s = record {
  valid = s.valid;
  legal = s.legal;
  counts_are = s.counts_are;
  data_is = s.data_is;
  changes_are = s.changes_are;
  styles_are = s.styles_are;
  taken_are = s.taken_are;
  marks_are = s.marks_are;
  queues_are = s.queues_are;
  store_is = store_beside farm.plan (state farm.first).faults told h path bytes (state farm.store) (state d) r s.valid s.legal beside puts s.store_is;
}
