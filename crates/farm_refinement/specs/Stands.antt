-- What it means that a farm stands for a history. `plan_of` makes the plan of histories of a farm's
-- plan, and what a store shows of itself is an `Outside StoreTold`.
use Rattle.std.specs.Prelude.{ℕ, ◌+◌, ◌-◌, ◌^◌, ◌<◌, ◌≤◌, ◌≡◌, min, Bool, true, ◌==◌, List, [], ◌∷◌, ◌++◌, length, map, filter, drop, slice_get, codes, Option, Some, None, is_some, IfSome}
use Rattle.std.specs.List.{ends_with}
use Rattle.farm_base.specs.declared.files.FailedCall.{FailedCall}
use Rattle.farm_base.specs.Outside.{Outside}
use Rattle.tile_store.specs.Stores.{StoreTold, failed_put, failed_get}
use Rattle.farm_history.specs.declared.keys.Key.{Key}
use Rattle.farm_history.specs.declared.queues.Queue.{Queue}
use Rattle.farm_history.specs.declared.answers.Finished.TheVariants.{PutFailed}
use Rattle.farm_history.specs.declared.answers.Fetched.{Fetched}
use Rattle.farm_history.specs.Entries.{Entry, Finish, Fetch}
use Rattle.farm_history.specs.Plans.{Waits, key_of, limit_of}
use Rattle.farm_history.specs.Past.{is_stopped, data_after, version, style_after, Flight, flights, flight_in, jobs, shown, waiting, numbers, Numbered, asks_made, done_asks, stored_drawings}
use Rattle.farm_history.specs.Rules.{Legal}
use Rattle.farm_history.specs.Seen.{mark_after, taken_after, waiter_of, waiting_asks, outbox, in_queue}
use Rattle.farm_history.specs.Replays.{changes_after}
use Rattle.farm_plan.specs.Plans.{FarmPlan, IsPlan}
use Rattle.farm_plan.specs.Drawings.{plan_of, data_of, container_bytes, key_path}
use Rattle.render_queues.specs.declared.asks.Asked.{Asked}
use Rattle.render_queues.specs.Tables.{Tables, line_of}
use Rattle.expiry_lists.specs.Marks.{mark_of}
use Rattle.farm_refinement.specs.declared.counts.Counts.{Counts}
use Rattle.farm_refinement.specs.Seen.{FarmSeen}

-- Counts.

-- each count is that of the history
pub record CountsStand (c : Counts) (h : List Entry) : Type 0 where
  pub turns_are : c.turns ≡ length h
  pub stopped_is : c.stopped ≡ is_stopped h
  pub version_is : c.version ≡ version h
  pub numbers_are : c.numbers ≡ numbers h
  pub jobs_are : c.jobs ≡ jobs h
  pub asks_are : c.asks ≡ asks_made h
  pub done_are : c.done ≡ done_asks h
  pub stored_are : c.stored ≡ stored_drawings h

-- Queues.

-- an ask that waits, as the tables keep it
abbrev pub asked_of : Numbered → Asked
asked_of a = record { key = a.key; waiter = waiter_of a }

-- The tables have the plan's limits. In each queue the keys are those that wait there, in order;
-- the keys that are taken are those of the flights, in order; the asks that wait are the open asks
-- without an End, in order; and the replies are those to open asks that have their End, in order of
-- the Ends
pub record QueuesStand (plan : FarmPlan) (t : Tables) (h : List Entry) : Type 0 where
  pub limits_are : (queue : Queue) → (line_of t.lines queue).limit ≡ limit_of plan.limits queue
  pub workers_are : t.workers ≡ plan.workers
  pub waiting_is : (queue : Queue) → (line_of t.lines queue).keys
      ≡ map (λ (w : Waits). w.key) (in_queue queue (waiting (plan_of plan) h))
  pub taken_is : t.taken ≡ map (λ (f : Flight). f.key) (flights h)
  pub asks_are : t.asks ≡ map asked_of (waiting_asks h)
  pub ended_are : t.ended ≡ outbox h

-- The store.

-- the path of a flight's key; nothing without a flight
abbrev pub flight_path : FarmPlan → Option Flight → List ℕ
flight_path plan None = []
flight_path plan (Some f) = key_path plan f.key

-- the calls on the store that failed, in order: a put for each Finish answered PutFailed and a get
-- for each Fetch answered GetFailed, each at its key's path
unfoldable pub failures : FarmPlan → List Entry → List FailedCall
failures plan [] = []
failures plan (Finish t drawn PutFailed ∷ g) =
    failures plan g ++ failed_put (flight_path plan (flight_in (flights g) t)) ∷ []
failures plan (Fetch spot Fetched.GetFailed ∷ g) =
    failures plan g ++ failed_get (key_path plan (key_of spot)) ∷ []
failures plan (_ ∷ g) = failures plan g

-- whether the call was on a path that ends in `.meta`, as those of metatiles do
abbrev pub is_on_meta : FailedCall → Bool
is_on_meta call = ends_with (λ a b. a == b) call.name (codes ".meta")

-- the calls that failed since the farm began, on paths that end in `.meta`, are exactly those that
-- the history tells. The store's count at the beginning is how many had failed before
pub record Accounts (plan : FarmPlan) (since : ℕ) (h : List Entry) (t : StoreTold) : Type 0 where
  pub began : since ≤ length t.failed
  pub failed : filter is_on_meta (drop since t.failed) ≡ failures plan h

-- the container that was drawn of a key, where before came before its Claim: in the style and over
-- the data of that moment
abbrev pub text_before : FarmPlan → List Entry → Key → List ℕ
text_before plan before k = container_bytes plan k (style_after (plan_of plan) before k.map)
    (data_of plan (data_after before))

-- at the path of each shown key stands the container that was drawn for it
abbrev pub HoldsShown : FarmPlan → List Entry → (List ℕ → Option (List ℕ)) → Type 0
HoldsShown plan h content = (k : Key) (before : List Entry) → shown h k ≡ Some before
    → content (key_path plan k) ≡ Some (text_before plan before k)

-- The store's count rose, since the farm began, by at least one for each answer that a call failed,
-- or it stands at its last value. Where the store tells, those calls are on its list. And where it
-- is told what the store holds, it holds what is shown. `store_tells` may be true only over a store
-- that tells
pub record StoreStands (plan : FarmPlan) (since : ℕ) (store_tells : Bool) (h : List Entry)
    (now : Outside StoreTold) : Type 0 where
  pub counted : min (since + length (failures plan h)) (2 ^ 64 - 1) ≤ now.faults
  pub accounts : IfSome now.told (Accounts plan since h)
  pub is_told : store_tells ≡ true → is_some now.told ≡ true
  pub holds : store_tells ≡ true → IfSome now.told (λ t. HoldsShown plan h t.content)

-- The farm.

-- The farm stands for the history: each entry has its right answer, and the farm's state is that of
-- the history. `state` shows the store at a moment
pub record StandsFor {D : Type 0} (state : D → Outside StoreTold) (store_tells : Bool)
    (farm : FarmSeen D) (h : List Entry) : Type 0 where
  pub valid : IsPlan farm.plan
  pub legal : Legal (plan_of farm.plan) store_tells h
  pub counts_are : CountsStand farm.counts h
  pub data_is : farm.data_now ≡ data_of farm.plan (data_after h)
  pub changes_are : farm.changes ≡ changes_after h
  pub styles_are : (m : ℕ) → m < length farm.plan.maps
      → slice_get farm.styled m ≡ Some (style_after (plan_of farm.plan) h m)
  -- of each drawing under way its ticket, its key, the version before its Claim, and whether an
  -- entry after its Claim touches the key
  pub taken_are : farm.taken ≡ taken_after (plan_of farm.plan) h
  -- of each shown key the version before the Claim of what is shown, and whether it is clean; no
  -- other key has a mark
  pub marks_are : (k : Key) → mark_of farm.marks.shown k ≡ mark_after (plan_of farm.plan) h k
  pub queues_are : QueuesStand farm.plan farm.queues h
  pub store_is : StoreStands farm.plan (state farm.first).faults store_tells h (state farm.store)

-- Words of proofs, which say parts of the above.

-- the key of what waits
abbrev pub waits_key : Waits → Key
waits_key w = w.key
