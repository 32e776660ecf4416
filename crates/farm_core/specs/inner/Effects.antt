-- What the parts of an event do to a farm, without a history.
use Rattle.std.specs.Prelude.{ℕ, ◌+◌, ◌≤◌, ◌≡◌, Bool, ◌||◌, not, nat_lt, nat_le, if◌then◌else◌, List, [], ◌∷◌, ◌++◌, length, replicate, slice_get, find, Option, Some, None, Result, Ok, Err, option_map}
use Rattle.farm_base.specs.Outside.{Outside}
use Rattle.tile_store.specs.declared.stores.StoreFault.{StoreFault}
use Rattle.tile_store.specs.declared.stores.StoreFault.TheVariants.{Failed, NoMemory}
use Rattle.tile_store.specs.Stores.{StoreTold, StorePuts}
use Rattle.farm_history.specs.declared.keys.Key.{Key}
use Rattle.farm_history.specs.declared.keys.Mark.{Mark}
use Rattle.farm_history.specs.declared.queues.Outcome.{Outcome}
use Rattle.farm_history.specs.declared.answers.Finished.{Finished}
use Rattle.farm_history.specs.declared.answers.Fetched.{Fetched}
use Rattle.farm_history.specs.declared.queues.Reply.{Reply}
use Rattle.farm_history.specs.Past.{is_done}
use Rattle.farm_history.specs.Lists.{without_first}
use Rattle.farm_history.specs.Plans.{AreApart, same_key}
use Rattle.farm_history.specs.Seen.{Taken}
use Rattle.render_queues.specs.Tables.{Tables, next_of, after_take, after_end, is_of_front}
use Rattle.expiry_lists.specs.Marks.{MarksSeen, shown_key, mark_of, dirtied_marks, clean_marks}
use Rattle.farm_plan.specs.Drawings.{key_path, update_of}
use Rattle.plain_shapes.specs.Features.{Layer}
use Rattle.plain_shapes.specs.Data.{Change, update_result}
use Rattle.farm_history.specs.declared.saved.Past.{Past}
use Rattle.render_jobs.specs.Shared.{ShareSeen}
use Rattle.farm_refinement.specs.declared.counts.Counts.{Counts}
use Rattle.farm_refinement.specs.Seen.{FarmSeen}
use Rattle.farm_plan.specs.Jobs.{JobSeen, job_key}
use Rattle.farm_refinement.specs.Reads.{ReadsTile, fetched_by}
use Rattle.farm_refinement.specs.inner.Events.{new_flight, dirtied_taken, stale_tables, taken_at, one_turn_more}

-- ---- claims

-- the job of a key, as a farm gives it to a worker
pub record IsJobFor {D : Type 0} (farm : FarmSeen D) (worker : ℕ) (job : JobSeen) : Type 0 where
  pub ticket_is : job.ticket ≡ farm.counts.jobs
  pub worker_is : job.worker ≡ worker
  pub version_is : job.version ≡ farm.counts.version
  pub plan_is : job.plan ≡ farm.plan
  pub data_is : job.data_now ≡ farm.data_now
  pub style_is : slice_get farm.styled job.map ≡ Some job.styled
  pub tile_is : Some job.tile ≡ option_map (λ mp. mp.tile) (slice_get farm.plan.maps job.map)

-- the farm after what waits first was taken, which has this key
abbrev pub after_claim : {D : Type 0} → FarmSeen D → Key → FarmSeen D
after_claim farm key = record farm {
  queues = after_take farm.queues (next_of farm.queues.lines);
  taken = farm.taken ++ new_flight farm.counts.jobs key farm.counts.version ∷ [];
  counts = record farm.counts { jobs = farm.counts.jobs + 1 };
}

-- the farm after a drawing of the key began
abbrev pub begins : {D : Type 0} → FarmSeen D → Key → FarmSeen D
begins farm key = record farm {
  taken = farm.taken ++ new_flight farm.counts.jobs key farm.counts.version ∷ [];
  counts = record farm.counts { jobs = farm.counts.jobs + 1 };
}

-- nothing waits and nothing has changed; or what waits first was taken for this job
abbrev pub Claims : {D : Type 0} → FarmSeen D → FarmSeen D → ℕ → Option JobSeen → Type 0
Claims old new worker None = (next_of old.queues.lines ≡ None) × (new ≡ old)
Claims old new worker (Some job) =
    (option_map (λ w. w.key) (next_of old.queues.lines) ≡ Some (job_key job))
    × IsJobFor old worker job
    × (new ≡ after_claim old (job_key job))

-- ---- ends of drawings

-- the job is a drawing under way, over the farm's plan; where it has the newest version, it has the newest data
pub record IsTaken {D : Type 0} (farm : FarmSeen D) (job : JobSeen) : Type 0 where
  pub taken : Taken
  pub is_taken : taken_at farm.taken job.ticket ≡ Some taken
  pub key_is : taken.key ≡ job_key job
  pub version_is : taken.version ≡ job.version
  pub plan_is : job.plan ≡ farm.plan
  pub data_is : job.version ≡ farm.counts.version → job.data_now ≡ farm.data_now

-- the marks are as before, but for the key's
abbrev pub MarksBut : MarksSeen → MarksSeen → Key → Option Mark → Type 0
MarksBut old new key mark = (k : Key)
    → mark_of new.shown k ≡ (if same_key key k then mark else mark_of old.shown k)

-- one more drawing is stored
abbrev pub one_stored : Counts → Counts
one_stored c = record c { stored = c.stored + 1 }

-- The end of a drawing of the key at that version, with these bytes: stored, clean where nothing touched it; or its put failed; or there was no memory, and what is shown stays
abbrev pub EndsDrawing : {D : Type 0} → (D → Outside StoreTold) → FarmSeen D → FarmSeen D → Key → ℕ
    → Bool → List ℕ → Finished → Type 0
EndsDrawing state old new key version touched bytes (Finished.Stored clean) =
    (clean ≡ not touched)
    × StorePuts (state old.store) (state new.store) (key_path old.plan key) bytes (Ok tt)
    × MarksBut old.marks new.marks key (Some (record { version = version; clean = not touched }))
    × (new ≡ record old {
      store = new.store;
      marks = new.marks;
      queues = stale_tables (not touched) (after_end old.queues key Outcome.Done) key;
      counts = one_stored old.counts;
    })
EndsDrawing state old new key version touched bytes Finished.PutFailed =
    StorePuts (state old.store) (state new.store) (key_path old.plan key) bytes (Err Failed)
    × MarksBut old.marks new.marks key None
    × (new ≡ record old {
      store = new.store;
      marks = new.marks;
      queues = after_end old.queues key Outcome.NotDone;
    })
EndsDrawing state old new key version touched bytes Finished.NoMemory =
    (state new.store ≡ state old.store) × (new.marks.shown ≡ old.marks.shown)
    × (new ≡ record old {
      store = new.store;
      marks = new.marks;
      queues = after_end old.queues key Outcome.Cut;
    })

-- what the end of a drawing is answered, by what its put answered
abbrev pub finished_by : Bool → Result (Unit {0}) StoreFault → Finished
finished_by touched (Ok done) = Finished.Stored (not touched)
finished_by touched (Err Failed) = Finished.PutFailed
finished_by touched (Err NoMemory) = Finished.NoMemory

-- the end of a drawing of the key at that version, after a put that answered so: shown, clean where nothing touched it; or hidden; or cut
abbrev pub EndsPut : {D : Type 0} → FarmSeen D → FarmSeen D → Key → ℕ → Bool
    → Result (Unit {0}) StoreFault → Type 0
EndsPut old new key version touched (Ok done) =
    MarksBut old.marks new.marks key (Some (record { version = version; clean = not touched }))
    × (new ≡ record old {
      marks = new.marks;
      queues = stale_tables (not touched) (after_end old.queues key Outcome.Done) key;
      counts = one_stored old.counts;
    })
EndsPut old new key version touched (Err Failed) =
    MarksBut old.marks new.marks key None
    × (new ≡ record old { marks = new.marks; queues = after_end old.queues key Outcome.NotDone })
EndsPut old new key version touched (Err NoMemory) =
    new ≡ record old { queues = after_end old.queues key Outcome.Cut }

-- ---- reads

-- a read of the tile at a place of a key's container, where the key has that mark; the store's list of failed calls alone may have changed
pub record Fetches {D : Type 0} (state : D → Outside StoreTold) (old new : FarmSeen D) (key : Key)
    (place : ℕ) (mark : Mark) (answer : Fetched) : Type 0 where
  pub read : Result (List ℕ) Fetched
  pub reads :
      ReadsTile (state old.store) (state new.store) (key_path old.plan key) key.meta place read
  pub answer_is : answer ≡ fetched_by mark read
  pub rest : new ≡ record old { store = new.store }

-- ---- replies

-- one more ask was answered Done, where the reply says so
abbrev pub done_counts : Reply → Counts → Counts
done_counts r c = record c { done = if is_done r.outcome then c.done + 1 else c.done }

-- of the tables the front's first reply was taken out; or there is none, and nothing has changed
abbrev pub TakesFirst : Tables → Tables → ℕ → Option Reply → Type 0
TakesFirst old new front None = (find (is_of_front front) old.ended ≡ None) × (new ≡ old)
TakesFirst old new front (Some r) =
    (find (is_of_front front) old.ended ≡ Some r)
    × (new ≡ record old { ended = without_first (is_of_front front) old.ended })

-- the front's first reply was taken out; or there is none, and nothing has changed
abbrev pub Collects : {D : Type 0} → FarmSeen D → FarmSeen D → ℕ → Option Reply → Type 0
Collects old new front None = (find (is_of_front front) old.queues.ended ≡ None) × (new ≡ old)
Collects old new front (Some r) =
    (find (is_of_front front) old.queues.ended ≡ Some r)
    × (new ≡ record old {
      queues = record old.queues { ended = without_first (is_of_front front) old.queues.ended };
      counts = done_counts r old.counts;
    })

-- ---- updates

-- what a farm's own share is seen as
abbrev pub own_of : {D : Type 0} → FarmSeen D → ShareSeen
own_of farm = record { plan = farm.plan; data_now = farm.data_now }

-- a share of these data and the same plan, with a spare one for each worker, and room for as many
pub record IsNext (own : ShareSeen) (layers : List Layer) (next : ShareSeen)
    (spares : List ShareSeen) (room : ℕ) : Type 0 where
  pub data_is : next.data_now ≡ layers
  pub plan_is : next.plan ≡ own.plan
  pub alike : spares ≡ replicate own.plan.workers next
  pub fits : own.plan.workers ≤ room

-- such a share, of the data after an update
pub record Nexts (own : ShareSeen) (changes : List Change) (next : ShareSeen)
    (spares : List ShareSeen) (room : ℕ) : Type 0 where
  pub applied : update_result changes own.data_now ≡ Ok next.data_now
  pub shares : IsNext own next.data_now next spares room

-- the update's data are the newest now, as one more version, and the update is noted
abbrev pub Advances : {D : Type 0} → FarmSeen D → FarmSeen D → ℕ → Past → Type 0
Advances old new n past =
    (update_result (update_of old.plan n) old.data_now ≡ Ok new.data_now)
    × (new ≡ record old {
      data_now = new.data_now;
      changes = old.changes ++ past ∷ [];
      counts = record old.counts { version = old.counts.version + 1 };
    })

-- ---- touches

-- the keys that pass the test are touched, among what is shown and among the drawings under way; of those that are shown so many were clean
pub record Dirties {D : Type 0} (test : Key → Bool) (old new : FarmSeen D) (count : ℕ)
    : Type 0 where
  pub count_is : count ≡ clean_marks test old.marks.shown
  pub apart : AreApart shown_key old.marks.shown
  pub shown : new.marks.shown ≡ dirtied_marks test old.marks.shown
  pub rest : new ≡ record old { taken = dirtied_taken test old.taken; marks = new.marks }

-- ---- calls

-- the farm after one more call, and nothing else
abbrev pub turn : {D : Type 0} → FarmSeen D → FarmSeen D
turn farm = record farm { counts = one_turn_more farm.counts }

-- whether as many drawings are under way as there are workers, by the tables and by what the farm itself keeps, which are at one
abbrev pub is_crowded : {D : Type 0} → FarmSeen D → Bool
is_crowded farm =
    not (nat_lt (length farm.queues.taken) farm.queues.workers)
    || nat_le farm.plan.workers (length farm.taken)

-- what a fetch is answered where the store refused a read
abbrev pub refused_by : StoreFault → Fetched
refused_by Failed = Fetched.GetFailed
refused_by NoMemory = Fetched.NoMemory
