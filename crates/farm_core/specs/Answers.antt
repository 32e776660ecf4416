-- How a history names the farm's answers, and what no event changes of a farm.
use Rattle.std.specs.Prelude.{ℕ, ◌≡◌, Bool, true, false, List, [], Option, Some, None, Result, Ok, Err, option_map}
use Rattle.farm_base.specs.Outside.{Outside}
use Rattle.tile_store.specs.declared.stores.StoreFault.TheVariants.{Failed}
use Rattle.tile_store.specs.Stores.{StoreTold, StorePuts}
use Rattle.plain_world.specs.World.{index_place}
use Rattle.farm_history.specs.declared.answers.ClaimAnswer.{ClaimAnswer}
use Rattle.farm_history.specs.declared.answers.Fetched.{Fetched}
use Rattle.farm_history.specs.declared.answers.Finished.{Finished}
use Rattle.farm_history.specs.declared.asks.Spot.{Spot}
use Rattle.farm_history.specs.declared.keys.Mark.{Mark}
use Rattle.farm_history.specs.Plans.{key_of, spot_tile}
use Rattle.tile_paths.specs.Paths.{saved_path}
use Rattle.farm_plan.specs.Drawings.{key_path}
use Rattle.farm_core.specs.declared.claims.Claimed.{Claimed}
use Rattle.farm_core.specs.declared.finishes.Drawn.{Drawn}
use Rattle.farm_refinement.specs.Seen.{FarmSeen}
use Rattle.farm_plan.specs.Jobs.{JobSeen, job_key, job_text}
use Rattle.farm_refinement.specs.Reads.{ReadsTile, fetched_by}

-- the answer to a claim: of a job its ticket, its key and the data version
abbrev pub claim_answer : Claimed → ClaimAnswer
claim_answer (Claimed.Job job) = ClaimAnswer.Job job.ticket (job_key job) job.version
claim_answer Claimed.Idle = ClaimAnswer.Idle
claim_answer Claimed.Crowded = ClaimAnswer.Crowded
claim_answer Claimed.Stopped = ClaimAnswer.Stopped

-- where the answer is a job, what holds of it
abbrev pub IfJob : Claimed → (JobSeen → Type 0) → Type 0
IfJob (Claimed.Job job) holds = holds job
IfJob _ holds = Unit {0}

-- whether something was drawn
abbrev pub is_drawn : Drawn → Bool
is_drawn (Drawn.Bytes bytes) = true
is_drawn (Drawn.Staged staged) = true
is_drawn Drawn.NoMemory = false

-- the bytes that were drawn, if any were
abbrev pub drawn_bytes : Drawn → List ℕ
drawn_bytes (Drawn.Bytes bytes) = bytes.items
drawn_bytes (Drawn.Staged staged) = staged.bytes
drawn_bytes Drawn.NoMemory = []

-- what was drawn is the job's container; where it was staged, under the job's ticket, which no other job has
abbrev pub IsDrawingOf : JobSeen → Drawn → Type 0
IsDrawingOf job (Drawn.Bytes bytes) = bytes.items ≡ job_text job
IsDrawingOf job (Drawn.Staged staged) = (staged.bytes ≡ job_text job) × (staged.number ≡ job.ticket)
IsDrawingOf job Drawn.NoMemory = Unit {0}

-- what the store tells that it holds at the path of a saved farm
abbrev pub at_saved : Outside StoreTold → Option (Option (List ℕ))
at_saved store = option_map (λ t. t.content saved_path) store.told

-- what no event changes: the plan, what the farm was resumed from, the store as it was at the start, and what the store tells at the path of a saved farm
pub record Lasts {D : Type 0} (state : D → Outside StoreTold) (old new : FarmSeen D) : Type 0 where
  pub plan : new.plan ≡ old.plan
  pub saved : new.saved ≡ old.saved
  pub first : new.first ≡ old.first
  pub beside : at_saved (state new.store) ≡ at_saved (state old.store)

-- What the end of a drawing of these bytes does to the store: one put of them, at the path of its metatile, as it was answered; for want of memory the store is as it was
abbrev pub PutsBytes : {D : Type 0} → (D → Outside StoreTold) → FarmSeen D → FarmSeen D → JobSeen
    → List ℕ → Finished → Type 0
PutsBytes state old new job bytes (Finished.Stored clean) =
    StorePuts (state old.store) (state new.store) (key_path old.plan (job_key job)) bytes (Ok tt)
PutsBytes state old new job bytes Finished.PutFailed =
    StorePuts (state old.store) (state new.store) (key_path old.plan (job_key job)) bytes
    (Err Failed)
PutsBytes state old new job bytes Finished.NoMemory = state new.store ≡ state old.store

-- What the end of a drawing does to the store, by what was drawn; without a drawing the store is as it was
abbrev pub PutsDrawing : {D : Type 0} → (D → Outside StoreTold) → FarmSeen D → FarmSeen D → JobSeen
    → Drawn → Finished → Type 0
PutsDrawing state old new job (Drawn.Bytes bytes) answer =
    PutsBytes state old new job bytes.items answer
PutsDrawing state old new job (Drawn.Staged staged) answer =
    PutsBytes state old new job staged.bytes answer
PutsDrawing state old new job Drawn.NoMemory answer = state new.store ≡ state old.store

-- What a fetch of the spot read and is answered, by whether the spot can be served and by the mark of its metatile. With a mark the tile at the spot's place was read, of the container at the metatile's path, from the store as it was; without, nothing was read, and the store is as it was
abbrev pub Reads : {D : Type 0} → (D → Outside StoreTold) → FarmSeen D → FarmSeen D → Spot → Fetched
    → Bool → Option Mark → Type 0
Reads state old new spot answer false mark =
    (answer ≡ Fetched.Unservable) × (new.store ≡ old.store)
Reads state old new spot answer true None =
    (answer ≡ Fetched.Missing) × (new.store ≡ old.store)
Reads state old new spot answer true (Some mark) =
    (read : Result (List ℕ) Fetched)
    × ReadsTile (state old.store) (state new.store) (key_path old.plan (key_of spot))
    (key_of spot).meta (index_place (spot_tile spot)) read
    × (answer ≡ fetched_by mark read)
