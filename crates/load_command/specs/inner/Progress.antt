-- How far generated work has come, for the code that runs it.
use Rattle.std.specs.Prelude.{◌≡◌, ◌≢◌, ℕ, ◌+◌, ◌*◌, ◌^◌, ◌≤◌, ◌||◌, Bool, true, false, List, [], ◌∷◌, ◌++◌, length, map, slice_get, take, Result, Ok, Err, MatchBool}
use Rattle.std.specs.List.{sum_by}
use Rattle.farm_base.specs.Outside.{Outside, Puts}
use Rattle.farm_base.specs.declared.sinks.SinkFault.TheVariants.{Failed}
use Rattle.exit_status.specs.Ends.{SinkAt}
use Rattle.exit_status.specs.declared.stops.Stop.{Stop}
use Rattle.exit_status.specs.declared.stops.Stop.TheVariants as stop
use Rattle.farm_base.specs.declared.memory.NoMemory.{NoMemory}
use Rattle.tile_store.specs.Stores.{StoreTold}
use Rattle.farm_history.specs.declared.queues.Reply.{Reply}
use Rattle.farm_history.specs.declared.asks.Spot.{Spot}
use Rattle.farm_history.specs.declared.answers.ClaimAnswer.{ClaimAnswer}
use Rattle.farm_history.specs.declared.answers.Fetched.{Fetched}
use Rattle.farm_history.specs.declared.answers.Fetched.TheVariants.{Clean}
use Rattle.farm_history.specs.declared.answers.Collected.{Collected}
use Rattle.farm_history.specs.Entries.{Entry, Claim, Expire, Collect, Fetch}
use Rattle.farm_history.specs.Plans.{spot_tile}
use Rattle.farm_history.specs.Lists.{Each}
use Rattle.farm_history.specs.Past.{open_asks}
use Rattle.farm_refinement.specs.Seen.{FarmSeen}
use Rattle.farm_refinement.specs.Stands.{StandsFor}
use Rattle.script_text.specs.ScriptTexts.{has_failed}
use Rattle.script_text.specs.inner.Steps.{is_failed_fetch}
use Rattle.work_gen.specs.declared.stepping.Step.{Step}
use Rattle.load_command.specs.declared.totals.Totals.{Totals}
use Rattle.load_command.specs.declared.steps.StepSeen.{StepSeen}
use Rattle.load_command.specs.Loads.{clean_tiles, EndsClaim, GivesNone, IsStep, IsEventOf, IsLoad}
use Rattle.load_command.specs.Runs.{IsEventAt}

-- a Collect that gave this reply
abbrev pub collect_entry : Reply → Entry
collect_entry reply = Collect 0 (Collected.Reply reply)

-- the sum of the bytes
abbrev pub byte_sum : List ℕ → ℕ
byte_sum bytes = sum_by (λ b. b) bytes

-- a tile is expired first, where the step says so
abbrev pub Expires : Step → List Entry → List Entry → Type 0
Expires s before after = MatchBool s.expire
    ((count : ℕ) × (after ≡ Expire (spot_tile s.spot) count ∷ before)) (after ≡ before)

-- how many events there were, and how many asks are open: a Collect that gives a reply makes it no
-- more
abbrev pub weight : List Entry → ℕ
weight h = length h + length (open_asks h)

-- a farm that stands for a history of which this holds, and which weighs so much at most
pub record Grows {D : Type 0} (state : D → Outside StoreTold) (store_tells : Bool)
    (farm : FarmSeen D) (most : ℕ) (holds : List Entry → Type 0) : Type 0 where
  pub after : List Entry
  pub stands : StandsFor state store_tells farm after
  pub small : weight after ≤ most
  pub held : holds after

-- some events of the step came behind the history
abbrev pub BreaksOff : Step → List Entry → List Entry → Type 0
BreaksOff s before after = (rest : List Entry) × (after ≡ rest ++ before) × Each (IsEventOf s) rest

-- what was claimed was drawn and ended; whether its put failed is told. In want of memory it broke
-- off
abbrev pub Draws : Step → List Entry → Result Bool NoMemory → List Entry → Type 0
Draws s before (Ok failed) after = (claimed : ClaimAnswer) × EndsClaim claimed
    (Claim 0 claimed ∷ before) after × (has_failed after ≡ (failed || has_failed before))
Draws s before (Err wanting) after = BreaksOff s before after

-- the replies were collected, until there was none
abbrev pub CollectsAll : List Entry → List Entry → Type 0
CollectsAll before after = (replies : List Reply) × (last : Collected) × GivesNone last
    × (after ≡ Collect 0 last ∷ (map collect_entry replies ++ before))

-- the tile of a fetch that is clean
abbrev pub clean_of : Fetched → List (List ℕ)
clean_of (Clean version bytes) = bytes ∷ []
clean_of answer = []

-- The tile of the spot was fetched: after one history a Fetch, with what it gave; and whether a
-- call of the store failed, where that is told of what came before. In want of memory that came of
-- the Fetch.
abbrev pub FetchesOne : Spot → Bool → List Entry → Result StepSeen NoMemory → List Entry → Type 0
FetchesOne spot lost before (Ok seen) after = (after ≡ Fetch spot seen.fetched ∷ before)
    × (seen.fetched ≢ Fetched.NoMemory) × (seen.failed ≡ (is_failed_fetch seen.fetched || lost))
FetchesOne spot lost before (Err wanting) after = after ≡ Fetch spot Fetched.NoMemory ∷ before

-- a step was run, with what was fetched, and whether a call of the store failed. In want of memory
-- it broke off
abbrev pub Steps : Step → List Entry → Result StepSeen NoMemory → List Entry → Type 0
Steps s before (Ok seen) after =
    IsStep s before after × (clean_tiles after ≡ clean_of seen.fetched ++ clean_tiles before)
    × (has_failed after ≡ (seen.failed || has_failed before))
Steps s before (Err wanting) after = BreaksOff s before after

-- the totals with those of a step more
pub record Adds (totals totals' : Totals) (seen : StepSeen) : Type 0 where
  pub clean_is : totals'.clean ≡ totals.clean + length (clean_of seen.fetched)
  pub bytes_is : totals'.bytes ≡ totals.bytes + sum_by length (clean_of seen.fetched)
  pub sum_is : totals'.sum ≡ totals.sum + sum_by byte_sum (clean_of seen.fetched)
  pub failed_is : totals'.failed ≡ (seen.failed || totals.failed)
  pub few : totals'.clean ≤ totals.clean + 1
  pub few_bytes : totals'.bytes ≤ totals.bytes + 2 ^ 64
  pub small_sum : totals'.sum ≤ totals.sum + 2 ^ 72

-- the totals of a history in which at most so many tiles were fetched
pub record Tells (totals : Totals) (count : ℕ) (h : List Entry) : Type 0 where
  pub clean_is : totals.clean ≡ length (clean_tiles h)
  pub bytes_is : totals.bytes ≡ sum_by length (clean_tiles h)
  pub sum_is : totals.sum ≡ sum_by byte_sum (clean_tiles h)
  pub failed_is : totals.failed ≡ has_failed h
  pub few : totals.clean ≤ count
  pub few_bytes : totals.bytes ≤ count * 2 ^ 64
  pub small_sum : totals.sum ≤ count * 2 ^ 72

-- so many steps were run, with these totals
abbrev pub Summed : List Step → ℕ → Totals → List Entry → Type 0
Summed steps count totals h = IsLoad (take count steps) [] h × Tells totals count h

-- the first so many steps were run, and of the next one some events
pub record LoadsShort (steps : List Step) (stands : List Entry → Type 0) : Type 0 where
  pub count : ℕ
  pub middle : List Entry
  pub run : IsLoad (take count steps) [] middle
  pub rest : List Entry
  pub events : Each (IsEventAt (slice_get steps count)) rest
  pub stood_for : stands (rest ++ middle)

-- the steps were run; or memory was wanting in one
abbrev pub Runs : {D : Type 0} → (D → Outside StoreTold) → Bool → FarmSeen D → List Step
    → Result Totals NoMemory → Type 0
Runs state store_tells farm steps (Ok totals) = (h : List Entry)
    × StandsFor state store_tells farm h × IsLoad steps [] h × Tells totals (length steps) h
Runs state store_tells farm steps (Err wanting) =
    LoadsShort steps (λ h. StandsFor state store_tells farm h)

-- the line was put, all of it or a front; where all was, it is told whether a call of the store
-- failed
abbrev pub TellsLine : SinkAt → SinkAt → List ℕ → Bool → Result (Unit {0}) Stop → Type 0
TellsLine out out' line failed (Ok done) = Puts out out' line (Ok tt) × (failed ≡ false)
TellsLine out out' line failed (Err stop.StoreFailed) = Puts out out' line (Ok tt) × (failed ≡ true)
TellsLine out out' line failed (Err stop.SinkFailed) = Puts out out' line (Err Failed)
TellsLine out out' line failed (Err other) = ⊥
