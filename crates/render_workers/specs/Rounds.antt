-- What a worker adds to the history of its farm.
use Rattle.std.specs.Prelude.{◌⊎◌, ℕ, ◌≡◌, Bool, List, [], ◌∷◌, ◌++◌}
use Rattle.std.specs.List.{flat_map}
use Rattle.farm_history.specs.declared.keys.Key.{Key}
use Rattle.farm_history.specs.declared.answers.ClaimAnswer.{ClaimAnswer}
use Rattle.farm_history.specs.declared.answers.ClaimAnswer.TheVariants.{Job}
use Rattle.farm_history.specs.declared.answers.Finished.{Finished}
use Rattle.farm_history.specs.Entries.{Entry, Claim, Finish}
use Rattle.turn_cell.specs.SeatStates.{SeatState}
use Rattle.farm_shared.specs.Seats.{plain}
use Rattle.render_workers.specs.declared.worker.WorkEnd.{WorkEnd}

-- one round of a worker
pub data Round : Type 0 where
  -- it was given a job, by its ticket, key and version, and ended it, drawn or not, with that answer
  Drew : ℕ → Key → ℕ → Bool → Finished → Round
  -- nothing waited
  FoundNone : Round
  -- as many drawings were under way as there are workers
  FoundMany : Round

-- the entries of a round of worker w, the oldest first: the Claim and, after a Job, that job's Finish
abbrev pub round_entries : ℕ → Round → List Entry
round_entries w (Drew ticket key version drawn answer) =
    Claim w (Job ticket key version) ∷ Finish ticket drawn answer ∷ []
round_entries w FoundNone = Claim w ClaimAnswer.Idle ∷ []
round_entries w FoundMany = Claim w ClaimAnswer.Crowded ∷ []

-- The entries after the last round: where the worker ends Stopped, its Claim that was answered so; where it ends Worn, nothing or a Job without its Finish
abbrev pub LastEntries : ℕ → WorkEnd → List Entry → Type 0
LastEntries w WorkEnd.Stopped last = last ≡ Claim w ClaimAnswer.Stopped ∷ []
LastEntries w WorkEnd.Worn last =
    (last ≡ [])
    ⊎ ((ticket : ℕ) × (key : Key) × (version : ℕ) × (last ≡ Claim w (Job ticket key version) ∷ []))

-- the entries are those of rounds of worker w, and then those of its end
pub record WorkOf (w : ℕ) (end : WorkEnd) (es : List Entry) : Type 0 where
  pub rounds : List Round
  pub last : List Entry
  pub are : es ≡ flat_map (round_entries w) rounds ++ last
  pub ended : LastEntries w end last

-- the seat has gained those entries of its own
abbrev pub Gains : {T : Type 0} → List Entry → SeatState T Entry → SeatState T Entry → Type 0
Gains es v w = plain w.mine ≡ plain v.mine ++ es

-- worker w has worked, and ended so
pub record Worked {T : Type 0} (w : ℕ) (end : WorkEnd) (old new : SeatState T Entry) : Type 0 where
  pub entries : List Entry
  pub gains : Gains entries old new
  pub work : WorkOf w end entries
