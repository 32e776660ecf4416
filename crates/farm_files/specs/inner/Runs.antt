-- What a command and a call do: a course is followed, and what it makes is worked on.
use Rattle.std.specs.Prelude.{◌≡◌, ℕ, ◌⊎◌, List, Result, Ok, Err, Vec}
use Rattle.std.specs.declared.alloc.Global.{Global}
use Rattle.reading.specs.Steps.{seen}
use Rattle.exit_status.specs.Ends.{FilesAt, SinkAt, PutsMade}
use Rattle.exit_status.specs.declared.stops.Stop.{Stop}
use Rattle.exit_status.specs.declared.stops.Stop.TheVariants as stop
use Rattle.farm_files.specs.Course.{Course}
use Rattle.farm_files.specs.inner.Follows.{Follows}

-- the course makes a text, which is put on out; where it makes none, nothing is put
pub record Writes (course : Course (List ℕ)) (files files' : FilesAt) (out out' : SinkAt)
    (end : Result (Unit {0}) Stop) : Type 0 where
  pub text : Result (Vec ℕ Global) Stop
  pub followed : Follows course files files' (seen (λ v. v.items) text)
  pub put : PutsMade out out' text end

-- what was made is worked on; where nothing was, nothing is done, and the world is as it was
abbrev pub Goes : {V W : Type 0} → (V → W → W → Result (Unit {0}) Stop → Type 0) → W → W
    → Result (Unit {0}) Stop → Result V Stop → Type 0
Goes does world world' end (Ok value) = does value world world' end
Goes does world world' end (Err s) = (end ≡ Err s) × (world' ≡ world)

-- The course is followed, and what it makes is worked on: `does` says what work does to the world,
-- and how it ends.
pub record Works {V W : Type 0} (does : V → W → W → Result (Unit {0}) Stop → Type 0)
    (course : Course V) (files files' : FilesAt) (world world' : W)
    (end : Result (Unit {0}) Stop) : Type 0 where
  pub made : Result V Stop
  pub followed : Follows course files files' made
  pub goes : Goes does world world' end made

-- nothing is read or done: this is the end
pub record Idles {W : Type 0} (s : Stop) (files files' : FilesAt) (world world' : W)
    (end : Result (Unit {0}) Stop) : Type 0 where
  pub ends : end ≡ Err s
  pub files_same : files' ≡ files
  pub world_same : world' ≡ world

-- What a call does whose words ask for such a course: it is followed, and what it makes is worked
-- on. Words that ask for none are refused; and memory may be wanting while the words are read.
abbrev pub Runs : {V W : Type 0} → (Course V → Type 0) → (V → W → W → Result (Unit {0}) Stop
    → Type 0) → FilesAt → FilesAt → W → W → Result (Unit {0}) Stop → Type 0
Runs {V} asks does files files' world world' end =
    ((course : Course V) × asks course × Works does course files files' world world' end)
    ⊎ ((((course : Course V) → ¬ (asks course)) × Idles stop.Words files files' world world' end)
    ⊎ Idles stop.NoMemory files files' world world' end)
