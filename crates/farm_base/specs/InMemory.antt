-- The forms of files and sinks that stand in memory, as contracts see them.
use Rattle.std.specs.Prelude.{◌≡◌, ℕ, ◌+◌, ◌-◌, ◌^◌, ◌/◌, ◌==◌, min, Bool, ◌||◌, List, [], ◌∷◌, ◌++◌, length, take, Option, Some, None, Result, Ok, Err, Vec, find, option_map, nat_lt, if◌then◌else◌}
use Rattle.std.specs.List.{list_any}
use Rattle.std.specs.Str.{bytes_eq}
use Rattle.std.specs.declared.alloc.Global.{Global}
use Rattle.farm_base.specs.declared.files.FailedCall.{FailedCall}
use Rattle.farm_base.specs.declared.files.FileFault.{FileFault}
use Rattle.farm_base.specs.declared.files.FileFault.TheVariants.{Failed, NoMemory}
use Rattle.farm_base.specs.Outside.{Outside, FilesTold, failed_read}

-- the next value of a count that stands still at its last value
abbrev pub next_count : ℕ → ℕ
next_count n = min (n + 1) (2 ^ 64 - 1)

-- is the call of this number one of those that are to fail?
abbrev pub is_to_fail : List ℕ → ℕ → Bool
is_to_fail numbers n = list_any (λ k. k == n) numbers

-- named contents, the reads that are to fail by their numbers, how many reads were answered, and
-- those that failed
pub record FilesHeld : Type 0 where
  pub files : List (List ℕ × List ℕ)
  pub reads : List ℕ
  pub calls : ℕ
  pub failed : List FailedCall

-- what a name holds: the content of the first pair of that name
abbrev pub content_of : List (List ℕ × List ℕ) → List ℕ → Option (List ℕ)
content_of files name = option_map (λ f. f.1) (find (λ f. bytes_eq f.0 name) files)

-- what they tell
abbrev pub told_of : FilesHeld → FilesTold
told_of held = record { content = content_of held.files; failed = held.failed }

-- files in memory as an object of the outside: they tell, and count the reads that failed
abbrev pub files_state : FilesHeld → Outside FilesTold
files_state held = record { told = Some (told_of held); faults = length held.failed }

-- what a read of a name has: nothing where it is to fail or no file has the name
abbrev pub read_of : FilesHeld → List ℕ → Option (List ℕ)
read_of held name = if is_to_fail held.reads held.calls then None else content_of held.files name

-- A read of files in memory that has these bytes, or none, exactly: Ok where it has bytes, Failed
-- where it has none, and after NoMemory all is as before.
abbrev pub GivesHeld : FilesHeld → FilesHeld → List ℕ → Option (List ℕ)
    → Result (Vec ℕ Global) FileFault → Type 0
GivesHeld old new name has (Ok bytes) =
    (has ≡ Some bytes.items) × (new ≡ record old { calls = next_count old.calls })
GivesHeld old new name has (Err Failed) = (has ≡ None) × (new
    ≡ record old { calls = next_count old.calls; failed = old.failed ++ failed_read name ∷ [] })
GivesHeld old new name has (Err NoMemory) = new ≡ old

-- A read of a name.
abbrev pub ReadsHeld : FilesHeld → FilesHeld → List ℕ → Result (Vec ℕ Global) FileFault → Type 0
ReadsHeld old new name result = GivesHeld old new name (read_of old name) result

-- the bytes that were put, the room for them, the puts that are to fail by their numbers, how many
-- puts came and how many failed
pub record SinkHeld : Type 0 where
  pub bytes : List ℕ
  pub room : ℕ
  pub puts : List ℕ
  pub calls : ℕ
  pub faults : ℕ

-- a sink in memory as an object of the outside: it tells its bytes
abbrev pub sink_state : SinkHeld → Outside (List ℕ)
sink_state held = record { told = Some held.bytes; faults = held.faults }

-- does a put of this many bytes fail? It does by its number, or where it would pass the room.
abbrev pub put_fails : SinkHeld → ℕ → Bool
put_fails held len = is_to_fail held.puts held.calls || nat_lt held.room (length held.bytes + len)

-- The front of a piece that a put takes: all of it, or, where the put fails, half of it, rounded
-- down, and no more than there is room for.
abbrev pub front_of : SinkHeld → List ℕ → List ℕ
front_of held piece = if put_fails held (length piece)
    then take (min (held.room - length held.bytes) (length piece / 2)) piece else piece

-- a put of a piece, exactly
abbrev pub after_put : SinkHeld → List ℕ → SinkHeld
after_put held piece = record held {
  bytes = held.bytes ++ front_of held piece;
  calls = next_count held.calls;
  faults = if put_fails held (length piece) then next_count held.faults else held.faults;
}
