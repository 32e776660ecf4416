-- What objects of the outside show of themselves, and what a call on files or on a sink may do.
use Rattle.std.specs.Prelude.{◌≡◌, ◌≤◌, ℕ, ◌+◌, ◌-◌, ◌^◌, min, false, List, [], ◌∷◌, ◌++◌, length, take, Option, Some, None, Result, Ok, Err, Vec, IfSome, option_map}
use Rattle.std.specs.declared.alloc.Global.{Global}
use Rattle.farm_base.specs.declared.files.FailedCall.{FailedCall}
use Rattle.farm_base.specs.declared.files.FileFault.{FileFault}
use Rattle.farm_base.specs.declared.files.FileFault.TheVariants.{Failed, NoMemory}
use Rattle.farm_base.specs.declared.sinks.SinkFault.{SinkFault}

-- An object of the outside at a moment: what it holds, where it tells that, and how many calls on
-- it failed so far.
pub record Outside (T : Type 0) : Type 0 where
  pub told : Option T
  pub faults : ℕ

-- an object that tells nothing but this count
abbrev pub untold : {T : Type 0} → ℕ → Outside T
untold faults = record { told = None; faults = faults }

-- a count of faults rose between two moments, or stands at its last value
abbrev pub Rose : ℕ → ℕ → Type 0
Rose before now = min (before + 1) (2 ^ 64 - 1) ≤ now

-- a count of faults over a call that failed: it never falls
abbrev pub Counted : ℕ → ℕ → Type 0
Counted before now = (before ≤ now) × Rose before now

-- what files that tell their content tell: what each name holds, and the calls that failed so far
pub record FilesTold : Type 0 where
  pub content : List ℕ → Option (List ℕ)
  pub failed : List FailedCall

-- a read of this name that failed
abbrev pub failed_read : List ℕ → FailedCall
failed_read name = record { name = name; put = false }

-- the same files after one more call that failed
abbrev pub with_failed : FailedCall → FilesTold → FilesTold
with_failed call files = record files { failed = files.failed ++ call ∷ [] }

-- A read of a name. After Ok all is as before, and where the files tell, the bytes are those that
-- the name holds. After Failed the count has risen, the failed read is noted where they tell, and
-- nothing else has changed. After NoMemory all is as before.
abbrev pub Reads : Outside FilesTold → Outside FilesTold → List ℕ
    → Result (Vec ℕ Global) FileFault → Type 0
Reads old new name (Ok bytes) =
    (new ≡ old) × IfSome old.told (λ t. t.content name ≡ Some bytes.items)
Reads old new name (Err Failed) = (new.told ≡ option_map (with_failed (failed_read name)) old.told)
    × Counted old.faults new.faults
Reads old new name (Err NoMemory) = new ≡ old

-- A put of a piece. After Ok the whole piece is appended and the count is as before, after Failed
-- some front of the piece is appended and the count has risen. Whether the bytes are told stays.
abbrev pub Puts : Outside (List ℕ) → Outside (List ℕ) → List ℕ
    → Result (Unit {0}) SinkFault → Type 0
Puts old new piece (Ok done) =
    (new.told ≡ option_map (λ had. had ++ piece) old.told) × (new.faults ≡ old.faults)
Puts old new piece (Err fault) =
    (len : ℕ) × (len ≤ length piece) × (new.told
    ≡ option_map (λ had. had ++ take len piece) old.told) × Counted old.faults new.faults
