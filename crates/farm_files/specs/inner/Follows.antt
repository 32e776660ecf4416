-- What code does that follows a course.
use Rattle.std.specs.Prelude.{◌≡◌, ℕ, ◌⊎◌, List, Option, Some, Result, Ok, Err, Vec}
use Rattle.std.specs.declared.alloc.Global.{Global}
use Rattle.farm_base.specs.Outside.{Reads}
use Rattle.farm_base.specs.declared.files.FileFault.{FileFault}
use Rattle.farm_base.specs.declared.files.FileFault.TheVariants as file
use Rattle.exit_status.specs.Stops.{unreadable_line}
use Rattle.exit_status.specs.Ends.{FilesAt}
use Rattle.exit_status.specs.declared.stops.Stop.{Stop}
use Rattle.exit_status.specs.declared.stops.Stop.TheVariants as stop
use Rattle.farm_files.specs.Course.{Course, made, refused, reads}

-- nothing more is read: this is the end, or memory was wanting
abbrev pub Ends : {V : Type 0} → Result V Stop → FilesAt → FilesAt → Result V Stop → Type 0
Ends end old new result = ((result ≡ end) ⊎ (result ≡ Err stop.NoMemory)) × (new ≡ old)

-- what is done after a read of the file of this name: its bytes lead on, and a read that failed is
-- the end
abbrev pub After : {V : Type 0} → (List ℕ → Type 0) → List ℕ → FilesAt → FilesAt → Result V Stop
    → Result (Vec ℕ Global) FileFault → Type 0
After goes name middle new result (Ok bytes) = goes bytes.items
After goes name middle new result (Err file.Failed) =
    Ends (Err (stop.Unreadable (unreadable_line name))) middle new result
After goes name middle new result (Err file.NoMemory) = Ends (Err stop.NoMemory) middle new result

-- the file of this name is read, and what comes after it is done
pub record ReadAnd {V : Type 0} (goes : List ℕ → FilesAt → Type 0) (name : List ℕ)
    (old new : FilesAt) (result : Result V Stop) : Type 0 where
  pub read : Result (Vec ℕ Global) FileFault
  pub middle : FilesAt
  pub has : Reads old middle name read
  pub after : After (λ bytes. goes bytes middle) name middle new result read

-- the course is followed from one moment of the files to another; memory may be wanting at any
-- moment
abbrev pub Follows : {V : Type 0} → Course V → FilesAt → FilesAt → Result V Stop → Type 0
Follows (made value) old new result = Ends (Ok value) old new result
Follows (refused line) old new result = Ends (Err (stop.Refused line)) old new result
Follows (reads name on) old new result =
    Ends (Err stop.NoMemory) old new result
    ⊎ ReadAnd (λ bytes middle. Follows (on bytes) middle new result) name old new result

-- a course that is followed without a read of files
abbrev pub Says : {V : Type 0} → Course V → Result V Stop → Type 0
Says course result = (at : FilesAt) → Follows course at at result

-- what a reader of bytes answers, of what they mean: a value exactly, and of a fault with a text
-- that fault
abbrev pub Tells : {V F : Type 0} → (F → Option (List ℕ)) → Result V F → Result V F → Type 0
Tells text means (Ok value) = means ≡ Ok value
Tells text means (Err fault) = (said : List ℕ) → text fault ≡ Some said → means ≡ Err fault
