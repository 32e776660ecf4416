-- What the files of a command lead to, in the order in which they are read.
use Rattle.std.specs.Prelude.{◌≡◌, ℕ, ◌⊎◌, List, [], ◌∷◌, Option, Some, unwrap_or, Result, Ok, Err}
use Rattle.exit_status.specs.Stops.{refused_line}

-- A reading of files: it has made a value; or a line refuses a file; or the file of this name is
-- read next, and its bytes lead on.
pub data Course (V : Type 0) : Type 0 where
  made : V → Course V
  refused : List ℕ → Course V
  reads : List ℕ → (List ℕ → Course V) → Course V

infixl 10 ◌>>=◌
-- after one course another, which is told what the first has made
abbrev pub ◌>>=◌ : {A B : Type 0} → Course A → (A → Course B) → Course B
(made value) >>= next = next value
(refused line) >>= next = refused line
(reads name on) >>= next = reads name (λ bytes. on bytes >>= next)

-- What the bytes of the file of this name mean, or the line of their first fault. A fault without a
-- text is want of memory, and no bytes mean that.
abbrev pub judged : {V F : Type 0} → (F → Option (List ℕ)) → List ℕ → Result V F → Course V
judged text name (Ok value) = made value
judged text name (Err fault) = refused (refused_line name (unwrap_or (text fault) []))

-- the file of this name is read, and then its bytes are judged by what they mean
unfoldable pub file : {V F : Type 0} → (List ℕ → Result V F) → (F → Option (List ℕ))
    → List ℕ → Course V
file meaning text name = reads name (λ bytes. judged text name (meaning bytes))

-- one course for each item, in order: what each has made
abbrev pub each : {A V : Type 0} → (A → Course V) → List A → Course (List V)
each course [] = made []
each course (x ∷ xs) = course x >>= λ y. each course xs >>= λ ys. made (y ∷ ys)

-- Files that hold this lead the first course to the second: it is the same; or the file that it
-- reads next is held, and what its bytes make of it leads there.
abbrev pub Leads : {V : Type 0} → (List ℕ → Option (List ℕ)) → Course V → Course V → Type 0
Leads held (reads name on) left =
    (left ≡ reads name on)
    ⊎ ((bytes : List ℕ) × (held name ≡ Some bytes) × Leads held (on bytes) left)
Leads held course left = left ≡ course
