-- Reading step by step: a value, or the first fault.
use Rattle.std.specs.Prelude.{◌≡◌, Bool, Result, Ok, Err, if◌then◌else◌}
use Rattle.std.proofs.Common.{◌≢◌}

infixl 10 ◌>>=◌
-- the next step is read with what was read; a fault ends the reading
abbrev pub ◌>>=◌ : {A B E : Type 0} → Result A E → (A → Result B E) → Result B E
(Ok x) >>= f = f x
(Err e) >>= f = Err e

-- what was read, seen by view
abbrev pub seen : {A B E : Type 0} → (A → B) → Result A E → Result B E
seen view (Ok x) = Ok (view x)
seen view (Err e) = Err e

-- what a function answered, seen by view, is the value or fault that is defined, unless memory ran
-- out
abbrev pub Gives : {A B E : Type 0} → E → (A → B) → Result B E → Result A E → Type 0
Gives memory view defined (Ok x) = defined ≡ Ok (view x)
Gives memory view defined (Err e) = e ≢ memory → defined ≡ Err e

-- a test that has to hold
abbrev pub check : {E : Type 0} → Bool → E → Result (Unit {0}) E
check test fault = if test then Ok tt else Err fault
