-- What a reading function of the code answers and leaves, against the reader of token lists.
use Rattle.std.specs.Prelude.{◌≡◌, Result, Ok, Err, List}
use Rattle.filter_expr.specs.declared.tokens.PlacedToken.{PlacedToken}
use Rattle.filter_expr.specs.declared.faults.FilterFault.{FilterFault}
use Rattle.filter_expr.specs.declared.faults.FilterFault.TheVariants.{Bad, NumberRange, TooDeep, NoMemory}
use Rattle.filter_expr.specs.Reading.{Step, got, failed}

-- the tree and the tokens left are those read; on a fault the tokens are left where it stands
abbrev pub Gives :
    {A B : Type 0} → (A → B) → Result A FilterFault → List PlacedToken → Step B → Type 0
Gives view (Ok x) ts read = read ≡ got (view x) ts
Gives view (Err NoMemory) ts read = Unit {0}
Gives view (Err (Bad o)) ts read = read ≡ failed (Bad o) ts
Gives view (Err (NumberRange o)) ts read = read ≡ failed (NumberRange o) ts
Gives view (Err (TooDeep o)) ts read = read ≡ failed (TooDeep o) ts

-- the answer for a whole text is the tree or the fault that was read, but for want of memory
abbrev pub Answers : {A B : Type 0} → (A → B) → Result A FilterFault → Step B → Type 0
Answers view (Ok x) read = (ts : List PlacedToken) × (read ≡ got (view x) ts)
Answers view (Err NoMemory) read = Unit {0}
Answers view (Err (Bad o)) read = (ts : List PlacedToken) × (read ≡ failed (Bad o) ts)
Answers view (Err (NumberRange o)) read =
    (ts : List PlacedToken) × (read ≡ failed (NumberRange o) ts)
Answers view (Err (TooDeep o)) read = (ts : List PlacedToken) × (read ≡ failed (TooDeep o) ts)
