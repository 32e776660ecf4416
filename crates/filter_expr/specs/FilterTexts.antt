-- What a text says as a filter, as a function: the filter that its tokens are read as, or the first
-- fault. It is what the grammar gives the text: the filter where there is one, and else the first
-- fault.
use Rattle.std.specs.Prelude.{◌≡◌, ℕ, List, Result, Ok, Err}
use Rattle.plain_filters.specs.declared.Expr.{Expr}
use Rattle.plain_filters.specs.Filters.{FilterTree, tree_of}
use Rattle.filter_expr.specs.declared.faults.FilterFault.{FilterFault}
use Rattle.filter_expr.specs.declared.faults.FilterFault.TheVariants.{Bad, NumberRange, TooDeep, NoMemory}
use Rattle.filter_expr.specs.Lexing.{tokens_from}
use Rattle.filter_expr.specs.Reading.{Step, got, failed, whole_filter}
use Rattle.filter_expr.specs.Filters.{FilterOf, FaultOf}

-- what was read: a filter or a fault
abbrev pub verdict : Step FilterTree → Result FilterTree FilterFault
verdict (got t ts) = Ok t
verdict (failed f ts) = Err f

-- what a text says as a filter: the filter, or its first fault
unfoldable pub filter_of : List ℕ → Result FilterTree FilterFault
filter_of text = verdict (whole_filter (tokens_from 0 0 text))

-- the answer is what the text says, but for want of memory
abbrev pub Says : Result FilterTree FilterFault → Result Expr FilterFault → Type 0
Says said (Ok e) = said ≡ Ok (tree_of e)
Says said (Err (Bad o)) = said ≡ Err (Bad o)
Says said (Err (NumberRange o)) = said ≡ Err (NumberRange o)
Says said (Err (TooDeep o)) = said ≡ Err (TooDeep o)
Says said (Err NoMemory) = Unit {0}

-- a filter that the grammar gives a text is what the text says
abbrev pub SaysFilter : Type 0
SaysFilter = (text : List ℕ) (t : FilterTree) → FilterOf text t → filter_of text ≡ Ok t

-- a fault that the grammar finds in a text is what the text says
abbrev pub SaysFault : Type 0
SaysFault = (text : List ℕ) (f : FilterFault) → FaultOf text f → filter_of text ≡ Err f

-- a filter that a text says is the one that the grammar gives it
abbrev pub FilterSaid : Type 0
FilterSaid = (text : List ℕ) (t : FilterTree) → filter_of text ≡ Ok t → FilterOf text t

-- a fault that a text says is one that the grammar finds in it
abbrev pub FaultSaid : Type 0
FaultSaid = (text : List ℕ) (f : FilterFault) → filter_of text ≡ Err f → FaultOf text f
