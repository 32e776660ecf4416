-- What a text is as a filter: its tree, or its first fault.
use Rattle.std.specs.Prelude.{◌≡◌, ℕ, Bool, true, false, List, [], ◌∷◌, ◌++◌, map, ◌⊎◌, Result, Ok, Err}
use Rattle.plain_filters.specs.declared.Expr.{Expr}
use Rattle.plain_filters.specs.Filters.{FilterTree, tree_of}
use Rattle.filter_expr.specs.declared.tokens.Token.{Token}
use Rattle.filter_expr.specs.declared.tokens.Token.TheVariants as token
use Rattle.filter_expr.specs.declared.tokens.PlacedToken.{PlacedToken}
use Rattle.filter_expr.specs.declared.faults.FilterFault.{FilterFault}
use Rattle.filter_expr.specs.declared.faults.FilterFault.TheVariants.{Bad, NumberRange, TooDeep, NoMemory}
use Rattle.filter_expr.specs.Spelling.{TokensOf}
use Rattle.filter_expr.specs.Spelled.{Spelled}

-- the tokens without their places
abbrev pub tokens : List PlacedToken → List Token
tokens ts = map (λ s. s.token) ts

-- up to the end of the text the tokens spell this filter, with so many things open at once at most
abbrev pub AreFilter : Bool → ℕ → FilterTree → List Token → Type 0
AreFilter wide d t ts = (us : List Token) × (ts ≡ us ++ token.End ∷ []) × Spelled wide 0 d t us

-- some filter begins with these tokens: its numbers are in range, unless `wide`, and so many things
-- are open at once at most
abbrev pub CanGoOn : Bool → ℕ → List Token → Type 0
CanGoOn wide d us = (t : FilterTree) × (more : List Token) × AreFilter wide d t (us ++ more)

-- The fault that the last of these tokens is, which stands at this place. Bad: no filter begins so,
-- whatever its numbers and its depth. NumberRange: one does, but none whose numbers are in range.
-- TooDeep: one whose numbers are in range does, but none in which no more than 64 things are open
-- at once.
abbrev pub FaultsAt : FilterFault → List Token → ℕ → Type 0
FaultsAt (Bad o) us at = (o ≡ at) × ((d : ℕ) → ¬ (CanGoOn true d us))
FaultsAt (NumberRange o) us at =
    (o ≡ at) × ((d : ℕ) × CanGoOn true d us) × ((d : ℕ) → ¬ (CanGoOn false d us))
FaultsAt (TooDeep o) us at =
    (o ≡ at) × ((d : ℕ) × CanGoOn false d us) × (¬ (CanGoOn false 64 us))
FaultsAt NoMemory us at = ⊥

-- ---- texts

-- the text is a filter within the limits, and this is its tree
abbrev pub FilterOf : List ℕ → FilterTree → Type 0
FilterOf text t = (ts : List PlacedToken) × TokensOf text ts × AreFilter false 64 t (tokens ts)

-- the text begins as a filter within the limits does, and the token behind that beginning is this
-- fault
abbrev pub FaultOf : List ℕ → FilterFault → Type 0
FaultOf text f =
    (before : List PlacedToken) × (here : PlacedToken) × (after : List PlacedToken)
    × TokensOf text (before ++ here ∷ after)
    × CanGoOn false 64 (tokens before) × FaultsAt f (tokens before ++ here.token ∷ []) here.offset

-- ---- answers

-- what may be answered for the text: its tree, its first fault, or want of memory
abbrev pub MayAnswer : List ℕ → Result Expr FilterFault → Type 0
MayAnswer text (Ok e) = FilterOf text (tree_of e)
MayAnswer text (Err (Bad o)) = FaultOf text (Bad o)
MayAnswer text (Err (NumberRange o)) = FaultOf text (NumberRange o)
MayAnswer text (Err (TooDeep o)) = FaultOf text (TooDeep o)
MayAnswer text (Err NoMemory) = Unit {0}

-- the answer is this tree, but for want of memory
abbrev pub AnswersTree : FilterTree → Result Expr FilterFault → Type 0
AnswersTree t (Ok d) = tree_of d ≡ t
AnswersTree t (Err (Bad o)) = ⊥
AnswersTree t (Err (NumberRange o)) = ⊥
AnswersTree t (Err (TooDeep o)) = ⊥
AnswersTree t (Err NoMemory) = Unit {0}

-- the answer is this fault, but for want of memory
abbrev pub AnswersFault : FilterFault → Result Expr FilterFault → Type 0
AnswersFault f (Ok d) = ⊥
AnswersFault f (Err (Bad o)) = Bad o ≡ f
AnswersFault f (Err (NumberRange o)) = NumberRange o ≡ f
AnswersFault f (Err (TooDeep o)) = TooDeep o ≡ f
AnswersFault f (Err NoMemory) = Unit {0}

-- ---- laws

-- tokens spell one filter at most, where no number is too great
abbrev pub OneTree : Type 0
OneTree =
    (s t : FilterTree) (us : List Token) (c d : ℕ)
    → Spelled false 0 c s us → Spelled false 0 d t us → s ≡ t

-- a text has a tree, or a fault
abbrev pub SomeAnswer : Type 0
SomeAnswer =
    (text : List ℕ) → ((t : FilterTree) × FilterOf text t) ⊎ ((f : FilterFault) × FaultOf text f)

-- a text has one tree at most
abbrev pub OneFilter : Type 0
OneFilter = (text : List ℕ) (s t : FilterTree) → FilterOf text s → FilterOf text t → s ≡ t

-- a text that has a tree has no fault
abbrev pub NotBoth : Type 0
NotBoth = (text : List ℕ) (t : FilterTree) (f : FilterFault) → FilterOf text t → FaultOf text f → ⊥

-- a text has one fault at most
abbrev pub OneFault : Type 0
OneFault = (text : List ℕ) (f g : FilterFault) → FaultOf text f → FaultOf text g → f ≡ g

-- a text has a list of tokens
abbrev pub SomeTokenList : Type 0
SomeTokenList = (text : List ℕ) → (ts : List PlacedToken) × TokensOf text ts

-- a text has one list of tokens at most
abbrev pub OneTokenList : Type 0
OneTokenList =
    (text : List ℕ) (ts us : List PlacedToken) → TokensOf text ts → TokensOf text us → ts ≡ us
