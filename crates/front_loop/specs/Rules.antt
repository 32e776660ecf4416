-- What a front makes of a connection: what the bytes that came ask for, the entries that this has, and the
-- bytes that are answered. Lists of things that happened have the newest first; lists of bytes, of requests
-- and of entries have the oldest first.
use Rattle.std.specs.Prelude.{◌≡◌, ℕ, Bool, true, false, ◌&&◌, ◌⊎◌, List, [], ◌∷◌, ◌++◌}
use Rattle.std.specs.List.{list_any}
use Rattle.farm_history.specs.declared.queues.Reply.{Reply}
use Rattle.farm_history.specs.declared.queues.Outcome.TheVariants as outcome
use Rattle.farm_history.specs.Entries.{Entry}

-- each of a list, whose newest comes first, is right after those before it
abbrev pub EachSoFar : {A : Type 0} → (List A → A → Type 0) → List A → Type 0
EachSoFar P [] = Unit {0}
EachSoFar P (x ∷ xs) = P xs x × EachSoFar P xs

-- the list is empty
abbrev pub is_empty : {A : Type 0} → List A → Bool
is_empty [] = true
is_empty (x ∷ xs) = false

-- What happens on a connection: a request was done, with the answers that it got; or a reply to one of its
-- asks was collected, with the entries directly behind that Collect.
pub data Move (A : Type 0) : Type 0 where
  Does : A → Move A
  Gets : Reply → List Entry → Move A

-- the move is a reply to an ask that was cut
abbrev pub is_cut : {A : Type 0} → Move A → Bool
is_cut (Does a) = false
is_cut (Gets r behind) =
    elim r.outcome [ outcome.Cut ↦ true | outcome.Done ↦ false | outcome.NotDone ↦ false ]

-- What a front makes of a connection. W is a request; A is a request that was done, with its answers.
pub record Rules (A W : Type 0) : Type 1 where
  -- the front's number
  pub number : ℕ
  -- these are the requests that stand in the bytes of a connection, in order
  pub wanted : List ℕ → List W → Type 0
  -- the bytes end the connection: by an unknown version, or a line that is too long
  pub refuses : List ℕ → Bool
  -- the request that was done, and its entries on the connection of this number, in order
  pub want : A → W
  pub entries : ℕ → A → List Entry
  -- after these moves on its connection this one may be made: its entries are some of those that it has
  pub fits : List (Move A) → Move A → Bool
  -- and all of them are there
  pub whole : List (Move A) → Move A → Bool
  -- the bytes that are answered to it
  pub says : List (Move A) → Move A → List ℕ
  -- an entry of it was answered with want of memory
  pub starves : Move A → Bool
  -- with these moves all is answered that will be: the connection ends when it was sent whole
  pub ends : List (Move A) → Bool

module _ {A W : Type 0} (R : Rules A W) where
  -- what was asked by the moves, in order
  abbrev pub wants_of : List (Move A) → List W
  wants_of [] = []
  wants_of (Does a ∷ ms) = wants_of ms ++ R.want a ∷ []
  wants_of (Gets r behind ∷ ms) = wants_of ms

  -- the bytes that were answered, in order
  abbrev pub answer_bytes : List (Move A) → List ℕ
  answer_bytes [] = []
  answer_bytes (m ∷ ms) = answer_bytes ms ++ R.says ms m

  -- every move has all its entries
  abbrev pub each_whole : List (Move A) → Bool
  each_whole [] = true
  each_whole (m ∷ ms) = R.whole ms m && each_whole ms

  -- some move found no memory
  abbrev pub any_starves : List (Move A) → Bool
  any_starves ms = list_any R.starves ms

  -- these are the first of the requests that stand in the bytes
  abbrev pub BeginsWanted : List ℕ → List W → Type 0
  BeginsWanted given ws = (ws ≡ []) ⊎ ((more : List W) × R.wanted given (ws ++ more))
