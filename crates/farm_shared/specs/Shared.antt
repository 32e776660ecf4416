-- What a shared farm stands for, and what its calls say of a seat.
use Rattle.std.specs.Prelude.{ℕ, ◌≤◌, ◌≡◌, ◌≢◌, Bool, true, List, [], ◌∷◌, ◌++◌, length, reverse, Option}
use Rattle.farm_base.specs.Outside.{Outside}
use Rattle.tile_store.specs.Stores.{StoreTold}
use Rattle.farm_history.specs.declared.answers.Collected.{Collected}
use Rattle.farm_history.specs.Entries.{Entry}
use Rattle.farm_history.specs.Laws.{IsOnlyReply}
use Rattle.farm_history.specs.Replays.{replay_front}
use Rattle.farm_history.specs.Rules.{Legal}
use Rattle.farm_refinement.specs.Seen.{FarmSeen}
use Rattle.farm_plan.specs.Drawings.{plan_of}
use Rattle.farm_plan.specs.Plans.{maps_in}
use Rattle.turn_cell.specs.Turns.{Follows}
use Rattle.turn_cell.specs.SeatStates.{Made, SeatState}
use Rattle.farm_shared.specs.declared.lasting.LastingPart.{LastingPart}
use Rattle.farm_shared.specs.Seats.{plain}
pub use Rattle.farm_shared.specs.Afters.{lasting_of, past, MayTell, IsAfter, HasJob}
pub use Rattle.farm_shared.specs.Promises.{IfReply}
use Rattle.farm_shared.specs.declared.turned.Turned.{Turned}

-- What stays.

-- the lasting part of the farm that a cell was made with
abbrev pub lasts : {D : Type 0} → (D → Outside StoreTold) → Made (Turned D) → LastingPart D
lasts state made = lasting_of state made.about.first.value.farm

-- the place of the map of a name, in the farm that was shared
abbrev pub maps_of : {D : Type 0} → Made (Turned D) → List ℕ → Option ℕ
maps_of made = maps_in made.about.first.value.farm.plan

-- What a call says of its seat.

-- The turn added that entry: the seat has now seen a history that begins with all that it had seen and has no other entry of it, and its own entry at the end
pub record Adds {T : Type 0} (e : Entry) (v w : SeatState T Entry) : Type 0 where
  pub log : List (ℕ × Entry)
  pub follows : Follows v.number v.seen log
  pub seen : w.seen ≡ log ++ (v.number, e) ∷ []
  pub mine : w.mine ≡ v.mine ++ (v.number, e) ∷ []
  pub worn : w.worn ≡ v.worn

-- All that happened so far is legal, what the farm began with and then these turns
abbrev pub IsLegalSo : {D : Type 0} → (D → Outside StoreTold) → LastingPart D → List (ℕ × Entry)
    → Type 0
IsLegalSo state part log =
    (store_tells : Bool) → MayTell state part store_tells
    → Legal (plan_of part.plan) store_tells (past part log)

-- A reply that a front is given, other than the front of a replay, is to an ask among its own entries: it is of the asker's connection, none of them gave that reply before, and none is a Leave of the connection after the ask
abbrev pub OwnReply : ℕ → List (ℕ × Entry) → Collected → Type 0
OwnReply front mine answer =
    front ≢ replay_front → IfReply answer (λ r. IsOnlyReply (plain (reverse mine)) r)

-- What is left of a cell: a farm that stands for the whole history, and has what the first farm had for good. Where the closing seat has the mark of a worn cell, the history is no shorter than the limit
pub record IsClosed {D T : Type 0} (state : D → Outside StoreTold) (limit : ℕ) (first : FarmSeen D)
    (v : SeatState T Entry) (farm : FarmSeen D) : Type 0 where
  pub after : IsAfter state farm v.seen
  pub kept : lasting_of state farm ≡ lasting_of state first
  pub worn : v.worn ≡ true → limit ≤ length v.seen
