-- What a script puts: line by line its entry, if it has one, and its answer.
use Rattle.std.specs.Prelude.{◌≡◌, ℕ, ◌==◌, Bool, true, false, List, [], ◌∷◌, ◌++◌, map, codes, Some}
use Rattle.std.specs.List.{list_any}
use Rattle.plain_world.specs.declared.world.Tile.{Tile}
use Rattle.plain_world.specs.World.{IsTile}
use Rattle.farm_history.specs.declared.queues.Conn.{Conn}
use Rattle.farm_history.specs.declared.asks.Spot.{Spot}
use Rattle.farm_history.specs.declared.asks.AskAnswer.{AskAnswer}
use Rattle.farm_history.specs.declared.answers.ClaimAnswer.{ClaimAnswer}
use Rattle.farm_history.specs.declared.answers.ClaimAnswer.TheVariants.{Job}
use Rattle.farm_history.specs.declared.answers.Finished.{Finished}
use Rattle.farm_history.specs.declared.answers.Finished.TheVariants.{PutFailed}
use Rattle.farm_history.specs.declared.answers.Updated.{Updated}
use Rattle.farm_history.specs.declared.answers.Restyled.{Restyled}
use Rattle.farm_history.specs.declared.answers.Renewed.{Renewed}
use Rattle.farm_history.specs.declared.answers.Fetched.{Fetched}
use Rattle.farm_history.specs.declared.answers.Fetched.TheVariants.{GetFailed}
use Rattle.farm_history.specs.declared.answers.Looked.{Looked}
use Rattle.farm_history.specs.declared.answers.Collected.{Collected}
use Rattle.farm_history.specs.declared.answers.Tally.{Tally}
use Rattle.farm_history.specs.Entries as entry
use Rattle.farm_history.specs.Entries.{Entry}
use Rattle.farm_history.specs.Lists.{without_first}
use Rattle.farm_plan.specs.Plans.{FarmPlan, maps_in}
use Rattle.script_lines.specs.declared.script.ScriptLine.{ScriptLine}
use Rattle.script_lines.specs.declared.script.ScriptLine.TheVariants as line
use Rattle.script_answers.specs.Answers.{entry_text}

-- ---- the words of a line

-- the names of the plan's maps
abbrev pub names_of : FarmPlan → List (List ℕ)
names_of plan = map (λ m. m.name) plan.maps

-- the connections of a script are those of front 0
abbrev pub conn_of : ℕ → Conn
conn_of c = record { front = 0; number = c }

-- a spot by the name of its map; the map is none where the plan has none of that name
abbrev pub script_spot : FarmPlan → List ℕ → ℕ → ℕ → ℕ → Spot
script_spot plan name z x y = record { map = maps_in plan name; z = z; x = x; y = y }

-- a tile by its numbers
abbrev pub numbered_tile : ℕ → ℕ → ℕ → Tile
numbered_tile z x y = record { z = z; x = x; y = y }

-- the entry is that of the line, with some answer; a `finish` is of a drawing, a `cut` of none
abbrev pub IsEntryOf : FarmPlan → ScriptLine → Entry → Type 0
IsEntryOf plan (line.Ask c cmd name z x y) e =
    (answer : AskAnswer) × (e ≡ entry.Ask (conn_of c) cmd (script_spot plan name z x y) answer)
IsEntryOf plan (line.Claim worker) e = (answer : ClaimAnswer) × (e ≡ entry.Claim worker answer)
IsEntryOf plan (line.Finish ticket) e = (answer : Finished) × (e ≡ entry.Finish ticket true answer)
IsEntryOf plan (line.Cut ticket) e = (answer : Finished) × (e ≡ entry.Finish ticket false answer)
IsEntryOf plan (line.Update n) e = (answer : Updated) × (e ≡ entry.Update n answer)
IsEntryOf plan (line.Restyle n) e = (answer : Restyled) × (e ≡ entry.Restyle n answer)
IsEntryOf plan (line.Renew n) e = (answer : Renewed) × (e ≡ entry.Renew n answer)
IsEntryOf plan (line.Expire z x y) e = (count : ℕ) × (e ≡ entry.Expire (numbered_tile z x y) count)
IsEntryOf plan (line.Fetch name z x y) e =
    (answer : Fetched) × (e ≡ entry.Fetch (script_spot plan name z x y) answer)
IsEntryOf plan (line.Look name z x y) e =
    (answer : Looked) × (e ≡ entry.Look (script_spot plan name z x y) answer)
IsEntryOf plan (line.Collect front) e = (answer : Collected) × (e ≡ entry.Collect front answer)
IsEntryOf plan (line.Leave c) e = (count : ℕ) × (e ≡ entry.Leave (conn_of c) count)
IsEntryOf plan line.Tally e = (totals : Tally) × (e ≡ entry.Tally totals)
IsEntryOf plan line.Stop e = e ≡ entry.Stop

-- ---- the tickets in hand

-- a Claim gives a ticket, and the end of its drawing takes it
abbrev pub hand_after : List ℕ → Entry → List ℕ
hand_after hand (entry.Claim worker (Job ticket key version)) = hand ++ ticket ∷ []
hand_after hand (entry.Finish ticket drawn answer) = without_first (λ t. t == ticket) hand
hand_after hand e = hand

abbrev pub is_in_hand : List ℕ → ℕ → Bool
is_in_hand hand ticket = list_any (λ t. t == ticket) hand

-- the line has an event, where these tickets are in hand: a drawing that ends is in hand, and a
-- tile that is expired is one
abbrev pub HasEvent : List ℕ → ScriptLine → Type 0
HasEvent hand (line.Finish ticket) = is_in_hand hand ticket ≡ true
HasEvent hand (line.Cut ticket) = is_in_hand hand ticket ≡ true
HasEvent hand (line.Expire z x y) = IsTile (numbered_tile z x y)
HasEvent hand l = Unit {0}

-- it has none, and this is its answer
abbrev pub HasNone : List ℕ → ScriptLine → List ℕ → Type 0
HasNone hand (line.Finish ticket) said = (is_in_hand hand ticket ≡ false) × (said ≡ codes "nojob\n")
HasNone hand (line.Cut ticket) said = (is_in_hand hand ticket ≡ false) × (said ≡ codes "nojob\n")
HasNone hand (line.Expire z x y) said =
    ¬ (IsTile (numbered_tile z x y)) × (said ≡ codes "unservable\n")
HasNone hand l said = ⊥

-- ---- failures of the store

-- the entry says that a call of the store failed; only what was drawn is put
abbrev pub is_failed : Entry → Bool
is_failed (entry.Finish ticket true PutFailed) = true
is_failed (entry.Fetch spot GetFailed) = true
is_failed e = false

-- some entry does
abbrev pub has_failed : List Entry → Bool
has_failed h = list_any is_failed h

-- ---- texts

-- A line on a farm with this history, where these tickets are in hand: the tickets and the history
-- behind it, and what is put. Histories are newest first.
pub data LineText (plan : FarmPlan) (l : ScriptLine) (hand : List ℕ) (before : List Entry)
    (hand' : List ℕ) (after : List Entry) (said : List ℕ) : Type 0 where
  unheard : HasNone hand l said → hand' ≡ hand → after ≡ before
      → LineText plan l hand before hand' after said
  entered : (e : Entry) → HasEvent hand l → IsEntryOf plan l e
      → entry_text (names_of plan) e ≡ Some said → hand' ≡ hand_after hand e → after ≡ e ∷ before
      → LineText plan l hand before hand' after said

-- the same for lines one after another
abbrev pub LinesText : FarmPlan → List ScriptLine → List ℕ → List Entry → List ℕ → List Entry
    → List ℕ → Type 0
LinesText plan [] hand before hand' after text = (hand' ≡ hand) × (after ≡ before) × (text ≡ [])
LinesText plan (l ∷ ls) hand before hand' after text =
    (held : List ℕ) × (middle : List Entry) × (said : List ℕ) × (rest : List ℕ)
    × LineText plan l hand before held middle said × LinesText plan ls held middle hand' after rest
    × (text ≡ said ++ rest)

-- The text of these lines, run on a farm with one history, after which it has another. No ticket is
-- in hand before the first.
abbrev pub ScriptText : FarmPlan → List ScriptLine → List Entry → List Entry → List ℕ → Type 0
ScriptText plan ls before after text = (hand : List ℕ) × LinesText plan ls [] before hand after text
