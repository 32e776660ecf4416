-- The events of a farm. A history is a list of entries, the newest first: in `e ∷ g` the entry e
-- came last, and g is what came before it. The place of e in it is the length of g.
use Rattle.std.specs.Prelude.{ℕ, Bool, List, [], ◌∷◌}
use Rattle.plain_world.specs.declared.world.Tile.{Tile}
use Rattle.farm_history.specs.declared.queues.Conn.{Conn}
use Rattle.farm_history.specs.declared.asks.Spot.{Spot}
use Rattle.farm_history.specs.declared.asks.Cmd.{Cmd}
use Rattle.farm_history.specs.declared.asks.AskAnswer.{AskAnswer}
use Rattle.farm_history.specs.declared.answers.ClaimAnswer.{ClaimAnswer}
use Rattle.farm_history.specs.declared.answers.Finished.{Finished}
use Rattle.farm_history.specs.declared.answers.Updated.{Updated}
use Rattle.farm_history.specs.declared.answers.Restyled.{Restyled}
use Rattle.farm_history.specs.declared.answers.Renewed.{Renewed}
use Rattle.farm_history.specs.declared.answers.Fetched.{Fetched}
use Rattle.farm_history.specs.declared.answers.Looked.{Looked}
use Rattle.farm_history.specs.declared.answers.Collected.{Collected}
use Rattle.farm_history.specs.declared.answers.Tally.{Tally as Totals}

-- one event with its arguments and its answer
pub data Entry : Type 0 where
  -- a connection asks for the metatile of a spot
  Ask : Conn → Cmd → Spot → AskAnswer → Entry
  -- a worker, by its number, asks for a drawing to make
  Claim : ℕ → ClaimAnswer → Entry
  -- the drawing of a ticket ends, drawn or not
  Finish : ℕ → Bool → Finished → Entry
  -- update number n is applied
  Update : ℕ → Updated → Entry
  -- update number n is applied, and what it reaches is expired
  Renew : ℕ → Renewed → Entry
  -- the style of number n becomes its map's
  Restyle : ℕ → Restyled → Entry
  -- a tile is expired; the answer is how many clean metatiles became dirty
  Expire : Tile → ℕ → Entry
  -- a tile's bytes are read
  Fetch : Spot → Fetched → Entry
  -- a tile's metatile is looked at
  Look : Spot → Looked → Entry
  -- a front, by its number, takes its first reply
  Collect : ℕ → Collected → Entry
  -- a connection is left; the answer is how many of its asks were open
  Leave : Conn → ℕ → Entry
  -- the farm is stopped for good
  Stop : Entry
  -- the farm's counts are read
  Tally : Totals → Entry

-- P holds of each entry of the history and what came before it
abbrev pub EachMoment : (List Entry → Entry → Type 0) → List Entry → Type 0
EachMoment P [] = Unit {0}
EachMoment P (e ∷ g) = P g e × EachMoment P g

-- P holds of the history and of each past of it
abbrev pub EachPast : (List Entry → Type 0) → List Entry → Type 0
EachPast P [] = P []
EachPast P (e ∷ g) = P (e ∷ g) × EachPast P g
