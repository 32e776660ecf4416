-- What a client concludes of one tile that it fetched over one connection.
use Rattle.std.specs.Prelude.{◌≡◌, ◌⊎◌, ℕ, true, List, [], ◌∷◌, ◌++◌, None, Some, is_some, take}
use Rattle.farm_base.specs.Outside.{Outside}
use Rattle.tile_store.specs.Stores.{StoreTold}
use Rattle.reactor_ports.specs.Told.{PortsTold}
use Rattle.farm_history.specs.declared.asks.Spot.{Spot}
use Rattle.farm_history.specs.declared.answers.Fetched.{Fetched}
use Rattle.farm_history.specs.Entries.{Entry, Fetch}
use Rattle.front_loop.specs.Conns.{conn}
use Rattle.tile_front.specs.Heads.{bytes_read}
use Rattle.tile_front.specs.Answers.{tile_answer}
use Rattle.tile_front.specs.declared.acts.HttpAsk.{HttpAsk}
use Rattle.tile_front.specs.declared.acts.HttpAsk.TheVariants as http_ask
use Rattle.tile_front.specs.Tiles.{BytesAsk}
use Rattle.farm_plan.specs.Plans.{FarmPlan, maps_in}
use Rattle.farm_refinement.specs.Seen.{FarmSeen}
use Rattle.farm_laws.specs.Promise.{IsClean}
use Rattle.farm_call.specs.Call.{CallBefore, CallAfter, End}
use Rattle.farm_call.specs.Keeps.{Served, Keeps}
use Rattle.farm_call.specs.Serves.{whole_history}
use Rattle.farm_call.specs.declared.left.Left.TheVariants.{Farm}

-- **What it got**: at some moment of the history, g being what came before it, the tile was fetched
-- with this answer, and these are the first bytes of the message that says so. Where it says that the
-- tile is clean, it is the plain drawing of it over the data of that version, and nothing that touches
-- it came between those data and that moment
pub record GotTile (plan : FarmPlan) (tells : Type 0) (h : List Entry) (spot : Spot)
    (got : List ℕ) : Type 0 where
  pub answer : Fetched
  pub later : List Entry
  pub g : List Entry
  pub happened : h ≡ later ++ Fetch spot answer ∷ g
  pub count : ℕ
  pub got_is : got ≡ take count (tile_answer answer)
  pub clean : (v : ℕ) (bytes : List ℕ) → answer ≡ Fetched.Clean v bytes
      → IsClean plan tells g spot v bytes

module _ {D : Type 0} (state : D → Outside StoreTold) (was : CallBefore D) (is : CallAfter D)
    (farm : FarmSeen D) (turns : List (ℕ × Entry)) (end : End) where
  -- A client of a farm that was served, over a connection c of the tile front to which nothing was
  -- sent before, whose bytes ask for the tile of that spot, if for anything: it was sent nothing, or
  -- that
  abbrev pub ClientsGet : Served state was is farm turns end → Type 0
  ClientsGet s = (c : ℕ) (spot : Spot) (before after : PortsTold)
      → s.well.listening.tiles.told ≡ Some before → is.ports.tiles.told ≡ Some after
      → before.taken c ≡ []
      → ((w : HttpAsk) → BytesAsk (maps_in farm.plan)
      (bytes_read (conn s.well.tiles.left.served.rounds c).given) w → w ≡ http_ask.Tile spot)
      → (after.taken c ≡ []) ⊎ GotTile farm.plan
      ((farm.saved ≡ None) × (is_some (state was.store).told ≡ true))
      (whole_history state farm turns) spot (after.taken c)

-- Whoever calls `farm_main` has it of what the call keeps, wherever a farm is left
abbrev pub LawClient : {D : Type 0} → (D → Outside StoreTold) → Type 0
LawClient {D} state = (was : CallBefore D) (is : CallAfter D) (keeps : Keeps state was is)
    (farm : FarmSeen D) (turns : List (ℕ × Entry)) (left : is.left ≡ Farm (farm, turns))
    → ClientsGet state was is farm turns keeps.end (keeps.served farm turns left)
