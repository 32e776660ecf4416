-- What the tile front makes of a connection: which request stands in its bytes, which entries this has, and what is
-- answered to it.
use Rattle.std.specs.Prelude.{◌≡◌, ℕ, ◌<◌, ◌==◌, Bool, true, false, cond, not, ◌&&◌, ◌||◌, List, [], ◌∷◌, ◌++◌, length, Option, Some, None, option_map, unwrap_or}
use Rattle.std.specs.Option.{is_some, is_none, option_eq}
use Rattle.std.specs.List.{list_any}
use Rattle.farm_base.specs.Limits.{most_head_bytes}
use Rattle.farm_history.specs.declared.queues.Conn.{Conn}
use Rattle.farm_history.specs.declared.asks.Spot.{Spot}
use Rattle.farm_history.specs.declared.asks.Cmd.TheVariants as cmd
use Rattle.farm_history.specs.declared.answers.Fetched.{Fetched}
use Rattle.farm_history.specs.declared.answers.Fetched.TheVariants as fetched
use Rattle.farm_history.specs.Entries.{Entry, Ask, Fetch, Look}
use Rattle.farm_history.specs.Past.{number_in}
use Rattle.front_loop.specs.Rules.{Rules, Move, Does, Gets, is_empty, is_cut}
use Rattle.front_loop.specs.Moves.{by_move}
use Rattle.tile_front.specs.declared.targets.Kind.{Kind}
use Rattle.tile_front.specs.declared.targets.Kind.TheVariants as kind
use Rattle.tile_front.specs.Targets.{Place}
use Rattle.tile_front.specs.Heads.{bytes_read, IsOpen, IsBad}
use Rattle.tile_front.specs.Requests.{IsNotGet, GetsNone, GetsTile as GetsPlace}
use Rattle.tile_front.specs.declared.faults.Fault.TheVariants as fault
use Rattle.tile_front.specs.Answers.{fault_answer, tile_answer, status_answer, dirty_answer}
use Rattle.tile_front.specs.declared.acts.HttpAsk.{HttpAsk}
use Rattle.tile_front.specs.declared.acts.HttpAsk.TheVariants as http_ask
use Rattle.tile_front.specs.declared.acts.Act.{Act}
use Rattle.tile_front.specs.declared.acts.Act.TheVariants as act
use Rattle.tile_front.specs.declared.conn_states.ConnState.{ConnState}
use Rattle.tile_front.specs.ConnStates.{is_reading, is_answered, waits_in, spot_at}

-- ---- what the bytes ask

-- a head that gets this of a spot, where these are the farm's maps by their names
abbrev pub GetsSpot : (List ℕ → Option ℕ) → List ℕ → Kind → Spot → Type 0
GetsSpot maps bytes k s =
    (p : Place) × GetsPlace bytes k p
    × (s ≡ record { map = maps p.name; z = p.z; x = p.x; y = p.y })

-- the bytes ask this
abbrev pub BytesAsk : (List ℕ → Option ℕ) → List ℕ → HttpAsk → Type 0
BytesAsk maps bytes http_ask.Bad = IsBad bytes
BytesAsk maps bytes http_ask.NotGet = IsNotGet bytes
BytesAsk maps bytes http_ask.NoTarget = GetsNone bytes
BytesAsk maps bytes (http_ask.Tile s) = GetsSpot maps bytes kind.Tile s
BytesAsk maps bytes (http_ask.Status s) = GetsSpot maps bytes kind.Status s
BytesAsk maps bytes (http_ask.Dirty s) = GetsSpot maps bytes kind.Dirty s

-- a connection has one request: none stands in its bytes while more are waited for
abbrev pub Wants : (List ℕ → Option ℕ) → List ℕ → List HttpAsk → Type 0
Wants maps given [] = IsOpen (bytes_read given)
Wants maps given (w ∷ []) = BytesAsk maps (bytes_read given) w
Wants maps given _ = ⊥

-- ---- what is answered

-- a fetch found no memory
abbrev pub found_no_memory : Fetched → Bool
found_no_memory fetched.NoMemory = true
found_no_memory _ = false

-- the answer to an ask for which nothing is asked of the farm
abbrev pub refusal : HttpAsk → Option (List ℕ)
refusal http_ask.Bad = Some (fault_answer fault.BadRequest)
refusal http_ask.NotGet = Some (fault_answer fault.NotAllowed)
refusal http_ask.NoTarget = Some (fault_answer fault.NotFound)
refusal _ = None

-- ---- what is done

-- what is made of an ask that was done
pub record AskDone : Type 0 where
  -- the ask, and its entries on a connection
  pub asked : HttpAsk
  pub entries : Conn → List Entry
  -- the ask of the farm that waits for a reply: its number and its spot
  pub waits : Option (ℕ × Spot)
  -- the answer, if it has one yet; and whether an entry was answered with want of memory
  pub answer : Option (List ℕ)
  pub starves : Bool
  -- it is so that it may be
  pub fits : Bool

-- what is made of an ask that is answered at once
abbrev pub at_once : HttpAsk → (Conn → List Entry) → List ℕ → AskDone
at_once w entries text = record {
  asked = w;
  entries = entries;
  waits = None;
  answer = Some text;
  starves = false;
  fits = true;
}

-- **The asks, their entries and their answers.** A tile is fetched at once where its ask does not wait; a worn turn
-- leaves it without its Fetch.
abbrev pub ask_done : Act → AskDone
ask_done (act.Refused w) =
    record (at_once w (λ c. []) []) { answer = refusal w; fits = is_some (refusal w) }
ask_done (act.Asked s a) =
    record (at_once (http_ask.Tile s) (λ c. Ask c cmd.Render s a ∷ []) [])
    { waits = option_map (λ n. (n, s)) (number_in a); answer = None }
ask_done (act.Served s a f) =
    record (at_once (http_ask.Tile s) (λ c. Ask c cmd.Render s a ∷ Fetch s f ∷ []) (tile_answer f))
    { starves = found_no_memory f; fits = is_none (number_in a) }
ask_done (act.Seen s l) = at_once (http_ask.Status s) (λ c. Look s l ∷ []) (status_answer l)
ask_done (act.Marked s a) = at_once (http_ask.Dirty s) (λ c. Ask c cmd.Dirty s a ∷ []) dirty_answer

-- the ask that waits after the moves, until the reply to it comes
abbrev pub waiting_ask : List (Move Act) → Option (ℕ × Spot)
waiting_ask [] = None
waiting_ask (Does a ∷ ms) = (ask_done a).waits
waiting_ask (Gets r behind ∷ ms) =
    cond (is_some (spot_at r.ask (waiting_ask ms))) None (waiting_ask ms)

-- ---- which entries stand behind a Collect

-- none, or the Fetch of the spot that waited
abbrev pub fits_behind : Option Spot → List Entry → Bool
fits_behind o [] = true
fits_behind (Some s) (Fetch t f ∷ []) =
    option_eq (λ m n. m == n) s.map t.map && (s.z == t.z && (s.x == t.x && s.y == t.y))
fits_behind _ _ = false

-- ---- the rules

-- what the Fetch behind a Collect gave
abbrev pub fetched_behind : List Entry → Option Fetched
fetched_behind (Fetch s f ∷ es) = Some f
fetched_behind es = None

-- the move answers the request
abbrev pub answers : Move Act → Bool
answers m = by_move (λ a. is_some (ask_done a).answer) (λ r behind. not (is_empty behind)) m

-- **What the tile front of that number makes of a connection**, where these are the farm's maps by their names. An ask
-- is whole where it is answered or waits. A reply for which a tile waits has its Fetch, but where it is Cut.
abbrev pub tile_rules : ℕ → (List ℕ → Option ℕ) → Rules Act HttpAsk
tile_rules front maps = record {
  number = front;
  wanted = Wants maps;
  refuses = λ given. false;
  want = λ a. (ask_done a).asked;
  entries = λ c a. (ask_done a).entries (record { front = front; number = c });
  fits = λ ms m. by_move (λ a. (ask_done a).fits)
      (λ r behind. fits_behind (spot_at r.ask (waiting_ask ms)) behind) m;
  whole = λ ms m. by_move (λ a. is_some (ask_done a).answer || is_some (ask_done a).waits)
      (λ r behind. is_none (spot_at r.ask (waiting_ask ms))
      || (not (is_empty behind) || is_cut m)) m;
  says = λ ms m. by_move (λ a. unwrap_or (ask_done a).answer [])
      (λ r behind. unwrap_or (option_map tile_answer (fetched_behind behind)) []) m;
  starves = λ m. by_move (λ a. (ask_done a).starves)
      (λ r behind. unwrap_or (option_map found_no_memory (fetched_behind behind)) false) m;
  ends = λ ms. list_any answers ms;
}

-- ---- what is kept of a session

-- what was asked, in order
abbrev pub http_asks : List (Move Act) → List HttpAsk
http_asks [] = []
http_asks (Does a ∷ ms) = http_asks ms ++ (ask_done a).asked ∷ []
http_asks (Gets r behind ∷ ms) = http_asks ms

-- While the head is read, all bytes are kept, and nothing was asked; then one ask was. The ask that waits is kept,
-- and whether all was answered.
pub record Knows (given : List ℕ) (ms : List (Move Act)) (conn_state : ConnState) : Type 0 where
  pub head : is_reading conn_state.stage ≡ true
      → (conn_state.head.items ≡ given) × (length given < most_head_bytes) × (http_asks ms ≡ [])
  pub once : is_reading conn_state.stage ≡ false → (w : HttpAsk) × (http_asks ms ≡ w ∷ [])
  pub waits : waiting_ask ms ≡ waits_in conn_state.stage
  pub ends : list_any answers ms ≡ is_answered conn_state.stage
