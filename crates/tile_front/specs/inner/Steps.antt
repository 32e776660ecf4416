-- The steps of the tile front's calls: what is found in a head, what a fetch and an ask leave.
use Rattle.std.specs.Option.{is_some, option_eq}
use Rattle.std.specs.Prelude.{◌≡◌, ℕ, ◌==◌, Bool, true, false, ◌&&◌, ◌||◌, ◌⊎◌, List, [], ◌∷◌, ◌++◌, Option, Some, None, unwrap_or}
use Rattle.farm_history.specs.declared.asks.Spot.{Spot}
use Rattle.farm_history.specs.declared.queues.Conn.{Conn}
use Rattle.farm_history.specs.declared.answers.Fetched.{Fetched}
use Rattle.farm_history.specs.Entries.{Entry, Fetch}
use Rattle.front_loop.specs.declared.dispositions.Disposition.{Disposition}
use Rattle.front_loop.specs.declared.dispositions.Disposition.TheVariants.{Stays, Leaves}
use Rattle.front_loop.specs.declared.dispositions.Reason.TheVariants as reason
use Rattle.front_loop.specs.declared.context.Context.{Context}
use Rattle.front_loop.specs.Front.{keeps}
use Rattle.front_loop.specs.Rules.{Rules}
use Rattle.tile_front.specs.Heads.{IsOpen}
use Rattle.tile_front.specs.Answers.{tile_answer}
use Rattle.tile_front.specs.declared.acts.HttpAsk.{HttpAsk}
use Rattle.tile_front.specs.declared.acts.Act.{Act}
use Rattle.tile_front.specs.declared.conn_states.Stage.{Stage}
use Rattle.tile_front.specs.declared.fronts.Tiles.{Tiles}
use Rattle.tile_front.specs.ConnStates.{is_reading, is_answered, waits_in}
use Rattle.tile_front.specs.Tiles.{BytesAsk, found_no_memory, ask_done, tile_rules}

-- the rules of a tile front at a farm, of what a step of it works with
abbrev pub rules_at : {R M : Type 0} → (M → List ℕ → Option ℕ) → Context R M Tiles
    → Rules Act HttpAsk
rules_at map_at work = tile_rules work.front.now.front (map_at work.farm.now)

-- ---- an act, by what is made of it

-- the ask that was done
abbrev pub want : Act → HttpAsk
want a = (ask_done a).asked

-- its entries on a connection
abbrev pub tile_entries : Conn → Act → List Entry
tile_entries c a = (ask_done a).entries c

-- the ask of the farm that waits after it
abbrev pub waits_by : Act → Option (ℕ × Spot)
waits_by a = (ask_done a).waits

-- it is so that it may be
abbrev pub fits_act : Act → Bool
fits_act a = (ask_done a).fits

-- it is answered, or waits
abbrev pub whole_act : Act → Bool
whole_act a = is_some (ask_done a).answer || is_some (ask_done a).waits

-- the bytes that are answered to it
abbrev pub answer_of : Act → List ℕ
answer_of a = unwrap_or (ask_done a).answer []

-- it is answered
abbrev pub is_answer : Act → Bool
is_answer a = is_some (ask_done a).answer

-- an entry of it was answered with want of memory
abbrev pub starves_act : Act → Bool
starves_act a = (ask_done a).starves

-- ---- spots

-- both are the same spot
abbrev pub same_spot : Spot → Spot → Bool
same_spot s t = option_eq (λ m n. m == n) s.map t.map && (s.z == t.z && (s.x == t.x && s.y == t.y))

-- ---- the steps

-- the ask that stands in the bytes, or none while more are waited for
abbrev pub Finds : (List ℕ → Option ℕ) → List ℕ → Option HttpAsk → Type 0
Finds maps bytes None = IsOpen bytes
Finds maps bytes (Some w) = BytesAsk maps bytes w

-- a session goes on, or is left for want of memory: of an entry, or of another that no entry shows
abbrev pub WhyOf : Bool → Disposition → Type 0
WhyOf starved Stays = starved ≡ false
WhyOf starved (Leaves reason.NoMemory) = starved ≡ true
WhyOf starved (Leaves reason.Starved) = starved ≡ false
WhyOf starved (Leaves _) = ⊥

-- a text was said, or there was no memory for it
pub record Says (text response : List ℕ) (disposition : Disposition) : Type 0 where
  pub why : WhyOf false disposition
  pub response_is : keeps disposition ≡ true → response ≡ text

-- nothing was done: the turn was worn
abbrev pub IsIdle : List Entry → List Entry → Disposition → Type 0
IsIdle mine mine' disposition = (mine' ≡ mine) × (disposition ≡ Leaves reason.Starved)

-- the tile was fetched, and its answer said
pub record DidFetch (s : Spot) (mine mine' : List Entry) (response : List ℕ)
    (disposition : Disposition) (f : Fetched) : Type 0 where
  pub mine_is : mine' ≡ mine ++ Fetch s f ∷ []
  pub why : WhyOf (found_no_memory f) disposition
  pub response_is : keeps disposition ≡ true → response ≡ tile_answer f

-- the tile was fetched, or the turn was worn
abbrev pub Fetches : Spot → List Entry → List Entry → List ℕ → Disposition → Type 0
Fetches s mine mine' response disposition =
    IsIdle mine mine' disposition ⊎ ((f : Fetched) × DidFetch s mine mine' response disposition f)

-- the ask was done, as this act
pub record DidHttpAsk (c : Conn) (w : HttpAsk) (mine mine' : List Entry) (stage : Stage)
    (response : List ℕ) (disposition : Disposition) (a : Act) : Type 0 where
  pub want_is : want a ≡ w
  pub mine_is : mine' ≡ mine ++ tile_entries c a
  pub fits : fits_act a ≡ true
  pub why : WhyOf (starves_act a) disposition
  pub response_is : keeps disposition ≡ true → response ≡ answer_of a
  pub whole : keeps disposition ≡ true → whole_act a ≡ true
  pub read : keeps disposition ≡ true → is_reading stage ≡ false
  pub waits : keeps disposition ≡ true → waits_by a ≡ waits_in stage
  pub ends : keeps disposition ≡ true → is_answer a ≡ is_answered stage

-- the ask was done, or the turn was worn
abbrev pub DoesHttpAsk : Conn → HttpAsk → List Entry → List Entry → Stage → List ℕ → Disposition
    → Type 0
DoesHttpAsk c w mine mine' stage response disposition =
    IsIdle mine mine' disposition
    ⊎ ((a : Act) × DidHttpAsk c w mine mine' stage response disposition a)
