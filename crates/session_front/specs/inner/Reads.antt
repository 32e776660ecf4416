-- What is read of a connection's bytes, and what is kept of it.
use Rattle.std.specs.Prelude.{◌≡◌, ◌==◌, ◌≤◌, ℕ, Bool, cond, List, [], ◌∷◌, ◌++◌, drop, filter, length, map, MatchResult, Option, option_map, option_to_list, Result, unwrap_or}
use Rattle.std.specs.Option.{is_some}
use Rattle.renderd_protocol.specs.declared.messages.Request.{Request}
use Rattle.renderd_protocol.specs.declared.messages.Found.TheVariants.{Message}
use Rattle.renderd_protocol.specs.Messages.{found_in}
use Rattle.renderd_protocol.specs.Stream.{stream_read}
use Rattle.farm_history.specs.declared.queues.Conn.{Conn}
use Rattle.farm_history.specs.declared.asks.Spot.{Spot}
use Rattle.farm_history.specs.declared.asks.Cmd.{Cmd}
use Rattle.farm_history.specs.declared.asks.AskAnswer.{AskAnswer}
use Rattle.farm_history.specs.Entries.{Entry, Ask}
use Rattle.front_loop.specs.declared.dispositions.Disposition.{Disposition}
use Rattle.front_loop.specs.declared.dispositions.Disposition.TheVariants.{Stays, Leaves}
use Rattle.front_loop.specs.declared.dispositions.Reason.TheVariants as reason
use Rattle.front_loop.specs.Calls.{Seats}
use Rattle.front_loop.specs.declared.context.Context.{Context}
use Rattle.front_loop.specs.Rules.{Move}
use Rattle.front_loop.specs.Front.{with_acts}
use Rattle.session_front.specs.declared.asked.Asked.{Asked}
use Rattle.session_front.specs.declared.asking.Halt.{Halt}
use Rattle.session_front.specs.declared.renderd.Renderd.{Renderd}
use Rattle.session_front.specs.declared.waits.Waiting.{Waiting}
use Rattle.session_front.specs.declared.waits.ConnState.{ConnState}
use Rattle.session_front.specs.Renderd.{command_of, answer_command, is_bad, response_to, waiting_requests, with_wait, renderd_rules}
use Rattle.farm_history.specs.Past.{number_in}

-- the entry of an ask
abbrev pub asks_by : Conn → Option Cmd → Spot → AskAnswer → List Entry
asks_by conn command spot a = option_to_list (option_map (λ c. Ask conn c spot a) command)

-- nothing is answered where no request waits for the reply
abbrev pub response_for : Option ℕ → Option (ℕ × Request) → List ℕ
response_for command waits =
    unwrap_or (option_map (λ (w : ℕ × Request). response_to command w.1) waits) []

-- the requests that are asked: those with another command are skipped
abbrev pub asks_in : List Request → List Request
asks_in rs = filter (λ (r : Request). is_some (command_of r.cmd)) rs

-- the ask of this number
abbrev pub is_wait : ℕ → ℕ × Request → Bool
is_wait n w = w.0 == n

-- an ask that waits: its number, and its request
abbrev pub pair_of : Waiting → ℕ × Request
pair_of w = (w.number, w.request)

abbrev pub pairs : List Waiting → List (ℕ × Request)
pairs ws = map pair_of ws

-- the asks that stand in the bytes
abbrev pub asks_of : List ℕ → List Request
asks_of bytes = asks_in (stream_read bytes).requests

-- Of asks that were made, the newest first: their requests, what was answered at once, and those that wait, behind others.

abbrev pub requests_of : List Asked → List Request
requests_of [] = []
requests_of (a ∷ acts) = requests_of acts ++ a.request ∷ []

abbrev pub response_by : List Asked → List ℕ
response_by [] = []
response_by (a ∷ acts) = response_by acts ++ response_to (answer_command a.answer) a.request

abbrev pub waits_after : List Asked → List (ℕ × Request) → List (ℕ × Request)
waits_after [] ws = ws
waits_after (a ∷ acts) ws = with_wait (number_in a.answer) a.request (waits_after acts ws)

-- no whole message stands next
abbrev pub HasNoneNext : List ℕ → Type 0
HasNoneNext bytes = (request : Request) (len : ℕ) → found_in bytes ≡ Message request len → ⊥

-- These requests were asked, answered and kept
pub record Made (front : ℕ) (maps : List ℕ → Option ℕ) (c : ℕ) (asks : List Request)
    (mine mine' : List Entry) (waits waits' : List (ℕ × Request)) (response response' : List ℕ)
    : Type 0 where
  pub acts : List Asked
  pub mine_is : mine' ≡ with_acts (renderd_rules front maps) c acts mine
  pub asks_are : asks ≡ requests_of acts
  pub waits_are : waits' ≡ waits_after acts waits
  pub response_is : response' ≡ response ++ response_by acts

-- the asking was given up, after the first of these requests were asked
pub record Halts (front : ℕ) (maps : List ℕ → Option ℕ) (c : ℕ) (asks : List Request)
    (mine mine' : List Entry) : Type 0 where
  pub acts : List Asked
  pub more : List Request
  pub mine_is : mine' ≡ with_acts (renderd_rules front maps) c acts mine
  pub asks_are : asks ≡ requests_of acts ++ more

-- the bytes were read up to this rest: the asks that stand before it were made
pub record Reads (front : ℕ) (maps : List ℕ → Option ℕ) (c : ℕ) (bytes rest : List ℕ)
    (mine mine' : List Entry) (waits waits' : List (ℕ × Request)) (response response' : List ℕ)
    : Type 0 where
  pub asks : List Request
  pub made : Made front maps c asks mine mine' waits waits' response response'
  pub whole : asks_of bytes ≡ asks ++ asks_of rest
  pub left : (stream_read bytes).rest ≡ (stream_read rest).rest

-- What follows is done on a farm's seat, by a front at it, on the connection of this number.
module _ {R M S P : Type 0} (map_at : M → List ℕ → Option ℕ) (seats : M → Seats S P)
    (work : Context R M Renderd) (c : ℕ) where
  -- a request was asked, or the asking was given up
  abbrev pub AsksOne : Request → S → S → List Waiting → List Waiting → List ℕ → List ℕ
      → Result (Unit {0}) Halt → Type 0
  AsksOne request seat seat' waits waits' response response' result =
      let front = work.front.now.front in
      let maps = map_at work.farm.now in
      let mine = (seats work.farm.now).mine in
      MatchResult result
      (λ _. Made front maps c (asks_in (request ∷ [])) (mine seat) (mine seat') (pairs waits)
      (pairs waits') response response')
      (λ _. Halts front maps c (asks_in (request ∷ [])) (mine seat) (mine seat'))

  -- the whole messages that the bytes begin with were read, up to the bytes that are left; or the
  -- asking was given up
  abbrev pub ReadsAll : List ℕ → S → S → List Waiting → List Waiting → List ℕ → List ℕ
      → Result ℕ Halt → Type 0
  ReadsAll bytes seat seat' waits waits' response response' result =
      let front = work.front.now.front in
      let maps = map_at work.farm.now in
      let mine = (seats work.farm.now).mine in
      MatchResult result
      (λ used. (used ≤ length bytes) × HasNoneNext (drop used bytes)
      × Reads front maps c bytes (drop used bytes) (mine seat) (mine seat') (pairs waits)
      (pairs waits') response response')
      (λ _. Halts front maps c (asks_of bytes) (mine seat) (mine seat'))

-- what is kept of a connection is the bytes after its last whole message, and its asks that wait
pub record Knows (given : List ℕ) (ms : List (Move Asked)) (conn_state : ConnState) : Type 0 where
  pub unread : conn_state.unread.items ≡ (stream_read given).rest
  pub waits : pairs conn_state.waits.items ≡ waiting_requests ms

-- what becomes of a connection whose bytes were read up to these
abbrev pub disposition_at : List ℕ → Disposition
disposition_at bytes = cond (is_bad (found_in bytes)) (Leaves reason.Unread) Stays
