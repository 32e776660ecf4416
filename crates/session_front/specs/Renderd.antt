-- What the renderd front makes of a connection: which asks stand in its bytes, and what is answered to them.
use Rattle.std.specs.Prelude.{◌≡◌, ℕ, Bool, true, false, ◌==◌, cond, List, [], ◌∷◌, ◌++◌, codes, filter, find, Option, Some, None, option_map, option_to_list, unwrap_or}
use Rattle.std.specs.Option.{is_some}
use Rattle.renderd_protocol.specs.declared.messages.Request.{Request}
use Rattle.renderd_protocol.specs.declared.messages.Found.{Found}
use Rattle.renderd_protocol.specs.declared.messages.Found.TheVariants.{BadVersion}
use Rattle.renderd_protocol.specs.Messages.{found_in, wire_of}
use Rattle.renderd_protocol.specs.Stream.{stream_read}
use Rattle.farm_history.specs.declared.queues.Outcome.{Outcome}
use Rattle.farm_history.specs.declared.queues.Outcome.TheVariants as outcome
use Rattle.farm_history.specs.declared.asks.Spot.{Spot}
use Rattle.farm_history.specs.declared.asks.Cmd.{Cmd}
use Rattle.farm_history.specs.declared.asks.Cmd.TheVariants as cmd
use Rattle.farm_history.specs.declared.asks.AskAnswer.{AskAnswer}
use Rattle.farm_history.specs.declared.asks.AskAnswer.TheVariants as answer
use Rattle.farm_history.specs.Entries.{Ask}
use Rattle.farm_history.specs.Past.{number_in}
use Rattle.farm_history.specs.Lists.{without_first}
use Rattle.front_loop.specs.Rules.{Rules, Move, Does, Gets, is_empty}
use Rattle.front_loop.specs.Moves.{by_move}
use Rattle.session_front.specs.declared.asked.Asked.{Asked}

-- Which asks stand in the bytes.

-- the commands that are asked: renderd's numbers 1, 5, 7, 6 and 2
abbrev pub command_of : ℕ → Option Cmd
command_of n =
    cond (n == 1) (Some cmd.Render)
    (cond (n == 5) (Some cmd.Prio)
    (cond (n == 7) (Some cmd.Low)
    (cond (n == 6) (Some cmd.Bulk)
    (cond (n == 2) (Some cmd.Dirty) None))))

-- an unknown version stands next
abbrev pub is_bad : Found → Bool
is_bad (BadVersion version) = true
is_bad _ = false

-- version 1 names the map `default`
abbrev pub asked_map : Request → List ℕ
asked_map r = cond (r.ver == 1) (codes "default") r.name.items

-- what is asked for, at a farm with these maps
abbrev pub request_spot : (List ℕ → Option ℕ) → Request → Spot
request_spot maps r = record { map = maps (asked_map r); z = r.z; x = r.x; y = r.y }

-- What is answered at once.

-- the command of the answer: 3 for Done, 4 for every NotDone, none for Dirty and for an ask that waits
abbrev pub answer_command : AskAnswer → Option ℕ
answer_command answer.Done = Some 3
answer_command (answer.NotDone why) = Some 4
answer_command _ = None

-- an answer repeats its request, with a command of its own
abbrev pub response_to : Option ℕ → Request → List ℕ
response_to command r = unwrap_or (option_map (wire_of r) command) []

-- What is answered to a reply.

-- the requests that wait, each with the number of its ask
abbrev pub with_wait : Option ℕ → Request → List (ℕ × Request) → List (ℕ × Request)
with_wait (Some n) r ws = ws ++ (n, r) ∷ []
with_wait None r ws = ws

-- the requests that wait after these moves
abbrev pub waiting_requests : List (Move Asked) → List (ℕ × Request)
waiting_requests [] = []
waiting_requests (Does a ∷ ms) = with_wait (number_in a.answer) a.request (waiting_requests ms)
waiting_requests (Gets r behind ∷ ms) =
    without_first (λ (w : ℕ × Request). w.0 == r.ask) (waiting_requests ms)

-- the command of the answer to a reply: 3 for Done, 4 for NotDone, none for Cut
abbrev pub outcome_command : Outcome → Option ℕ
outcome_command o = elim o [ outcome.Done ↦ Some 3 | outcome.NotDone ↦ Some 4 | outcome.Cut ↦ None ]

-- The front.

-- What the renderd front makes of a connection, where it has this number and the farm has these maps. A request with a
-- command that is none of the five is skipped. An ask is one entry, and
-- nothing stands behind the Collect of a reply. Nothing is answered to a reply for which no request waits. An unknown
-- version ends the connection; nothing else does, and no entry of it says that memory is wanting.
abbrev pub renderd_rules : ℕ → (List ℕ → Option ℕ) → Rules Asked Request
renderd_rules front maps = record {
  number = front;
  wanted = λ given ws.
      filter (λ (r : Request). is_some (command_of r.cmd)) (stream_read given).requests ≡ ws;
  refuses = λ given. is_bad (found_in (stream_read given).rest);
  want = λ a. a.request;
  entries = λ c a. option_to_list (option_map
      (λ command. Ask (record { front = front; number = c }) command
      (request_spot maps a.request) a.answer)
      (command_of a.request.cmd));
  fits = λ ms m. by_move (λ a. true) (λ r behind. is_empty behind) m;
  whole = λ ms m. true;
  says = λ ms m. by_move (λ (a : Asked). response_to (answer_command a.answer) a.request)
      (λ r behind. unwrap_or (option_map
      (λ (w : ℕ × Request). response_to (outcome_command r.outcome) w.1)
      (find (λ (w : ℕ × Request). w.0 == r.ask) (waiting_requests ms))) []) m;
  starves = λ m. false;
  ends = λ ms. false;
}
