-- A front at a moment, and what each step makes of one moment from another.
use Rattle.std.specs.Prelude.{ℕ, Bool, List, Option, Some, Result, MatchResult}
use Rattle.farm_base.specs.Outside.{Outside}
use Rattle.farm_base.specs.declared.turns.Worn.{Worn}
use Rattle.farm_history.specs.declared.answers.Collected.{Collected}
use Rattle.farm_history.specs.declared.queues.Reply.{Reply}
use Rattle.reactor_ports.specs.declared.events.PortEvent.{PortEvent}
use Rattle.reactor_ports.specs.declared.events.PortEvent.TheVariants as event
use Rattle.reactor_ports.specs.declared.ends.FrontEnd.{FrontEnd}
use Rattle.reactor_ports.specs.Told.{PortsTold}
use Rattle.front_loop.specs.declared.hearing.Came.{Came}
use Rattle.front_loop.specs.declared.sessions.Session.{Session}
use Rattle.front_loop.specs.declared.sessions.SessionTable.{SessionTable}
use Rattle.front_loop.specs.Rules.{Rules, Move}
use Rattle.front_loop.specs.Calls.{Seats}
use Rattle.front_loop.specs.inner.Stands.{World}
use Rattle.front_loop.specs.inner.Stages.{CutShort, Comes, CanCollect, CanOffer, CanLeave, IsOver, CanGo, Goes, CollectsOne, HearsOne, HearsWorn, RepliesOne, AnswersWorn}

-- a front at one moment: its ports, its seat and its table
pub record Moment (S T : Type 0) : Type 0 where
  pub ports : Outside PortsTold
  pub seat : S
  pub table : SessionTable T

-- the moment of these
abbrev pub at : {S T : Type 0} → Outside PortsTold → S → SessionTable T → Moment S T
at ports seat table = record { ports = ports; seat = seat; table = table }

module _ {A W T S P : Type 0} (R : Rules A W) (K : List ℕ → List (Move A) → T → Type 0)
    (seats : Seats S P) where
  -- all that rounds are told by at a moment, where the ports tell this
  abbrev pub world_by : Option PortsTold → Moment S T → World T
  world_by told m =
      record {
        told = told;
        mine = seats.mine m.seat;
        sessions = m.table.sessions.items;
        box = m.table.answers.outbox;
        starved = m.table.starved;
      }

  -- and what they told then
  abbrev pub world : Moment S T → World T
  world m = world_by m.ports.told m

  -- a worn turn has cut a round short
  abbrev pub IsCut : Option PortsTold → Moment S T → Type 0
  IsCut start m = CutShort R K start m.ports.told (seats.mine m.seat) m.table.starved

  -- a round may start with this event, which came
  abbrev pub MayBeginWith : PortEvent → List ℕ → Moment S T → Type 0
  MayBeginWith e piece old =
      (start was : Option PortsTold) × Comes R K e piece start old.ports.told (world_by was old)

  abbrev pub MayStart : Came → Moment S T → Type 0
  MayStart came old = MayBeginWith came.event came.piece.now old

  abbrev pub MayHear : ℕ → List ℕ → Moment S T → Type 0
  MayHear conn piece old = MayBeginWith (event.Bytes conn) piece old

  -- it started, up to the replies
  abbrev pub BeginsWith : PortEvent → List ℕ → Moment S T → Moment S T → Result (Unit {0}) Worn
      → Type 0
  BeginsWith e piece old new result =
      (start was : Option PortsTold) → Comes R K e piece start old.ports.told (world_by was old)
      → MatchResult result (λ _. CanCollect R K e start (world new)) (λ _. IsCut start new)

  abbrev pub Starts : Came → Moment S T → Moment S T → Result (Unit {0}) Worn → Type 0
  Starts came old new result = BeginsWith came.event came.piece.now old new result

  abbrev pub HearsPiece : ℕ → List ℕ → Moment S T → Moment S T → Result (Unit {0}) Worn → Type 0
  HearsPiece conn piece old new result = BeginsWith (event.Bytes conn) piece old new result

  -- it was played to its end
  abbrev pub Plays : Came → Moment S T → Moment S T → Result (Option FrontEnd) Worn → Type 0
  Plays came old new result =
      (start was : Option PortsTold)
      → Comes R K came.event came.piece.now start old.ports.told (world_by was old)
      → MatchResult result (λ end. Goes R K start (world new) end) (λ _. IsCut start new)

  -- replies may be collected
  abbrev pub MayCollect : Moment S T → Type 0
  MayCollect old =
      (e : PortEvent) × ((start : Option PortsTold) × CanCollect R K e start (world old))

  -- one Collect, with all that its reply makes
  abbrev pub Collects : Moment S T → Moment S T → Result Collected Worn → Type 0
  Collects old new result =
      (e : PortEvent) (start : Option PortsTold) → CanCollect R K e start (world old)
      → MatchResult result (λ x. CollectsOne R K e start (world new) x) (λ _. IsCut start new)

  -- all Collects, up to the one that gave no reply
  abbrev pub CollectsAll : Moment S T → Moment S T → Result Bool Worn → Type 0
  CollectsAll old new result =
      (e : PortEvent) (start : Option PortsTold) → CanCollect R K e start (world old)
      → MatchResult result (λ stopped. CanOffer R K e stopped start (world new))
      (λ _. IsCut start new)

  -- bytes may be offered
  abbrev pub MayOffer : Moment S T → Type 0
  MayOffer old =
      (e : PortEvent)
      × ((stopped : Bool) × ((start : Option PortsTold) × CanOffer R K e stopped start (world old)))

  -- all offers
  abbrev pub OffersAll : Moment S T → Moment S T → Type 0
  OffersAll old new =
      (e : PortEvent) (stopped : Bool) (start : Option PortsTold)
      → CanOffer R K e stopped start (world old) → CanLeave R K e stopped start (world new)

  -- connections may be left
  abbrev pub MayLeave : Moment S T → Type 0
  MayLeave old =
      (e : PortEvent)
      × ((stopped : Bool) × ((start : Option PortsTold) × CanLeave R K e stopped start (world old)))

  -- one connection is left
  abbrev pub LeavesOne : Moment S T → Moment S T → Result (Unit {0}) Worn → Type 0
  LeavesOne old new result =
      (e : PortEvent) (stopped : Bool) (start : Option PortsTold)
      → CanLeave R K e stopped start (world old)
      → MatchResult result (λ _. CanLeave R K e stopped start (world new)) (λ _. IsCut start new)

  -- all that leave are left
  abbrev pub LeavesAll : Moment S T → Moment S T → Result (Unit {0}) Worn → Type 0
  LeavesAll old new result =
      (e : PortEvent) (stopped : Bool) (start : Option PortsTold)
      → CanLeave R K e stopped start (world old)
      → MatchResult result (λ _. IsOver R K e stopped start (world new)) (λ _. IsCut start new)

  -- a round may begin
  abbrev pub MayGo : Moment S T → Type 0
  MayGo old = (start : Option PortsTold) × CanGo R K start (world old)

  -- one round
  abbrev pub GoesOnce : Moment S T → Moment S T → Result (Option FrontEnd) Worn → Type 0
  GoesOnce old new result = (start : Option PortsTold) → CanGo R K start (world old)
      → MatchResult result (λ end. Goes R K start (world new) end) (λ _. IsCut start new)

  -- rounds, until the front ends
  abbrev pub GoesOn : Moment S T → Moment S T → Result FrontEnd Worn → Type 0
  GoesOn old new result = (start : Option PortsTold) → CanGo R K start (world old)
      → MatchResult result (λ end. Goes R K start (world new) (Some end)) (λ _. IsCut start new)

  -- a piece is heard on one session
  abbrev pub HearsOn : List ℕ → S → S → Session T → Session T → List (ℕ × List ℕ)
      → List (ℕ × List ℕ) → Result (Unit {0}) Worn → Type 0
  HearsOn piece seat seat' s s' box box' result =
      MatchResult result
      (λ _. HearsOne R K piece (seats.mine seat) (seats.mine seat') s s' box box')
      (λ _. HearsWorn R K s.conn piece (seats.mine seat) (seats.mine seat') s.conn_state)

  -- a reply comes for one session
  abbrev pub RepliesOn : Reply → S → S → Session T → Session T → List (ℕ × List ℕ)
      → List (ℕ × List ℕ) → Result (Unit {0}) Worn → Type 0
  RepliesOn reply seat seat' s s' box box' result =
      MatchResult result
      (λ _. RepliesOne R K reply (seats.mine seat) (seats.mine seat') s s' box box')
      (λ _. AnswersWorn R K reply (seats.mine seat) (seats.mine seat') s)
